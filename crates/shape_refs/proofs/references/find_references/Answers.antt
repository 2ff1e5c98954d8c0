use Rattle.std.specs.Prelude.{◌≡◌, ℕ, ◌++◌, get_or, map, Vec}
use Rattle.std.specs.declared.alloc.Global.{Global}
use Rattle.std.proofs.Common.{sym, ap, ◌∙◌}
use Rattle.std.proofs.lemmas.Grind.{flat_map-append}
use Rattle.shape_decl.specs.Declarations.{Declaration, told_decl}
use Rattle.shape_refs.specs.References.{named_by, references_of, siblings_of}
use Rattle.shape_refs.specs.inner.Places.{if_any, place_of, places_of}
use Rattle.shape_refs.proofs.RowLemmas.{row_made, rows_more}
use Rattle.shape_refs.proofs.references.find_references.Goals as goal

pub loop-at-preserved : goal.loop-at-preserved
loop-at-preserved c =
    let decls = c.args.declared.now.decls.now in
    let ds = map told_decl decls in
    let terms = c.args.declared.now.pool.now.terms in
    let at = c.loop-at.at in
    let found = c.index-declared-at.result in
    let d = told_decl (get_or decls at found) in
    let inside = c.loop-at-test.true in
    let items = λ (row : Vec ℕ Global). row.items in
    let row = c.add_places-in-loop-at.new.row in
    let named : c.deref.result.now ≡ named_by d = c.deref.ensures.value ∙ c.in_ok-named_by.ensures in
    let siblings : c.deref-in-loop-at.result.now ≡ siblings_of terms ds d =
    c.deref-in-loop-at.ensures.value
    ∙ row_made items (siblings_of terms ds) told_decl decls at found inside c.args.siblings.now
    c.index-siblings-at.result c.requires c.index-siblings-at.is in
    let made : row.items ≡ places_of ds (references_of terms ds d) =
    c.in_ok-add_places-2.ensures
    ∙ ap (λ ns. c.add_places.new.row.items ++ places_of ds ns) siblings
    ∙ ap (λ ps. ps ++ places_of ds (siblings_of terms ds d))
    (c.in_ok-add_places.ensures ∙ ap (λ ps. ps ++ places_of ds c.deref.result.now) c.new-row.ensures.items
    ∙ ap (places_of ds) named)
    ∙ sym (flat_map-append (λ node. if_any (place_of ds node)) (named_by d) (siblings_of terms ds d)) in
    ap (map items) c.in_ok-push.ensures.items
    ∙ rows_more items (λ (d : Declaration). places_of ds (references_of terms ds d)) told_decl decls at found
    inside c.loop-at.rows.items row c.loop-at.invariant made
