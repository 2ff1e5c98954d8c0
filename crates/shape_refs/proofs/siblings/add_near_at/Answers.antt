use Rattle.std.specs.Prelude.{◌<◌, ◌++◌, length, map, Some, None}
use Rattle.std.proofs.Common.{sym, ap, ◌∙◌, arith}
use Rattle.shape_decl.specs.Declarations.{told_decl}
use Rattle.shape_refs.proofs.NearLemmas.{near_added, near_alone, near_nowhere, row_at_item}
use Rattle.shape_refs.proofs.PlaceLemmas.{told_at, told_distinct, told_place}
use Rattle.shape_refs.proofs.siblings.add_near_at.Goals as goal

pub returns-in_default : goal.returns-in_default
returns-in_default c =
    let decls = c.args.declared.now.decls.now in
    let terms = c.args.declared.now.pool.now.terms in
    near_nowhere terms (map told_decl decls) c.args.near.now
    (told_distinct decls c.args.declared.now.distinct)
    c.args.node (told_place decls c.args.node c.place.result None c.place.ensures.place c.in_default.is)
    c.args.rows.now.items

pub returns-in_ok-extend_from_slice : goal.returns-in_ok-extend_from_slice
returns-in_ok-extend_from_slice c =
    let decls = c.args.declared.now.decls.now in
    let terms = c.args.declared.now.pool.now.terms in
    let at = c.in-Some.at in
    let rows = c.args.rows.now.items in
    let inside : at < length rows = omega (arith, c.in-Some.ensures.within, c.requires) in
    near_added terms (map told_decl decls) c.args.near.now (told_distinct decls c.args.declared.now.distinct)
    c.args.node at (told_place decls c.args.node c.place.result (Some at) c.place.ensures.place c.in-Some.is)
    rows c.extend_from_slice.new.self inside
    (c.in_ok-extend_from_slice.ensures.items
    ∙ ap (λ row. row ++ c.args.near.now)
    (sym (row_at_item rows at c.index_mut.result.now inside c.index_mut.ensures.value)))

pub returns-else-has_siblings : goal.returns-else-has_siblings
returns-else-has_siblings c =
    let decls = c.args.declared.now.decls.now in
    let terms = c.args.declared.now.pool.now.terms in
    let at = c.in-Some.at in
    near_alone terms (map told_decl decls) c.args.near.now (told_distinct decls c.args.declared.now.distinct)
    c.args.node at (told_place decls c.args.node c.place.result (Some at) c.place.ensures.place c.in-Some.is)
    _ (told_at decls at c.index-declared-at.result c.in-Some.ensures.within)
    (sym c.has_siblings.ensures ∙ c.if-has_siblings.false) c.args.rows.now.items
