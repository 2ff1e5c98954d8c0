use Rattle.std.specs.Prelude.{◌<◌, flat_map, get_or, length, map}
use Rattle.std.proofs.Common.{sym, ◌∙◌, subst, arith}
use Rattle.std.proofs.lemmas.List.{length-map}
use Rattle.shx_term.specs.Members.{SameMembers}
use Rattle.shape_decl.specs.Declarations.{told_decl}
use Rattle.shape_refs.specs.References.{parents_of, qualified_within}
use Rattle.shape_refs.proofs.NearLemmas.{row_at_item}
use Rattle.shape_refs.proofs.PlaceLemmas.{told_at}
use Rattle.shape_refs.proofs.siblings.find_siblings.Goals as goal

pub siblings_among-requires : goal.siblings_among-requires
siblings_among-requires c = λ has.
    let decls = c.args.declared.now.decls.now in
    let ds = map told_decl decls in
    let at = c.loop-at.at in
    let d = told_decl (get_or decls at c.index-declared-at.result) in
    let near = c.in_ok-near.near.items in
    let inside : at < length near =
    omega (arith, c.in_ok-near.ensures.long, length-map decls told_decl, c.loop-at-test.true) in
    subst (λ ns. SameMembers ns (flat_map (qualified_within ds) (parents_of ds d.node)))
    (row_at_item near at c.index.result.now inside c.index.ensures ∙ sym c.deref.ensures.value)
    (c.in_ok-near.ensures.each at d (told_at decls at c.index-declared-at.result c.loop-at-test.true) has)
