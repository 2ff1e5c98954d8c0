use Rattle.std.specs.Prelude.{◌==◌, get_or, map, take}
use Rattle.std.proofs.Common.{subst}
use Rattle.std.proofs.lemmas.List.{take_all}
use Rattle.std.proofs.lemmas.List.Folds.{list_any_more}
use Rattle.comp_core.specs.TermTests.{is_among}
use Rattle.shape_decl.specs.Declarations.{told_decl}
use Rattle.shape_refs.specs.inner.Near.{AddsNear}
use Rattle.shape_refs.proofs.NearLemmas.{AddsNear-then}
use Rattle.shape_refs.proofs.siblings.add_near.Goals as goal

pub loop-node-preserved : goal.loop-node-preserved
loop-node-preserved c =
    let nodes = c.args.nodes.now in
    let i = c.loop-node.node-index in
    AddsNear-then c.args.declared.now.pool.now.terms (map told_decl c.args.declared.now.decls.now)
    c.args.near.now (λ n. is_among n (take i nodes)) (λ n. get_or nodes i 0 == n) _
    (λ n. list_any_more (λ other. other == n) nodes i 0 c.loop-node-test.true)
    c.args.rows.now.items c.loop-node.rows.items c.add_near_at.new.rows.items c.loop-node.invariant
    c.in_ok-add_near_at.ensures

pub returns : goal.returns
returns c =
    let nodes = c.args.nodes.now in
    subst (λ ns. AddsNear c.args.declared.now.pool.now.terms (map told_decl c.args.declared.now.decls.now)
    (λ n. is_among n ns) c.args.near.now c.args.rows.now.items c.loop-node.rows.items)
    (take_all c.loop-node.node-index nodes c.loop-node-test.false) c.loop-node.invariant
