use Rattle.std.proofs.Common.{◌≡◌, arith}
use Rattle.shape_decl.proofs.ValuesLemmas.{values_more, values_all}
use Rattle.shape_decl.proofs.declaring.declared_values.Goals as goal

pub loop-predicate-preserved : goal.loop-predicate-preserved
loop-predicate-preserved g c =
    let graph = g.V.GraphView.graph c.args.graph.now in
    rw (
      values_more graph c.args.node c.loop-predicate.predicate,
      ← c.loop-predicate.invariant,
      ← c.in_ok-values.ensures,
    )
    c.in_ok-add_values.ensures

pub returns : goal.returns
returns g c =
    let graph = g.V.GraphView.graph c.args.graph.now in
    let last : c.loop-predicate.predicate ≡ 62 =
    omega (arith, c.loop-predicate-test.false, c.loop-predicate.auto.predicate-end) in
    rw (← values_all graph c.args.node c.loop-predicate.predicate last) c.loop-predicate.invariant
