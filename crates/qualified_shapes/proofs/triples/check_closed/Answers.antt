use Rattle.std.specs.Prelude.{[], ◌∷◌}
use Rattle.std.proofs.Common.{arith}
use Rattle.std.proofs.lemmas.Grind.{common_steps}
use Rattle.graph_view.specs.declared.key.Key.TheVariants.{Subject}
use Rattle.comp_core.proofs.NotingLemmas.{noted_more}
use Rattle.qualified_shapes.proofs.triples.check_closed.Goals as goal

pub loop-v-preserved : goal.loop-v-preserved
loop-v-preserved g c = record {
  rows = grind (arith, common_steps);
  reads = noted_more g.met.N.Notes.laws (λ v. Subject v ∷ []) c.args.values.now c.loop-v.v-index 0
      c.loop-v-test.true c.loop-v.invariant.reads c.in_ok-triples.ensures.reads;
}
