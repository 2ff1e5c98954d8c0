use Rattle.std.proofs.Common.{arith}
use Rattle.std.proofs.lemmas.Grind.{common_steps}
use Rattle.logic_components.proofs.OneShapeLemmas.{is_held, are_noted}
use Rattle.logic_components.proofs.property.PropertyComponent.check.Goals as goal

pub results-requires : goal.results-requires
results-requires g c =
    is_held c.args.self.now.shape c.args.values.now c.loop-v.v-index c.loop-v-test.true
    (g.C.Conform.holds c.args.conform.now) c.requires.held

pub loop-v-preserved : goal.loop-v-preserved
loop-v-preserved g c = record {
  rows = grind (arith, common_steps);
  reads = λ r told.
      are_noted c.args.self.now.shape c.args.values.now c.loop-v.v-index c.loop-v-test.true
      g.met.C.Noted.Notes.laws r (c.loop-v.invariant.reads r told) (c.in_ok-results.ensures.reads r told);
}
