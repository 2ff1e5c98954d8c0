use Rattle.std.proofs.Common.{arith}
use Rattle.std.proofs.lemmas.Grind.{common_steps}
use Rattle.comp_core.proofs.NotingLemmas.{noted_more}
use Rattle.value_components.specs.Class.{class_reads_at}
use Rattle.value_components.proofs.class.Class.add_hits.Goals as goal

pub loop-v-preserved : goal.loop-v-preserved
loop-v-preserved g c = record {
  known = c.is_of_class.ensures.known;
  rows = grind (arith, common_steps);
  reads = noted_more g.met.N.Notes.laws (class_reads_at (g.V.GraphView.graph c.args.view.now))
      c.args.values.now c.loop-v.v-index 0 c.loop-v-test.true c.loop-v.invariant.reads
      c.in_ok-is_fine.ensures.reads;
}
