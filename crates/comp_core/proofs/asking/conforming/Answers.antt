use Rattle.std.proofs.Common.{arith}
use Rattle.std.proofs.lemmas.Grind.{common_steps}
use Rattle.shx_term.proofs.MemberLemmas.{All_mapped}
use Rattle.comp_core.specs.Asking.{pair_of}
use Rattle.comp_core.proofs.NotingLemmas.{noted_image}
use Rattle.comp_core.proofs.asking.conforming.Goals as goal

pub conforms-requires : goal.conforms-requires
conforms-requires g c =
    All_mapped (g.C.Conform.holds c.args.conform.now) (pair_of c.args.node) c.args.shapes.now
    c.loop-shape.shape-index 0 c.loop-shape-test.true c.requires

pub loop-shape-preserved : goal.loop-shape-preserved
loop-shape-preserved g c = record {
  few = grind (arith, common_steps);
  count = grind (arith, common_steps);
  reads = λ r told.
      noted_image g.met.C.Noted.Notes.laws r (pair_of c.args.node) c.args.shapes.now
      c.loop-shape.shape-index 0 c.loop-shape-test.true (c.loop-shape.invariant.reads r told)
      (c.in_ok-conforms.ensures.reads r told);
}
