use Rattle.std.specs.Prelude.{◌∷◌, flat_map}
use Rattle.std.proofs.Common.{arith}
use Rattle.std.proofs.lemmas.Grind.{common_steps}
use Rattle.shx_term.proofs.MemberLemmas.{All_part}
use Rattle.comp_core.specs.Asking.{pairs_at}
use Rattle.comp_core.proofs.NotingLemmas.{noted_more}
use Rattle.qualified_shapes.proofs.qualified.qualified_count.Goals as goal

pub qualifies-requires : goal.qualifies-requires
qualifies-requires g c =
    All_part (g.C.Conform.holds c.args.conform.now) (pairs_at (c.args.shape ∷ c.args.siblings.now))
    c.args.values.now c.loop-v.v-index 0 c.loop-v-test.true c.requires

pub loop-v-preserved : goal.loop-v-preserved
loop-v-preserved g c =
    let shapes = c.args.shape ∷ c.args.siblings.now in
    record {
      few = grind (arith, common_steps);
      count = grind (arith, common_steps);
      reads = λ r told.
          noted_more g.met.C.Noted.Notes.laws (λ v. flat_map r (pairs_at shapes v)) c.args.values.now
          c.loop-v.v-index 0 c.loop-v-test.true (c.loop-v.invariant.reads r told)
          (c.in_ok-qualifies.ensures.reads r told);
    }
