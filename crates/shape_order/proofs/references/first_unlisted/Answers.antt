use Rattle.std.proofs.Common.{rules}
use Rattle.shape_order.proofs.ReferenceLemmas.{AreListed-more}
use Rattle.shape_order.proofs.references.first_unlisted.Goals as goal

pub loop-place-preserved : goal.loop-place-preserved
loop-place-preserved c =
    AreListed-more c.args.shapes.now c.args.listed.now c.args.from c.loop-place.place
    c.loop-place.invariant (search rules)
