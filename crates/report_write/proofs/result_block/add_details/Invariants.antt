use Rattle.std.proofs.Common.{flat_map, take}
use Rattle.shape_eval.specs.Planned.{plan_of}
use Rattle.report_write.specs.ResultBlocks.{detail_text}
use Rattle.report_write.proofs.result_block.add_details.Given as goal

abbrev pub invariant-loop-detail : goal.invariant-loop-detail
invariant-loop-detail g l =
    g.W.Pieces.added l.fn.out l.out
    (flat_map (detail_text l.pool.terms (plan_of l.plan).shapes) (take l.detail-index l.details))
