use Rattle.std.specs.Prelude.{map, take}
use Rattle.shape_eval.specs.Report.{at_shape}
use Rattle.edit_engine.specs.inner.Parts.{AlsoLeave, OnlyLeaves}
use Rattle.edit_engine.proofs.renewal.Renewal.leave.Given as goal

abbrev pub invariant-loop-node : goal.invariant-loop-node
invariant-loop-node l = record {
  leaving : AlsoLeave (map (at_shape l.shape) (take l.node-index l.nodes)) l.fn.self.leaving.keys
      l.self.leaving.keys;
  others : OnlyLeaves l.fn.self l.self;
}
