use Rattle.std.specs.Prelude.{◌≡◌, ◌++◌, map, take}
use Rattle.shape_eval.specs.Report.{at_shape}
use Rattle.edit_engine.specs.inner.Parts.{OnlyEnters}
use Rattle.edit_engine.proofs.renewal.Renewal.enter.Given as goal

abbrev pub invariant-loop-node : goal.invariant-loop-node
invariant-loop-node l = record {
  entering : l.self.entering.items
      ≡ l.fn.self.entering.items ++ map (at_shape l.shape) (take l.node-index l.nodes);
  others : OnlyEnters l.fn.self l.self;
}
