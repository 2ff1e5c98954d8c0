use Rattle.std.proofs.Common.{◌≡◌, take, flat_map}
use Rattle.pair_slice.specs.inner.Touched.{touched}
use Rattle.pair_slice.proofs.slice.slice_of.Given as goal

abbrev pub invariant-loop-key : goal.invariant-loop-key
invariant-loop-key g l =
    l.found.items ≡ flat_map (touched (g.V.GraphView.graph l.view)) (take l.key-index l.key-items)
