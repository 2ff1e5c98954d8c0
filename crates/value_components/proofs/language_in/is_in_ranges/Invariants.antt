use Rattle.std.proofs.Common.{◌≡◌}
use Rattle.std.specs.Prelude.{false, take}
use Rattle.std.specs.List.{list_any}
use Rattle.value_components.specs.LanguageIn.{is_range_of}
use Rattle.comp_core.specs.TermTests.{is_so_at}
use Rattle.value_components.proofs.language_in.is_in_ranges.Given as goal

-- none of the ranges before matches
abbrev pub invariant-loop-range : goal.invariant-loop-range
invariant-loop-range g l =
    list_any (is_so_at (is_range_of l.tag) (g.V.GraphView.graph l.view)) (take l.range-index l.ranges) ≡ false
