use Rattle.std.proofs.Common.{◌≡◌, ◌++◌}
use Rattle.std.specs.Prelude.{replicate, None}
use Rattle.comp_core.specs.Rows.{plain_row}
use Rattle.comp_core.specs.declared.kinds.TheConstants.{UNIQUE_LANG}
use Rattle.value_components.proofs.unique_lang.UniqueLangComponent.check.Given as goal

abbrev pub invariant-loop : goal.invariant-loop
invariant-loop g l =
    l.out.items
    ≡ l.fn.out.items ++ replicate l.counter (plain_row l.at.focus None None l.at.shape UNIQUE_LANG)
