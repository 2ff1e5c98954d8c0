use Rattle.std.proofs.Common.{◌≡◌, ◌++◌}
use Rattle.std.specs.Prelude.{take}
use Rattle.value_components.specs.LanguageIn.{language_in_hits}
use Rattle.value_components.proofs.language_in.LanguageInComponent.check.Given as goal

abbrev pub invariant-loop-v : goal.invariant-loop-v
invariant-loop-v g l =
    l.out.items
    ≡ l.fn.out.items ++ language_in_hits l.self (g.V.GraphView.graph l.view) l.at (take l.v-index l.values)
