use Rattle.std.proofs.Common.{◌≡◌, ◌++◌}
use Rattle.std.specs.Prelude.{take}
use Rattle.comp_core.specs.declared.kinds.TheConstants.{PATTERN}
use Rattle.value_components.specs.Pattern.{has_match}
use Rattle.comp_core.specs.Results.{each_unless}
use Rattle.comp_core.specs.TermTests.{is_so_at}
use Rattle.value_components.proofs.matches.check_texts.Given as goal

abbrev pub invariant-loop-v : goal.invariant-loop-v
invariant-loop-v g l =
    let pattern = l.fn.matcher in record {
      same : l.matcher ≡ pattern;
      rows :
          l.out.items
          ≡ l.fn.out.items
          ++ each_unless (is_so_at (has_match pattern.text pattern.flags) (g.V.GraphView.graph l.view))
          PATTERN l.at (take l.v-index l.values);
    }
