use Rattle.std.proofs.Common.{◌≡◌, ◌++◌}
use Rattle.std.specs.Prelude.{take, not, if◌then◌else◌}
use Rattle.comp_core.specs.Results.{each_unless}
use Rattle.comp_core.specs.TermTests.{is_among}
use Rattle.pair_components.proofs.members.check_members.Given as goal

abbrev pub invariant-loop-v : goal.invariant-loop-v
invariant-loop-v l =
    l.out.items
    ≡ l.fn.out.items
    ++ each_unless (λ v. if l.should_be then is_among v l.others else not (is_among v l.others)) l.kind l.at
    (take l.v-index l.nodes)
