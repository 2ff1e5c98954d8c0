use Rattle.std.specs.Prelude.{◌-◌, ◌^◌}
use Rattle.path_eval.proofs.WiderLemmas.{Climbed}
use Rattle.path_eval.proofs.wider.wider_than.Given as goal

abbrev pub invariant-loop-at : goal.invariant-loop-at
invariant-loop-at g l =
    Climbed (g.V.GraphView.graph l.view) l.class l.climb.wider.classes.keys l.climb.wider.reads l.at

-- no more classes than numbers of 64 bits were met
abbrev pub decreases-loop-at : goal.decreases-loop-at
decreases-loop-at g l = 2 ^ 64 - l.at
