use Rattle.std.specs.Prelude.{◌++◌, ◌-◌, ◌^◌}
use Rattle.read_records.proofs.SearchLemmas.{Searched}
use Rattle.read_records.specs.Recall.{IsReached, IsTouchedAt, RestsOn, kept_of}
use Rattle.read_records.specs.inner.Remembered.{as_recalled}
use Rattle.read_records.proofs.reached.reached_by.Given as goal

abbrev pub invariant-loop-at : goal.invariant-loop-at
invariant-loop-at l =
    let state = as_recalled l.store in
    let changed = l.added ++ l.removed in
    Searched (IsTouchedAt state changed) (IsReached state changed) (λ d p. RestsOn (kept_of state) p d)
    l.reached.keys l.at

-- no more pairs than numbers of 64 bits were found
abbrev pub decreases-loop-at : goal.decreases-loop-at
decreases-loop-at l = 2 ^ 64 - l.at
