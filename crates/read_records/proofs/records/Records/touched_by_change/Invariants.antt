use Rattle.std.specs.Prelude.{◌≡◌, ◌++◌, map, take}
use Rattle.comp_core.specs.Pairs.{answer_key}
use Rattle.read_records.proofs.records.Records.touched_by_change.Given as goal

abbrev pub invariant-loop-pair : goal.invariant-loop-pair
invariant-loop-pair l =
    l.keys.items ≡ l.initial.keys.items ++ map answer_key (take l.pair-index l.answers)
