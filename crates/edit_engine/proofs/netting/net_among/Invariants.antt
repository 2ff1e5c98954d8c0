use Rattle.std.proofs.Common.{◌≡◌, ◌++◌}
use Rattle.edit_engine.specs.Edits.{inserted_by, removed_by}
use Rattle.edit_engine.specs.inner.Turned.{places_in}
use Rattle.edit_engine.proofs.NettingLemmas.{told_left}
use Rattle.edit_engine.proofs.netting.net_among.Given as goal

-- with what the edits that are left add and remove it is all
abbrev pub invariant-loop-at : goal.invariant-loop-at
invariant-loop-at l =
    let places = places_in l.turned in
    record {
      added : l.added.items ++ told_left inserted_by places l.edits l.at
          ≡ told_left inserted_by places l.edits 0;
      removed : l.removed.items ++ told_left removed_by places l.edits l.at
          ≡ told_left removed_by places l.edits 0;
    }
