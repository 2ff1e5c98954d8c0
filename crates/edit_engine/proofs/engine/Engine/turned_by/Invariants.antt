use Rattle.std.proofs.Common.{◌≡◌, drop}
use Rattle.edit_engine.specs.inner.Turned.{nowhere, places_after, places_in}
use Rattle.edit_engine.proofs.engine.Engine.turned_by.Given as goal

-- what the edits that are left make of the places is what all of them make
abbrev pub invariant-loop-at : goal.invariant-loop-at
invariant-loop-at g l =
    places_after l.self.graph l.at (places_in l.turned) (drop l.at l.edits)
    ≡ places_after l.self.graph 0 nowhere l.edits
