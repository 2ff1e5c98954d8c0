use Rattle.std.proofs.Common.{◌≡◌, map}
use Rattle.shacl_drill.specs.Summary.{told_by}
use Rattle.shacl_drill.proofs.tally.Tally.of.Given as goal

abbrev pub invariant-loop-line : goal.invariant-loop-line
invariant-loop-line l = l.tally ≡ told_by (map (λ x. x.now) l.yielded)
