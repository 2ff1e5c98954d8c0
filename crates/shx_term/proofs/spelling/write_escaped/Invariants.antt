use Rattle.std.proofs.Common.{◌≡◌, ◌++◌, ℕ, List, length}
use Rattle.shx_term.specs.Spelling.{escaped}
use Rattle.shx_term.proofs.spelling.write_escaped.Given as goal

-- what was added, with what is left, is the whole
abbrev pub invariant-loop-at : goal.invariant-loop-at
invariant-loop-at g l = (done : List ℕ) × g.W.Pieces.added l.fn.out l.out done
    × (done ++ escaped l.rest ≡ escaped l.bytes)

abbrev pub decreases-loop-at : goal.decreases-loop-at
decreases-loop-at g l = length l.rest
