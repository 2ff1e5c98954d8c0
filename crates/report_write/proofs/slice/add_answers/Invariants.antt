use Rattle.std.proofs.Common.{◌∷◌, flat_map, length, map, take}
use Rattle.report_write.specs.declared.answer.Answer.TheVariants.{Slice, SliceTriple}
use Rattle.report_write.specs.Answers.{answer_text}
use Rattle.report_write.proofs.slice.add_answers.Given as goal

-- the size and the triples so far
abbrev pub invariant-loop-triple : goal.invariant-loop-triple
invariant-loop-triple g l =
    g.W.Pieces.added l.fn.out l.out
    (flat_map (answer_text l.format l.pool.terms)
    (Slice (length l.triples) ∷ map SliceTriple (take l.triple-index l.triples)))
