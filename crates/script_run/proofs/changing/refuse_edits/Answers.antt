use Rattle.script_run.proofs.changing.refuse_edits.Goals as goal

pub returns-in-TooManyTriples-clause-replies : goal.returns-in-TooManyTriples-clause-replies
returns-in-TooManyTriples-clause-replies c = λ manner s work is.
    rw c.in-TooManyTriples.is (c.refuse_line.ensures.replies manner s work is)

pub returns-in-TooManyTerms-clause-replies : goal.returns-in-TooManyTerms-clause-replies
returns-in-TooManyTerms-clause-replies c = λ manner s work is.
    rw c.in-TooManyTerms.is (c.refuse_line-in-TooManyTerms.ensures.replies manner s work is)

pub returns-in-TooManyTriples-clause-moves : goal.returns-in-TooManyTriples-clause-moves
returns-in-TooManyTriples-clause-moves c = c.refuse_line.ensures.moves

pub returns-in-TooManyTerms-clause-moves : goal.returns-in-TooManyTerms-clause-moves
returns-in-TooManyTerms-clause-moves c = c.refuse_line-in-TooManyTerms.ensures.moves
