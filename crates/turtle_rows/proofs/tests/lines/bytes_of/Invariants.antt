use Rattle.turtle_rows.proofs.tests.lines.bytes_of.Given as goal

abbrev pub invariant-loop-character : goal.invariant-loop-character
invariant-loop-character l =
    (goal.iterator-loop-character).can_next l.character-iterator ×
    (goal.iterator-loop-character).is_finite l.character-iterator
