use Rattle.eval_rows.proofs.tests.asked.is_answered.Given as goal

abbrev pub ghosts-is_pair-K-Ledger : goal.ghosts-is_pair-K-Ledger
ghosts-is_pair-K-Ledger a = record { name = a.nested.name; parts = a.nested.parts }

abbrev pub ghosts-is_pair-L-Ledger : goal.ghosts-is_pair-L-Ledger
ghosts-is_pair-L-Ledger a = record { name = a.steps.name; parts = a.steps.parts }
