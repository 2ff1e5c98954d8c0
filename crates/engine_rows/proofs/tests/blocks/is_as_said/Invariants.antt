use Rattle.engine_rows.proofs.tests.blocks.is_as_said.Given as goal

abbrev pub ghosts-goes_through-K-Ledger : goal.ghosts-goes_through-K-Ledger
ghosts-goes_through-K-Ledger a = record { name = a.nested.name; parts = a.nested.parts }

abbrev pub ghosts-goes_through-L-Ledger : goal.ghosts-goes_through-L-Ledger
ghosts-goes_through-L-Ledger a = record { name = a.steps.name; parts = a.steps.parts }
