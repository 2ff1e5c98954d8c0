use Rattle.shacl_rows.proofs.tests.honest.run_in_room.Given as goal

abbrev pub ghosts-run_honestly-L-Ledger : goal.ghosts-run_honestly-L-Ledger
ghosts-run_honestly-L-Ledger a = record { name = a.steps.name; parts = a.steps.parts }

abbrev pub ghosts-run_honestly-M-Ledger : goal.ghosts-run_honestly-M-Ledger
ghosts-run_honestly-M-Ledger a = record { name = a.nested.name; parts = a.nested.parts }
