use Rattle.shacl_keep.proofs.run_on_files.Given as goal

abbrev pub ghosts-run_counted-L-Ledger : goal.ghosts-run_counted-L-Ledger
ghosts-run_counted-L-Ledger a = record { name = a.steps.name; parts = a.steps.parts }

abbrev pub ghosts-run_counted-M-Ledger : goal.ghosts-run_counted-M-Ledger
ghosts-run_counted-M-Ledger a = record { name = a.nested.name; parts = a.nested.parts }
