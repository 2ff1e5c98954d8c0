use Rattle.shacl_drill.proofs.drill_out.Given as goal

abbrev pub ghosts-drill_counted-L-Ledger : goal.ghosts-drill_counted-L-Ledger
ghosts-drill_counted-L-Ledger a = record { name = a.steps.name; parts = a.steps.parts }

abbrev pub ghosts-drill_counted-M-Ledger : goal.ghosts-drill_counted-M-Ledger
ghosts-drill_counted-M-Ledger a = record { name = a.nested.name; parts = a.nested.parts }
