use Rattle.edits_example.proofs.main.Given as goal

abbrev pub ghosts-keep_current-L-Ledger : goal.ghosts-keep_current-L-Ledger
ghosts-keep_current-L-Ledger a = record { name = a.pairs.name; parts = a.pairs.parts }

abbrev pub ghosts-keep_current-M-Ledger : goal.ghosts-keep_current-M-Ledger
ghosts-keep_current-M-Ledger a = record { name = a.nested.name; parts = a.nested.parts }
