use Rattle.script_run.proofs.StandsWellLemmas.{Stands-command, Stands-lines, Stands-start}
use Rattle.script_run.proofs.undone.scripts_stand_well.Goals as goal

pub returns-clause-start : goal.returns-clause-start
returns-clause-start c = Stands-start

pub returns-clause-step : goal.returns-clause-step
returns-clause-step c = λ limits s command well. Stands-command limits s well command

pub returns-clause-lines : goal.returns-clause-lines
returns-clause-lines c = Stands-lines
