use Rattle.shacl_keep.proofs.program.run_program.Goals as goal

pub returns : goal.returns
returns g c = rw c.program-limits.ensures.exact at c.run.ensures
