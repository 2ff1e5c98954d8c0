use Rattle.std.proofs.Common.{rules}
use Rattle.shape_check.proofs.FaultLemmas.{faults-past_decl, faults-within}
use Rattle.shape_check.proofs.checking.too_many.Goals as goal

pub returns-in_err-decl : goal.returns-in_err-decl
returns-in_err-decl c =
    rw c.from_residual.ensures
    (λ terms. faults-within c.args.limits.now terms c.args.decls.now (search rules))

pub returns : goal.returns
returns c = λ terms.
    rw (c.one_too_many.ensures)
    (faults-past_decl c.args.limits.now terms c.args.decls.now c.in_ok-decl.decl.now (search rules)
    (search rules))
