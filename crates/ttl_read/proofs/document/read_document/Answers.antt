use Rattle.std.proofs.Common.{ℕ, refl, sym, subst}
use Rattle.ttl_read.specs.Documents.{setting}
use Rattle.ttl_read.specs.Unique.{IsOneFault}
use Rattle.ttl_read.proofs.DocumentLemmas.{bytes_only, bytes_before, holds_nothing}
use Rattle.ttl_read.proofs.document.read_document.Goals as goal

pub returns-in-Err-clause-fault : goal.returns-in-Err-clause-fault
returns-in-Err-clause-fault c =
    let t = setting c.args.text.now c.args.limits.now c.args.pool.now in
    subst (λ (n : ℕ). IsOneFault t c.args.scope c.args.base.now 1 n) (sym c.valid_up_to.ensures)
    (bytes_only t c.args.scope c.args.base.now _ c.in-Err.ensures.cases.0 c.in-Err.ensures.cases.1)

pub returns-in-Err-clause-pool : goal.returns-in-Err-clause-pool
returns-in-Err-clause-pool c =
    holds_nothing (setting c.args.text.now c.args.limits.now c.args.pool.now) c.args.scope c.args.base.now
    c.args.pool.now refl

pub returns-in-Err-clause-before : goal.returns-in-Err-clause-before
returns-in-Err-clause-before c =
    bytes_before (setting c.args.text.now c.args.limits.now c.args.pool.now) c.args.scope c.args.base.now
    c.args.pool.now c.in-Err.ensures.cases.0 refl
