use Rattle.std.proofs.lemmas.Result.{on_ok_weaker}
use Rattle.edit_engine.proofs.RenewalLemmas.{RenewsRead-made, RenewsTarget-made}
use Rattle.edit_engine.proofs.renewal.Renewal.renew_target.Goals as goal

pub returns-clause-target : goal.returns-clause-target
returns-clause-target g c =
    on_ok_weaker c.renew_reads.result
    (λ pushed. RenewsTarget-made c.deref.result.now c.deref-2.result.now c.enter.ensures.others
    c.in_ok-enter.ensures.entering c.leave.ensures.others c.in_ok-leave.ensures.leaving
    (rw c.deref.ensures.value c.in_ok-change.ensures.entering)
    (rw c.deref-2.ensures.value c.in_ok-change.ensures.leaving) c.renew_reads.ensures.others
    (RenewsRead-made c.in_ok-change.change.reads c.in_ok-change.ensures.reads pushed))
    c.renew_reads.ensures.targets
