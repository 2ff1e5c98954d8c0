use Rattle.std.proofs.Common.{refl}
use Rattle.edit_engine.proofs.RenewalLemmas.{OpensTarget-made}
use Rattle.edit_engine.proofs.TargetChangeLemmas.{SameMembers-from_nothing}
use Rattle.edit_engine.proofs.renewal.Renewal.open_target.Goals as goal

pub returns : goal.returns
returns g c =
    OpensTarget-made c.deref.result.now c.enter.ensures.others c.in_ok-enter.ensures.entering
    (cc (c.deref.ensures.value, c.in_ok-nodes.ensures.nodes)) c.in_ok-push.ensures.items refl
    (record {
      reads = rw c.pack.ensures
          (SameMembers-from_nothing _ c.new-reads.ensures c.in_ok-nodes.ensures.reads);
    })
