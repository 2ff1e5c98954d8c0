use Rattle.read_records.proofs.StoreLemmas.{AreUnder-stays, HaveRead-fewer, IsStore-kept}
use Rattle.read_records.proofs.store.Store.of_kept.Goals as goal

pub invariant_of-result : goal.invariant_of-result
invariant_of-result g c =
    IsStore-kept c.new.ensures.empty
    (AreUnder-stays (record { each = λ x there. (c.in_ok-readings.ensures x).1 there })
    c.in_ok-gathered_from.ensures.under)
    (HaveRead-fewer (λ x there. (c.in_ok-readings.ensures x).0 there) c.in_ok-gathered_from.ensures.read)
    c.requires
