use Rattle.read_records.proofs.StoreLemmas.{IsUntidy-taken}
use Rattle.read_records.proofs.store.Store.drop_first.Goals as goal

pub tidy-requires : goal.tidy-requires
tidy-requires g c =
    IsUntidy-taken c.self.invariant c.in-Some.ensures.value (record { each = c.in-Some.ensures.updates.0 })
