use Rattle.value_space.proofs.CanonicalLemmas.{value_of-canonical}
use Rattle.value_space.proofs.read_literal.ReadLiteral.of.Goals as goal

pub invariant_of-result : goal.invariant_of-result
invariant_of-result c = record { canonical = rw c.value_of.ensures (value_of-canonical c.args.literal.now) }
