-- Ways that do the same from a node.
use Rattle.std.specs.Prelude.{ℕ, flat_map, Contains, ◌↔◌}
use Rattle.shx_term.specs.Members.{SameMembers}
use Rattle.shx_term.proofs.SetLemmas.{SameMembers-itself, SameMembers-append, SameMembers-flat_map}
use Rattle.shx_term.specs.Chains.{Chain}
use Rattle.path_eval.specs.Way.{Way, stay, either, then_by, repeated, closed}
use Rattle.path_eval.proofs.ChainLemmas.{Longer-same}
use Rattle.path_eval.proofs.MeetsLemmas.{Meets, meets_closed}
use Rattle.path_eval.proofs.ThroughLemmas.{IsWithin, Leads, repeated_chain}

-- from x both ways lead to the same nodes, and read the same
pub record SameWay (a b : Way) (x : ℕ) : Type 0 where
  pub to : SameMembers (a.to x) (b.to x)
  pub reads : SameMembers (a.reads x) (b.reads x)

pub SameWay-itself : (a : Way) (x : ℕ) → SameWay a a x
SameWay-itself a x = record { to = SameMembers-itself (a.to x); reads = SameMembers-itself (a.reads x) }

pub SameWay-either : (a b v w : Way) (x : ℕ) → SameWay a v x → SameWay b w x
    → SameWay (either a b) (either v w) x
SameWay-either a b v w x first second = record {
  to = SameMembers-append (a.to x) (b.to x) (v.to x) (w.to x) first.to second.to;
  reads = SameMembers-append (a.reads x) (b.reads x) (v.reads x) (w.reads x) first.reads second.reads;
}

pub SameWay-then : (a b v w : Way) (x : ℕ) → SameWay a v x
    → ((z : ℕ) → Contains (a.to x) z → SameWay b w z) → SameWay (then_by a b) (then_by v w) x
SameWay-then a b v w x first second = record {
  to = SameMembers-flat_map b.to w.to (a.to x) (v.to x) first.to (λ z c. (second z c).to);
  reads =
      SameMembers-append (a.reads x) (flat_map b.reads (a.to x)) (v.reads x) (flat_map w.reads (v.to x))
      first.reads
      (SameMembers-flat_map b.reads w.reads (a.to x) (v.to x) first.to (λ z c. (second z c).reads));
}

-- ways that are repeated do the same if they do so wherever the first leads, however many nodes there are
module _ (m n : ℕ) (a v : Way) (within : IsWithin m a) (within' : IsWithin n v) (x : ℕ)
    (same : (z : ℕ) → Contains ((closed m a).to x) z → SameWay a v z) where
  along_chain : (z : ℕ) → Chain (Leads a.to) x z → (y : ℕ) → Leads a.to z y ↔ Leads v.to z y
  along_chain z chain =
      let itself : Meets m a (Leads a.to) = record { leads = λ u w. (λ c. c, λ c. c); within = within } in
      (same z (((meets_closed m (Leads a.to) a itself).leads x z).1 chain)).to.each

  repeated_to : SameMembers ((repeated m a).to x) ((repeated n v).to x)
  repeated_to = record {
    each = λ y.
        let here = repeated_chain m a within x y in
        let there = repeated_chain n v within' x y in
        let chains = Longer-same (Leads a.to) (Leads v.to) x along_chain y in
        (λ c. there.1 (chains.0 (here.0 c)), λ c. here.1 (chains.1 (there.0 c)));
  }

  closed_to : SameMembers ((closed m a).to x) ((closed n v).to x)
  closed_to =
      SameMembers-append (stay.to x) ((repeated m a).to x) (stay.to x) ((repeated n v).to x)
      (SameMembers-itself (stay.to x)) repeated_to

  closed_reads : SameMembers ((closed m a).reads x) ((closed n v).reads x)
  closed_reads =
      SameMembers-flat_map a.reads v.reads ((closed m a).to x) ((closed n v).to x) closed_to
      (λ z c. (same z c).reads)

  pub SameWay-repeated : SameWay (repeated m a) (repeated n v) x
  SameWay-repeated = record { to = repeated_to; reads = closed_reads }

  pub SameWay-closed : SameWay (closed m a) (closed n v) x
  SameWay-closed = record { to = closed_to; reads = closed_reads }
