use Rattle.std.specs.Prelude.{◌≡◌, ℕ, ◌+◌, ◌≤◌, Bool, true, false, length, if◌then◌else◌}
use Rattle.std.proofs.Common.{refl, sym, subst, inl, inr, arith}
use Rattle.shx_term.proofs.MemberLemmas.{each_of_All, All_of_each}
use Rattle.graph_view.specs.Graph.{IsKnownTriple}
use Rattle.triple_store.proofs.store.StoreGraphEdit.insert.Goals as goal
use Rattle.triple_store.proofs.store.StoreGraphEdit.insert.Goals.{else-len-self-via-else-len-self}
use Rattle.triple_store.proofs.store.StoreGraphEdit.insert.Goals.{
  else-len-self-via-then-len-self+else-not-contains,
}

one_more : (n m : ℕ) (new : Bool) → m ≡ n + (if new then 1 else 0) → m ≤ n + 1
one_more n m true e = omega (arith, e)
one_more n m false e = omega (arith, e)

none_more : (n m : ℕ) (new : Bool) → m ≡ n + (if new then 1 else 0) → (new ≡ true → ⊥) → m ≤ n
none_more n m true e old = absurd (old refl)
none_more n m false e old = omega (arith, e)

pub invariant_of-self-2 : goal.invariant_of-self-2
invariant_of-self-2 c =
    let known = IsKnownTriple c.self.inside.pool.terms in
    let held = c.self.inside.indexes in
    let more = c.insert.new.self in
    let also = c.in_ok-insert.ensures.added in
    let fits = subst (λ g. IsKnownTriple g.pool.terms c.args.t) (sym c.self.view_is) c.requires in
    let new = c.in_ok-insert.field-0 in
    let count = c.in_ok-insert.ensures.count in (
      All_of_each known more (λ u k. elim ((also.each u).0 k) [
        | inl old ↦ each_of_All known held c.self.invariant.0 u old
        | inr same ↦ subst known (sym same) fits
      ]),
      elim c.else-len-self.branch [
        | else-len-self-via-then-len-self+else-not-contains w ↦
            let there = w.contains.ensures.0 w.if-not-contains.false in
            let none =
            none_more (length held) (length more) new count (λ is. c.in_ok-insert.ensures.new.0 is there) in
            omega (arith, none, c.self.invariant.1)
        | else-len-self-via-else-len-self w ↦
            let few = one_more (length held) (length more) new count in
            omega (arith, few, w.if-len-self.false, c.len.ensures.count)
      ],
      c.self.invariant.2,
    )
