-- A search along a relation of pairs: what was found, of which that before a place was followed.
use Rattle.std.specs.Prelude.{◌≡◌, ℕ, ◌+◌, ◌≤◌, ◌<◌, List, [], ◌∷◌, length, take, Contains, ◌↔◌}
use Rattle.std.proofs.Common.{sym, ap, subst, inl, inr, get_or, arith}
use Rattle.std.proofs.lemmas.List.{take_all, length-append}
use Rattle.std.proofs.lemmas.List.Elements.{Contains-append_cases}
use Rattle.shx_term.proofs.MemberLemmas.{Contains-one, none_in_empty}
use Rattle.comp_core.specs.declared.pair.Pair.{Pair}
use Rattle.read_records.proofs.GainLemmas.{first_taken, read_at}
use Rattle.read_records.specs.inner.Reached.{Gains}

-- those that steps lead to from a start, in however many: any list that has the starts, and whoever is one
-- step from a member, has all of them
pub record AreReached (Starts Reached : Pair → Type 0) (Step : Pair → Pair → Type 0) : Type 0 where
  pub start : (p : Pair) → Starts p → Reached p
  pub step : (p q : Pair) → Reached p → Step p q → Reached q
  pub least : (found : List Pair) → ((p : Pair) → Starts p → Contains found p)
      → ((p q : Pair) → Contains found p → Step p q → Contains found q)
      → (p : Pair) → Reached p → Contains found p

-- the starts were found, and whoever is one step from one before a place; and none that is not reached
pub record Searched (Starts Reached : Pair → Type 0) (Step : Pair → Pair → Type 0) (found : List Pair)
    (at : ℕ) : Type 0 where
  pub inside : at ≤ length found
  pub starts : (p : Pair) → Starts p → Contains found p
  pub reached : (p : Pair) → Contains found p → Reached p
  pub followed : (p q : Pair) → Contains (take at found) p → Step p q → Contains found q

module _ {Starts Reached : Pair → Type 0} {Step : Pair → Pair → Type 0} (are : AreReached Starts Reached Step)
  where
    pub Searched-start : (found : List Pair) → Gains [] found Starts → Searched Starts Reached Step found 0
    Searched-start found gains = record {
      inside = omega arith;
      starts = λ p start. (gains.each p).1 (inr start);
      reached = λ p c. elim ((gains.each p).0 c) [
        | inl none ↦ absurd (none_in_empty p none)
        | inr start ↦ are.start p start
      ];
      followed = λ p q c step. absurd (none_in_empty p c);
    }

    module _ (found : List Pair) (at : ℕ) (searched : Searched Starts Reached Step found at) where
      -- the next is followed, as it was read in a slice, with any default
      pub Searched-next : (slice : List Pair) (d : Pair) → slice ≡ found → at < length slice
          → (new : List Pair) → Gains found new (Step (get_or slice at d))
          → Searched Starts Reached Step new (at + 1)
      Searched-next slice d same inside new gains =
          let p = get_or slice at d in
          let more : at < length found = omega (arith, inside, ap length same) in
          let here = read_at found slice at d same inside in
          let front = first_taken found new gains.more at p gains.behind more here in
          record {
            inside = omega (arith, more, ap length gains.behind, length-append found gains.more);
            starts = λ q start. (gains.each q).1 (inl (searched.starts q start));
            reached = λ q c. elim ((gains.each q).0 c) [
              | inl held ↦ searched.reached q held
              | inr step ↦ are.step p q (searched.reached p (at, more, sym here)) step
            ];
            followed = λ q r c step.
                let taken = subst (λ ps. Contains ps q) front c in
                let cases = Contains-append_cases (take at found) (p ∷ []) q taken in
                (gains.each r).1 (elim cases [
                  | inl before ↦ inl (searched.followed q r before step)
                  | inr last ↦ inr (subst (λ s. Step s r) ((Contains-one p q).0 last) step)
                ]);
          }

      -- once all was followed, those that are reached were found, and no others
      pub Searched-all : length found ≤ at → (p : Pair) → Contains found p ↔ Reached p
      Searched-all done p = (
        searched.reached p,
        are.least found searched.starts
            (λ q r c. searched.followed q r (subst (λ ps. Contains ps q) (sym (take_all at found done)) c)) p,
      )
