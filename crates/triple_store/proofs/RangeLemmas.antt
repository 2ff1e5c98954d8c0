-- Which entries lie in a range: those with the first number, or the first two, of its bounds.
use Rattle.std.specs.Prelude.{◌≡◌, ℕ, ◌<◌, ◌≤◌, Bool, false, ◌&&◌, ◌==◌}
use Rattle.std.specs.BTreeMap.Range.{range_contains, IsLeBy}
use Rattle.std.specs.Cmp.{both_ways, first_so, second_so}
use Rattle.std.specs.Ordering.{MatchOrdering, nat_cmp, ordering_then, is_gt}
use Rattle.std.specs.declared.cmp.Ordering.{Ordering}
use Rattle.std.specs.declared.cmp.Ordering.TheVariants.{Less, Equal, Greater}
use Rattle.std.specs.declared.ops.Bound.TheVariants.{Included}
use Rattle.std.proofs.Common.{refl, sym, arith, true≢false}
use Rattle.std.proofs.lemmas.Bool.{eqb-true, eq-eqb, and_from}
use Rattle.std.proofs.lemmas.Cmp.{ranked}
use Rattle.std.proofs.lemmas.Map.Views.{IsInRange-from_range_contains, range_contains-from_IsInRange}
use Rattle.triple_store.proofs.ArrangementLemmas.{entry_cmp_total}
use Rattle.triple_store.specs.inner.Arrangement.{entry_cmp, HasNumbers}
use Rattle.triple_store.specs.declared.arrangement.Entry.{Entry}

-- two numbers that were compared, and what is compared after them
module _ (x y : ℕ) where
  abbrev Compared : Ordering → Type 0
  Compared r = MatchOrdering r (x < y) (x ≡ y) (y < x)

  then_up_to : (r rest : Ordering) → Compared r → x ≤ y → is_gt rest ≡ false
      → is_gt (ordering_then r rest) ≡ false
  then_up_to Less rest m le tied = refl
  then_up_to Equal rest m le tied = tied
  then_up_to Greater rest m le tied = absurd (omega (arith, m, le))

  first_up_to : (r rest : Ordering) → Compared r → is_gt (ordering_then r rest) ≡ false → x ≤ y
  first_up_to Less rest m h = omega (arith, m)
  first_up_to Equal rest m h = omega (arith, m)
  first_up_to Greater rest m h = absurd (true≢false h)

  rest_up_to : (r rest : Ordering) → Compared r → is_gt (ordering_then r rest) ≡ false → x ≡ y
      → is_gt rest ≡ false
  rest_up_to Less rest m h e = absurd (omega (arith, m, e))
  rest_up_to Equal rest m h e = h
  rest_up_to Greater rest m h e = absurd (true≢false h)

  compared : Compared (nat_cmp x y)
  compared = ranked x y (nat_cmp x y) refl

-- an entry is up to another where each of its numbers is
module _ (d e : Entry) where
  abbrev by_third : Ordering
  by_third = nat_cmp d.third e.third

  abbrev by_second : Ordering
  by_second = ordering_then (nat_cmp d.second e.second) by_third

  numbers_up_to : d.first ≤ e.first → d.second ≤ e.second → d.third ≤ e.third → IsLeBy entry_cmp d e
  numbers_up_to first second third =
      let last =
      then_up_to d.third e.third by_third Equal (compared d.third e.third) third refl in
      then_up_to d.first e.first (nat_cmp d.first e.first) by_second (compared d.first e.first) first
      (then_up_to d.second e.second (nat_cmp d.second e.second) by_third (compared d.second e.second) second
      (last_alone by_third last))
    where
      last_alone : (r : Ordering) → is_gt (ordering_then r Equal) ≡ false → is_gt r ≡ false
      last_alone Less h = refl
      last_alone Equal h = refl
      last_alone Greater h = h

  firsts_up_to : IsLeBy entry_cmp d e → d.first ≤ e.first
  firsts_up_to h =
      first_up_to d.first e.first (nat_cmp d.first e.first) by_second (compared d.first e.first) h

  seconds_up_to : IsLeBy entry_cmp d e → d.first ≡ e.first → d.second ≤ e.second
  seconds_up_to h same =
      first_up_to d.second e.second (nat_cmp d.second e.second) by_third (compared d.second e.second)
      (rest_up_to d.first e.first (nat_cmp d.first e.first) by_second (compared d.first e.first) h same)

-- the greatest number of a term
abbrev pub greatest : ℕ
greatest = 4294967295

-- whether an entry lies between two, both included
abbrev pub is_between : Entry → Entry → Entry → Bool
is_between low high e = range_contains entry_cmp (Included low) (Included high) e

module _ (e : Entry) (numbers : HasNumbers e) where
  pub between_first : (first : ℕ)
      → is_between (record { first = first; second = 0; third = 0 })
      (record { first = first; second = greatest; third = greatest }) e ≡ (e.first == first)
  between_first first =
      let low : Entry = record { first = first; second = 0; third = 0 } in
      let high : Entry = record { first = first; second = greatest; third = greatest } in
      both_ways (is_between low high e) (e.first == first)
      (λ h.
      let within = IsInRange-from_range_contains entry_cmp_total (Included low) (Included high) e h in
      let above = firsts_up_to low e within.0 in
      let below = firsts_up_to e high within.1 in
      eq-eqb e.first first (omega (arith, above, below)))
      (λ h.
      let same = eqb-true e.first first h in
      range_contains-from_IsInRange entry_cmp_total (Included low) (Included high) e (
        numbers_up_to low e (omega (arith, same)) (omega arith) (omega arith),
        numbers_up_to e high (omega (arith, same)) (omega (arith, numbers.second))
            (omega (arith, numbers.third)),
      ))

  pub between_pair : (first second : ℕ)
      → is_between (record { first = first; second = second; third = 0 })
      (record { first = first; second = second; third = greatest }) e
      ≡ ((e.first == first) && (e.second == second))
  between_pair first second =
      let low : Entry = record { first = first; second = second; third = 0 } in
      let high : Entry = record { first = first; second = second; third = greatest } in
      both_ways (is_between low high e) ((e.first == first) && (e.second == second))
      (λ h.
      let within = IsInRange-from_range_contains entry_cmp_total (Included low) (Included high) e h in
      let above = firsts_up_to low e within.0 in
      let below = firsts_up_to e high within.1 in
      let same : e.first ≡ first = omega (arith, above, below) in
      let over = seconds_up_to low e within.0 (sym same) in
      let under = seconds_up_to e high within.1 same in
      let tied : e.second ≡ second = omega (arith, over, under) in
      and_from (e.first == first) (e.second == second) (eq-eqb e.first first same)
      (eq-eqb e.second second tied))
      (λ h.
      let same = eqb-true e.first first (first_so (e.first == first) (e.second == second) h) in
      let tied = eqb-true e.second second (second_so (e.first == first) (e.second == second) h) in
      range_contains-from_IsInRange entry_cmp_total (Included low) (Included high) e (
        numbers_up_to low e (omega (arith, same)) (omega (arith, tied)) (omega arith),
        numbers_up_to e high (omega (arith, same)) (omega (arith, tied)) (omega (arith, numbers.third)),
      ))
