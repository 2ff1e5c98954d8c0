-- Ranges of postings: those of a key lie between the least and the greatest of it.
use Rattle.std.specs.Prelude.{◌≡◌, ℕ, ◌<◌, ◌≤◌, ◌^◌, Bool, true, false, List, map, filter, All}
use Rattle.std.specs.Prelude.{IfOk, Contains, ◌↔◌}
use Rattle.std.specs.BTreeMap.Range.{range_contains}
use Rattle.std.specs.Cmp.{eq_by_cmp_equiv}
use Rattle.std.specs.Ordering.{MatchOrdering, is_eq, is_gt, nat_cmp, ordering_reverse, ordering_then}
use Rattle.std.specs.declared.cmp.Ordering.{Ordering}
use Rattle.std.specs.declared.cmp.Ordering.TheVariants.{Less, Equal, Greater}
use Rattle.std.specs.declared.ops.Bound.{Bound}
use Rattle.std.specs.declared.ops.Bound.TheVariants.{Included}
use Rattle.std.specs.declared.result.Result.{Result}
use Rattle.std.specs.declared.vec.Vec.{Vec}
use Rattle.std.proofs.Common.{refl, sym, ap, ◌∙◌, subst, arith, true≢false}
use Rattle.std.proofs.lemmas.Cmp.{ranked}
use Rattle.std.proofs.lemmas.Map.Views.{IsInRange-from_range_contains, range_contains-from_IsInRange}
use Rattle.std.proofs.lemmas.Result.{IfOk-weaker}
use Rattle.shx_term.proofs.MemberLemmas.{Contains-map, Contains-from_map}
use Rattle.shx_term.proofs.MemberLemmas.{Contains-filter, Contains-from_filter, each_of_All}
use Rattle.read_records.proofs.PostingLemmas.{place_cmp_exact, place_cmp_total, posting_cmp_total}
use Rattle.read_records.specs.declared.posting.Place.{Place}
use Rattle.read_records.specs.declared.posting.Posting.{Posting}
use Rattle.read_records.specs.declared.posting.Whom.{Whom}
use Rattle.read_records.specs.inner.Postings.{HasNumbers, place_cmp, posting, posting_cmp, whom_cmp}

abbrev pub least : Place → Posting
least at = posting at (record { shape = 0; node = 0 })

-- the greatest number of a node, and of a shape
abbrev pub greatest_number : ℕ
greatest_number = 4294967295

abbrev pub greatest : Place → Posting
greatest at = posting at (record { shape = greatest_number; node = greatest_number })

-- a number up to another, and what is compared behind it
up_to : (x y : ℕ) (r rest : Ordering) → MatchOrdering r (x < y) (x ≡ y) (y < x) → x ≤ y
    → is_gt rest ≡ false → is_gt (ordering_then r rest) ≡ false
up_to x y Less rest m le tied = refl
up_to x y Equal rest m le tied = tied
up_to x y Greater rest m le tied = absurd (omega (arith, m, le))

number_up_to : (x y : ℕ) (rest : Ordering) → x ≤ y → is_gt rest ≡ false
    → is_gt (ordering_then (nat_cmp x y) rest) ≡ false
number_up_to x y rest le tied = up_to x y (nat_cmp x y) rest (ranked x y (nat_cmp x y) refl) le tied

last_up_to : (x y : ℕ) → x ≤ y → is_gt (nat_cmp x y) ≡ false
last_up_to x y le = alone (nat_cmp x y) (number_up_to x y Equal le refl)
  where
    alone : (r : Ordering) → is_gt (ordering_then r Equal) ≡ false → is_gt r ≡ false
    alone Less h = refl
    alone Equal h = refl
    alone Greater h = h

least_whom : (w : Whom) → is_gt (whom_cmp (record { shape = 0; node = 0 }) w) ≡ false
least_whom w =
    number_up_to 0 w.shape (nat_cmp 0 w.node) (omega arith) (last_up_to 0 w.node (omega arith))

greatest_whom : (w : Whom) → w.shape < 2 ^ 32 → w.node < 2 ^ 32
    → is_gt (whom_cmp w (record { shape = greatest_number; node = greatest_number })) ≡ false
greatest_whom w s n =
    number_up_to w.shape greatest_number (nat_cmp w.node greatest_number) (omega (arith, s))
    (last_up_to w.node greatest_number (omega (arith, n)))

-- the bounds of a key's postings
abbrev from : Place → Bound Posting
from key = Included (least key)

abbrev to : Place → Bound Posting
to key = Included (greatest key)

abbrev pub is_between : Place → Posting → Bool
is_between key x = range_contains posting_cmp (from key) (to key) x

not_greater_then : (a b : Ordering) → is_gt (ordering_then a b) ≡ false → is_gt a ≡ false
not_greater_then Less b h = refl
not_greater_then Equal b h = refl
not_greater_then Greater b h = h

neither_greater : (r : Ordering) → is_gt r ≡ false → is_gt (ordering_reverse r) ≡ false → r ≡ Equal
neither_greater Less up down = absurd (true≢false down)
neither_greater Equal up down = refl
neither_greater Greater up down = absurd (true≢false up)

-- keys of which neither is greater are one
keys_meet : (a b : Place) → is_gt (place_cmp a b) ≡ false → is_gt (place_cmp b a) ≡ false → a ≡ b
keys_meet a b up down =
    place_cmp_exact a b
    (neither_greater (place_cmp a b) up (sym (ap is_gt (place_cmp_total.antisymm b a)) ∙ down))

then_tied : (a b : Ordering) → is_eq a ≡ true → is_gt b ≡ false → is_gt (ordering_then a b) ≡ false
then_tied Less b e h = refl
then_tied Equal b e h = h
then_tied Greater b e h = absurd (true≢false (sym e))

-- what lies between them has the key
key_between : (key : Place) (x : Posting) → is_between key x ≡ true → key ≡ x.place
key_between key x h =
    let within = IsInRange-from_range_contains posting_cmp_total (from key) (to key) x h in
    keys_meet key x.place
    (not_greater_then (place_cmp key x.place) (whom_cmp (least key).whom x.whom) within.0)
    (not_greater_then (place_cmp x.place key) (whom_cmp x.whom (greatest key).whom) within.1)

-- and what has the key lies between them
between_key : (key : Place) (r : Whom) → HasNumbers (posting key r) → is_between key (posting key r) ≡ true
between_key key r numbers =
    let tied = (eq_by_cmp_equiv place_cmp_total).refl key in
    range_contains-from_IsInRange posting_cmp_total (from key) (to key) (posting key r) (
      then_tied (place_cmp key key) (whom_cmp (least key).whom r) tied (least_whom r),
      then_tied (place_cmp key key) (whom_cmp r (greatest key).whom) tied
          (greatest_whom r numbers.shape numbers.node),
    )

pub whoms_between : (key : Place) (xs : List Posting) → All HasNumbers xs → (r : Whom)
    → Contains (map (λ (x : Posting). x.whom) (filter (is_between key) xs)) r ↔ Contains xs (posting key r)
whoms_between key xs numbers r = (
  λ c.
      let found = Contains-from_map (λ (x : Posting). x.whom) (filter (is_between key) xs) r c in
      let x = found.0 in
      let kept = Contains-from_filter (is_between key) xs x found.1 in
      let same : x ≡ posting key r =
      λ i. record { place = sym (key_between key x kept.1) i; whom = sym found.2 i } in
      subst (Contains xs) same kept.0,
  λ c.
      Contains-map (λ (x : Posting). x.whom) (filter (is_between key) xs) (posting key r)
      (Contains-filter (is_between key) xs (posting key r) c
      (between_key key r (each_of_All HasNumbers xs numbers (posting key r) c))),
)

-- the same of what was collected
pub IfOk-under : {Z E : Type 0} (result : Result (Vec Whom Z) E) (key : Place) (xs : List Posting)
    → All HasNumbers xs
    → IfOk result (λ found. found.items ≡ map (λ (x : Posting). x.whom) (filter (is_between key) xs))
    → IfOk result (λ found. (r : Whom) → Contains found.items r ↔ Contains xs (posting key r))
IfOk-under result key xs numbers found =
    IfOk-weaker result _ _
    (λ list is r. subst (λ rs. Contains rs r ↔ Contains xs (posting key r)) (sym is)
    (whoms_between key xs numbers r)) found
