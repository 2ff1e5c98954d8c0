-- What is kept of a history: the staged change at the end, and at its place.
use Rattle.std.specs.Prelude.{◌≡◌, ℕ, ◌+◌, ◌-◌, ◌<◌, ◌≤◌, Bool, true, false, List, [], ◌∷◌, ◌++◌, Some, None}
use Rattle.std.specs.Prelude.{length, take, drop, slice_get}
use Rattle.std.specs.List.{swap}
use Rattle.std.specs.Option.{is_some}
use Rattle.std.proofs.Common.{refl, sym, ap, ◌∙◌, subst, arith, length-append, get_or, set, inl, inr}
use Rattle.std.proofs.Common.{true≢false}
use Rattle.std.proofs.lemmas.Bool.{cases_lt}
use Rattle.std.proofs.lemmas.Option.{slice_get-get_or}
use Rattle.std.proofs.lemmas.List.{take-append-le, take-set, take-set-le, take_more_set, take-take}
use Rattle.std.proofs.lemmas.List.{length-set}
use Rattle.edit_history.specs.declared.net.Net.{Net}
use Rattle.edit_history.specs.History.{Past, Commits, DropsStaged, Stages, latest}
use Rattle.edit_history.specs.inner.Kept.{IsPast, staged_in, visible}

-- none too many, or one
pub latest_less : {X : Type 0} (depth : ℕ) (xs : List X) → length xs ≤ depth → xs ≡ latest depth xs
latest_less depth xs within =
    let none : length xs - depth ≡ 0 = omega (arith, within) in ap (λ n. drop n xs) (sym none)

pub latest_one : {X : Type 0} (depth : ℕ) (xs : List X) → depth < length xs → length xs ≤ depth + 1
    → drop 1 xs ≡ latest depth xs
latest_one depth xs past within =
    let one : length xs - depth ≡ 1 = omega (arith, past, within) in ap (λ n. drop n xs) (sym one)

at_last : {X : Type 0} (xs : List X) (x : X) → slice_get (xs ++ x ∷ []) (length xs) ≡ Some x
at_last [] x = refl
at_last (y ∷ ys) x = at_last ys x

all_taken : {X : Type 0} (xs : List X) → take (length xs) xs ≡ xs
all_taken [] = refl
all_taken (x ∷ xs) = ap (λ ys. x ∷ ys) (all_taken xs)

before_last : {X : Type 0} (xs : List X) (x : X) → length (xs ++ x ∷ []) - 1 ≡ length xs
before_last xs x = let long = length-append xs (x ∷ []) in omega (arith, long)

pub stages_pushed : (before past : Past) (b : Bool) (xs items : List Net) (c depth : ℕ) (net : Net)
    → (record { changes = visible b xs; cursor = c; depth = depth; staged = staged_in b xs }) ≡ past
    → DropsStaged before past → IsPast b xs c depth → items ≡ xs ++ net ∷ []
    → Stages before
    (record { changes = visible true items; cursor = c; depth = depth; staged = staged_in true items }) net
stages_pushed before past true xs items c depth net is drops kept pushed =
    let k = length xs - 1 in
    let here = slice_get-get_or xs k net (omega (arith, kept.within)) in
    absurd (true≢false (ap is_some (sym here ∙ (λ i. (is i).staged) ∙ drops.staged)))
stages_pushed before past false xs items c depth net is drops kept pushed =
    subst (λ us. Stages before
    (record { changes = visible true us; cursor = c; depth = depth; staged = staged_in true us }) net)
    (sym pushed) (record {
      changes = ap (λ n. take n (xs ++ net ∷ [])) (before_last xs net)
          ∙ take-append-le (length xs) xs (net ∷ []) (omega arith) ∙ all_taken xs
          ∙ (λ i. (is i).changes) ∙ drops.changes;
      cursor = (λ i. (is i).cursor) ∙ drops.cursor;
      depth = (λ i. (is i).depth) ∙ drops.depth;
      staged = ap (slice_get (xs ++ net ∷ [])) (before_last xs net) ∙ at_last xs net;
    })

-- the staged change at the place of the first that goes
put_at : (d : Net) (xs : List Net) (c k : ℕ) → c < length xs → k + 1 ≡ length xs → c ≤ k
    → take (c + 1) (set (set xs c (get_or xs k d)) k (get_or xs c d)) ≡ take c xs ++ get_or xs k d ∷ []
put_at d xs c k inside last before = elim (cases_lt c k) [
  | inl lower ↦
      take-set-le (c + 1) (set xs c (get_or xs k d)) k (get_or xs c d) (omega (arith, lower))
      ∙ take_more_set xs c (get_or xs k d) inside
  | inr same ↦
      let e : c ≡ k = omega (arith, same, before) in
      subst (λ j. take (c + 1) (set (set xs c (get_or xs j d)) j (get_or xs c d))
      ≡ take c xs ++ get_or xs j d ∷ [])
      e (take_more_set (set xs c (get_or xs c d)) c (get_or xs c d)
      (omega (arith, inside, length-set xs c (get_or xs c d)))
      ∙ ap (λ ys. ys ++ get_or xs c d ∷ []) (take-set xs c (get_or xs c d)))
]

pub enters_staged : (past : Past) (b : Bool) (xs zs : List Net) (c depth n : ℕ)
    → (record { changes = visible b xs; cursor = c; depth = depth; staged = staged_in b xs }) ≡ past
    → b ≡ true → c + 1 ≤ length xs → zs ≡ latest depth (take (c + 1) (swap xs c (length xs - 1)))
    → n ≡ length zs
    → Commits past (record { changes = zs; cursor = n; depth = depth; staged = None })
enters_staged past false xs zs c depth n is off within made count = absurd (true≢false (sym off))
enters_staged past true [] zs c depth n is on within made count = absurd (omega (arith, within))
enters_staged past true (d ∷ ys) zs c depth n is on within made count =
    let xs = d ∷ ys in
    let k = length xs - 1 in
    let last : k + 1 ≡ length xs = omega arith in
    let here = slice_get-get_or xs k d (omega (arith, last)) in
    let part : take c (take k xs) ≡ take c xs = take-take c k xs (omega (arith, within, last)) in
    let whole = put_at d xs c k (omega (arith, within)) last (omega (arith, within, last)) in
    let net = get_or xs k d in
    let old : Past = record { changes = take k xs; cursor = c; depth = depth; staged = Some net } in
    let changes : zs ≡ latest depth (take c (take k xs) ++ net ∷ []) =
    made ∙ ap (latest depth) (whole ∙ ap (λ us. us ++ net ∷ []) (sym part)) in
    let enters : Commits old (record { changes = zs; cursor = n; depth = depth; staged = None }) =
    λ i. record {
      changes = changes i;
      cursor = (count ∙ ap length changes) i;
      depth = depth;
      staged = None;
    } in
    subst (λ p. Commits p (record { changes = zs; cursor = n; depth = depth; staged = None }))
    ((λ i. record { changes = take k xs; cursor = c; depth = depth; staged = sym here i }) ∙ is) enters
