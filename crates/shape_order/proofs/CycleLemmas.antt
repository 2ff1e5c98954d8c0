-- The search for a cycle from a shape.
use Rattle.std.specs.Prelude.{◌≡◌, ℕ, ◌-◌, ◌<◌, ◌⊎◌, nat_eq, true, false, List, [], ◌∷◌, ◌++◌, length}
use Rattle.std.specs.Prelude.{Contains, All}
use Rattle.std.specs.Cmp.{nat_eq_equiv}
use Rattle.std.specs.List.{IsDistinct, list_any}
use Rattle.std.proofs.Common.{refl, sym, ap, ◌∙◌, subst, arith, get_or, inl, inr}
use Rattle.std.proofs.lemmas.List.{length_push, get_or_append_left, get_or_push}
use Rattle.std.proofs.lemmas.List.Elements.{All-push, All-weaker, All-nil, Contains-push, Contains-push_cases}
use Rattle.std.proofs.lemmas.List.Elements.{Contains-append_left}
use Rattle.std.proofs.lemmas.Map.Keys.{IsDistinct-push, apart_from_distinct, IsDistinct-from_apart}
use Rattle.shx_term.proofs.MemberLemmas.{none_in_empty}
use Rattle.shape_order.specs.declared.references.Reference.{Reference}
use Rattle.shape_order.specs.declared.visits.Visit.{Visit}
use Rattle.shx_term.specs.Chains.{Walk}
use Rattle.shape_order.specs.Chain.{IsTrail, IsRecursive, IsCycle}
use Rattle.shape_order.specs.Refs.{Refers, IsWithin}
use Rattle.shape_order.specs.inner.Listed.{with_shape}
use Rattle.shape_order.specs.inner.Search.{AreListed, IsNext}
use Rattle.shape_order.specs.inner.Visits.{way_of}
use Rattle.shape_order.proofs.ChainLemmas.{IsTrail-front, IsTrail-push, IsTrail-one}
use Rattle.shape_order.proofs.ListedLemmas.{held_is, with_shape-cases, with_shape-keeps, with_shape-has}
use Rattle.shape_order.proofs.SearchLemmas.{IsVisit, IsVisit-new, IsVisit-more, All-front, all_done}
use Rattle.shape_order.proofs.SearchLemmas.{next_refers, passed_next, way_push}

-- ---- distinct shapes, without the last and with one more

distinct_front : (xs : List ℕ) (x : ℕ) → IsDistinct nat_eq (xs ++ x ∷ []) → IsDistinct nat_eq xs
distinct_front xs x distinct = IsDistinct-from_apart nat_eq xs (λ i j d below near.
    subst (λ a. nat_eq a (get_or xs j d) ≡ false) (get_or_append_left xs (x ∷ []) d i (omega arith))
    (subst (λ b. nat_eq (get_or (xs ++ x ∷ []) i d) b ≡ false) (get_or_append_left xs (x ∷ []) d j near)
    (apart_from_distinct nat_eq (xs ++ x ∷ []) i j d distinct below (omega (arith, length_push xs x)))))

not_held : (xs : List ℕ) (x : ℕ) → (Contains xs x → ⊥) → list_any (nat_eq x) xs ≡ false
not_held xs x new = elim (list_any (nat_eq x) xs) as (λ b. list_any (nat_eq x) xs ≡ b → b ≡ false) [
  | true ↦ λ e. absurd (new ((held_is xs x).0 e))
  | false ↦ λ _. refl
] refl

-- the shapes that were met from the start, and those on the way to the last of them
pub record Closes (to : ℕ → List ℕ) (count : ℕ) (start : ℕ) (seen : List ℕ) (ways : List Visit) : Type 0 where
  pub seen_within : (y : ℕ) → Contains seen y → y < count
  pub apart : Contains seen start → ⊥
  -- what was met and is not on the way leads to what was met
  pub done : (y : ℕ) → Contains seen y ⊎ (y ≡ start)
      → Contains (way_of ways) y ⊎ ((j : ℕ) → Refers to y j → Contains seen j)
  pub met : (y : ℕ) → Contains (way_of ways) y → Contains seen y ⊎ (y ≡ start)
  pub distinct : IsDistinct nat_eq (way_of ways)
  pub first : 0 < length (way_of ways) → get_or (way_of ways) 0 0 ≡ start
  pub visits : All (IsVisit to count seen) ways
  pub trail : IsTrail to (way_of ways)

module _ (to : ℕ → List ℕ) (count : ℕ) (within : IsWithin to count) (start : ℕ) where
  pub closes_start : start < count → Closes to count start [] (record { shape = start; place = 0 } ∷ [])
  closes_start below = record {
    seen_within = λ y c. absurd (none_in_empty y c);
    apart = none_in_empty start;
    done = λ y h. elim h [
      | inl c ↦ absurd (none_in_empty y c)
      | inr e ↦ inl (subst (Contains (start ∷ [])) (sym e) (Contains-push [] start))
    ];
    met = λ y c. elim (Contains-push_cases [] start y c) [
      | inl c ↦ absurd (none_in_empty y c)
      | inr e ↦ inr (sym e)
    ];
    distinct = IsDistinct-from_apart nat_eq (start ∷ []) (λ i j d below near. absurd (omega arith));
    first = λ _. refl;
    visits = All-push (IsVisit to count []) [] (record { shape = start; place = 0 })
        (All-nil (IsVisit to count [])) (IsVisit-new to count [] start below);
    trail = IsTrail-one to start;
  }

  -- of a way, the last and those before it
  module _ (seen : List ℕ) (rest : List Visit) (v : Visit) {ways : List Visit} (is : ways ≡ rest ++ v ∷ [])
      (held : Closes to count start seen ways) where
    closes : Closes to count start seen (rest ++ v ∷ [])
    closes = subst (λ (ways : List Visit). Closes to count start seen ways) is held

    visits : All (IsVisit to count seen) rest × IsVisit to count seen v
    visits = All-front (IsVisit to count seen) rest v closes.visits

    abbrev front : List ℕ
    front = way_of rest ++ v.shape ∷ []

    split : way_of (rest ++ v ∷ []) ≡ front
    split = way_push rest v

    on_way : (y : ℕ) → Contains (way_of (rest ++ v ∷ [])) y → Contains front y
    on_way y c = subst (λ (w : List ℕ). Contains w y) split c

    from_way : (y : ℕ) → Contains front y → Contains (way_of (rest ++ v ∷ [])) y
    from_way y c = subst (λ (w : List ℕ). Contains w y) (sym split) c

    filled : 0 < length front
    filled = omega (arith, length_push (way_of rest) v.shape)

    first_is : get_or front 0 0 ≡ start
    first_is =
        ap (λ w. get_or w 0 0) (sym split)
        ∙ closes.first (subst (λ (w : List ℕ). 0 < length w) (sym split) filled)

    front_distinct : IsDistinct nat_eq front
    front_distinct = subst (IsDistinct nat_eq) split closes.distinct

    front_trail : IsTrail to front
    front_trail = subst (IsTrail to) split closes.trail

    -- all that the last refers to was met
    pub closes_done : {shapes : List ℕ} → shapes ≡ to v.shape → AreListed shapes seen v.place (length shapes)
        → Closes to count start seen rest
    closes_done led found =
        let left = subst (λ (shapes : List ℕ). AreListed shapes seen v.place (length shapes)) led found in
        let all = all_done (to v.shape) seen v.place visits.1.passed left in
        record {
          seen_within = closes.seen_within;
          apart = closes.apart;
          done = λ y h. elim (closes.done y h) [
            | inl c ↦ elim (Contains-push_cases (way_of rest) v.shape y (on_way y c)) [
              | inl c ↦ inl c
              | inr e ↦ inr (λ j r. all j (subst (λ i. Refers to i j) (sym e) r))
            ]
            | inr led ↦ inr led
          ];
          met = λ y c. closes.met y (from_way y (Contains-append_left (way_of rest) (v.shape ∷ []) y c));
          distinct = distinct_front (way_of rest) v.shape front_distinct;
          first = λ some. sym (get_or_append_left (way_of rest) (v.shape ∷ []) 0 0 some) ∙ first_is;
          visits = visits.0;
          trail = IsTrail-front to (way_of rest) v.shape front_trail;
        }

    module _ (r : Reference) {shapes : List ℕ} (led : shapes ≡ to v.shape)
        (found : IsNext shapes seen v.place r) where
      next : IsNext (to v.shape) seen v.place r
      next = subst (λ (shapes : List ℕ). IsNext shapes seen v.place r) led found

      refers : Refers to v.shape r.shape
      refers = next_refers (to v.shape) seen v.place r next

      abbrev here : Visit
      here = record { shape = v.shape; place = r.place }

      abbrev there : Visit
      there = record { shape = r.shape; place = 0 }

      -- the way leads back to the start
      pub closes_back : r.shape ≡ start → IsCycle to start (way_of (rest ++ here ∷ []))
      closes_back back =
          let at = length front - 1 in
          let last : get_or front at 0 ≡ v.shape =
          get_or_push (way_of rest) v.shape 0 at (omega (arith, length_push (way_of rest) v.shape)) in
          subst (IsCycle to start) (sym (way_push rest here)) (record {
            filled = filled;
            first = first_is;
            distinct = front_distinct;
            trail = front_trail;
            closed = subst (λ i. Refers to i start) (sym last) (subst (λ j. Refers to v.shape j) back refers);
          })

      abbrev more : List ℕ
      more = with_shape seen r.shape

      keeps : (y : ℕ) → Contains seen y → Contains more y
      keeps = with_shape-keeps seen r.shape

      abbrev way : List ℕ
      way = way_of ((rest ++ here ∷ []) ++ there ∷ [])

      goes : way ≡ front ++ r.shape ∷ []
      goes = way_push (rest ++ here ∷ []) there ∙ ap (λ w. w ++ r.shape ∷ []) (way_push rest here)

      on : (y : ℕ) → Contains (way_of (rest ++ v ∷ [])) y → Contains way y
      on y c =
          subst (λ (w : List ℕ). Contains w y) (sym goes)
          (Contains-append_left front (r.shape ∷ []) y (on_way y c))

      end : Contains way r.shape
      end = subst (λ (w : List ℕ). Contains w r.shape) (sym goes) (Contains-push front r.shape)

      passes : (y : ℕ) → Contains seen y ⊎ (y ≡ start)
          → Contains way y ⊎ ((j : ℕ) → Refers to y j → Contains more j)
      passes y h = elim (closes.done y h) [
        | inl c ↦ inl (on y c)
        | inr all ↦ inr (λ j s. keeps j (all j s))
      ]

      -- the way goes on
      pub closes_on : (r.shape ≡ start → ⊥) → Closes to count start (with_shape seen r.shape)
          ((rest ++ here ∷ []) ++ there ∷ [])
      closes_on away =
          let below = within.each v.shape r.shape refers in
          let new : Contains front r.shape → ⊥ = λ c. elim (closes.met r.shape (from_way r.shape c)) [
            | inl c ↦ next.new c
            | inr e ↦ away e
          ] in
          record {
            seen_within = λ y c. elim (with_shape-cases seen r.shape y c) [
              | inl c ↦ closes.seen_within y c
              | inr e ↦ subst (λ i. i < count) (sym e) below
            ];
            apart = λ c. elim (with_shape-cases seen r.shape start c) [
              | inl c ↦ closes.apart c
              | inr e ↦ away (sym e)
            ];
            done = λ y h. elim h [
              | inl c ↦ elim (with_shape-cases seen r.shape y c) [
                | inl c ↦ passes y (inl c)
                | inr e ↦ inl (subst (Contains way) (sym e) end)
              ]
              | inr e ↦ passes y (inr e)
            ];
            met = λ y c.
                elim (Contains-push_cases front r.shape y (subst (λ (w : List ℕ). Contains w y) goes c)) [
                  | inl c ↦ elim (closes.met y (from_way y c)) [ inl c ↦ inl (keeps y c) | inr e ↦ inr e ]
                  | inr e ↦ inl (subst (Contains more) e (with_shape-has seen r.shape))
                ];
            distinct = subst (IsDistinct nat_eq) (sym goes)
                (IsDistinct-push nat_eq_equiv front r.shape front_distinct (not_held front r.shape new));
            first = λ _.
                ap (λ w. get_or w 0 0) goes ∙ get_or_append_left front (r.shape ∷ []) 0 0 filled ∙ first_is;
            visits = All-weaker (IsVisit to count seen) (IsVisit to count more)
                (IsVisit-more to count seen more keeps) ((rest ++ here ∷ []) ++ there ∷ [])
                (All-push (IsVisit to count seen) (rest ++ here ∷ []) there
                (All-push (IsVisit to count seen) rest here visits.0 (record {
                  within = visits.1.within;
                  passed = passed_next (to v.shape) seen v.place visits.1.passed r next;
                }))
                (IsVisit-new to count seen r.shape below));
            trail = subst (IsTrail to) (sym goes)
                (IsTrail-push to (way_of rest) v.shape r.shape front_trail refers);
          }

  -- nothing is on the way: the start does not reach itself
  module _ (seen : List ℕ) (closes : Closes to count start seen []) where
    led : (y : ℕ) → Contains seen y ⊎ (y ≡ start) → (j : ℕ) → Refers to y j → Contains seen j
    led y h j r = elim (closes.done y h) [ inl c ↦ absurd (none_in_empty y c) | inr all ↦ all j r ]

    walk_led : (ns : List ℕ) (x y : ℕ) → Contains seen x → Walk (Refers to) x ns y → Contains seen y
    walk_led [] x y c e = subst (Contains seen) e c
    walk_led (n ∷ ns) x y c walk = walk_led ns n y (led x (inl c) n walk.0) walk.1

    pub closes_end : IsRecursive to start → ⊥
    closes_end longer =
        closes.apart (walk_led longer.2.0 longer.0 start (led start (inr refl) longer.0 longer.1) longer.2.1)
