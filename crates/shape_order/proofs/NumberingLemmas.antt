-- The search that puts shapes in order.
use Rattle.std.specs.Prelude.{◌≡◌, ℕ, ◌+◌, ◌-◌, ◌*◌, ◌<◌, ◌≤◌, ◌⊎◌, nat_eq, List, [], ◌∷◌, ◌++◌, length}
use Rattle.std.specs.Prelude.{Contains, All}
use Rattle.std.specs.List.{IsDistinct}
use Rattle.std.proofs.Common.{sym, ap, ◌∙◌, subst, arith, inl, inr, below_more}
use Rattle.std.proofs.lemmas.List.Elements.{All-push, All-weaker, All-nil, Contains-push, Contains-push_cases}
use Rattle.std.proofs.lemmas.List.Elements.{Contains-append_left}
use Rattle.shx_term.proofs.MemberLemmas.{none_in_empty}
use Rattle.shape_order.specs.declared.references.Reference.{Reference}
use Rattle.shape_order.specs.declared.visits.Visit.{Visit}
use Rattle.shape_order.specs.Chain.{IsTrail, IsRecursive}
use Rattle.shape_order.specs.Order.{IsOrdered, HasEach}
use Rattle.shape_order.specs.Refs.{Refers, IsWithin}
use Rattle.shape_order.specs.inner.Listed.{with_shape}
use Rattle.shape_order.specs.inner.Numbered.{AreNumbered, HasAlso}
use Rattle.shape_order.specs.inner.Search.{AreListed, IsNext}
use Rattle.shape_order.specs.inner.Visits.{way_of}
use Rattle.shape_order.proofs.ChainLemmas.{IsTrail-front, IsTrail-push, IsTrail-one, trail_closed}
use Rattle.shape_order.proofs.ListedLemmas.{with_shape-cases, with_shape-keeps, with_shape-has}
use Rattle.shape_order.proofs.OrderLemmas.{IsOrdered-add}
use Rattle.shape_order.proofs.SearchLemmas.{IsVisit, IsVisit-new, IsVisit-more, All-front, all_done}
use Rattle.shape_order.proofs.SearchLemmas.{met_one, next_refers, passed_next, way_push}

-- the shapes in order, those that were met, and those on the way from the root
pub record Numbers (to : ℕ → List ℕ) (count : ℕ) (before : List ℕ) (start : ℕ) (order seen : List ℕ)
    (ways : List Visit) : Type 0 where
  pub ordered : IsOrdered to order
  pub order_within : (y : ℕ) → Contains order y → y < count
  pub kept : (y : ℕ) → Contains before y → Contains order y
  pub seen_within : (y : ℕ) → Contains seen y → y < count
  pub met : (y : ℕ) → Contains seen y → Contains order y ⊎ Contains (way_of ways) y
  pub begun : Contains seen start
  pub visits : All (IsVisit to count order) ways
  pub trail : IsTrail to (way_of ways)

module _ (to : ℕ → List ℕ) (count : ℕ) (within : IsWithin to count) (before : List ℕ) (start : ℕ) where
  pub numbers_start : (seen : List ℕ) → start < count → AreNumbered to count before seen
      → Numbers to count before start before (with_shape seen start)
      (record { shape = start; place = 0 } ∷ [])
  numbers_start seen below numbered = record {
    ordered = numbered.ordered;
    order_within = numbered.within;
    kept = λ y c. c;
    seen_within = λ y c. elim (with_shape-cases seen start y c) [
      | inl c ↦ numbered.within y (numbered.met y c)
      | inr e ↦ subst (λ i. i < count) (sym e) below
    ];
    met = λ y c. elim (with_shape-cases seen start y c) [
      | inl c ↦ inl (numbered.met y c)
      | inr e ↦ inr (subst (Contains (start ∷ [])) (sym e) (Contains-push [] start))
    ];
    begun = with_shape-has seen start;
    visits = All-push (IsVisit to count before) [] (record { shape = start; place = 0 })
        (All-nil (IsVisit to count before)) (IsVisit-new to count before start below);
    trail = IsTrail-one to start;
  }

  -- of a way, the last and those before it
  module _ (order seen : List ℕ) (rest : List Visit) (v : Visit) {ways : List Visit}
      (is : ways ≡ rest ++ v ∷ []) (held : Numbers to count before start order seen ways) where
    numbers : Numbers to count before start order seen (rest ++ v ∷ [])
    numbers = subst (λ (ways : List Visit). Numbers to count before start order seen ways) is held

    visits : All (IsVisit to count order) rest × IsVisit to count order v
    visits = All-front (IsVisit to count order) rest v numbers.visits

    trail_last : IsTrail to (way_of rest ++ v.shape ∷ [])
    trail_last = subst (IsTrail to) (way_push rest v) numbers.trail

    on_way : (y : ℕ) → Contains (way_of (rest ++ v ∷ [])) y → Contains (way_of rest ++ v.shape ∷ []) y
    on_way y c = subst (λ (w : List ℕ). Contains w y) (way_push rest v) c

    -- all that the last refers to is in order, so it is put behind
    pub numbers_done : {shapes : List ℕ} → shapes ≡ to v.shape
        → AreListed shapes order v.place (length shapes)
        → Numbers to count before start (with_shape order v.shape) seen rest
    numbers_done led found =
        let left = subst (λ (shapes : List ℕ). AreListed shapes order v.place (length shapes)) led found in
        let more = with_shape order v.shape in
        let keeps = with_shape-keeps order v.shape in
        let all = all_done (to v.shape) order v.place visits.1.passed left in
        record {
          ordered = IsOrdered-add to order v.shape numbers.ordered all;
          order_within = λ y c. elim (with_shape-cases order v.shape y c) [
            | inl c ↦ numbers.order_within y c
            | inr e ↦ subst (λ i. i < count) (sym e) visits.1.within
          ];
          kept = λ y c. keeps y (numbers.kept y c);
          seen_within = numbers.seen_within;
          met = λ y c. elim (numbers.met y c) [
            | inl c ↦ inl (keeps y c)
            | inr c ↦ elim (Contains-push_cases (way_of rest) v.shape y (on_way y c)) [
              | inl c ↦ inr c
              | inr e ↦ inl (subst (Contains more) e (with_shape-has order v.shape))
            ]
          ];
          begun = numbers.begun;
          visits = All-weaker (IsVisit to count order) (IsVisit to count more)
              (IsVisit-more to count order more keeps) rest visits.0;
          trail = IsTrail-front to (way_of rest) v.shape trail_last;
        }

    module _ (r : Reference) {shapes : List ℕ} (led : shapes ≡ to v.shape)
        (found : IsNext shapes order v.place r) where
      next : IsNext (to v.shape) order v.place r
      next = subst (λ (shapes : List ℕ). IsNext shapes order v.place r) led found

      refers : Refers to v.shape r.shape
      refers = next_refers (to v.shape) order v.place r next

      -- the next reference is on the way, so it reaches itself
      pub numbers_closed : Contains seen r.shape → IsRecursive to r.shape
      numbers_closed c = elim (numbers.met r.shape c) [
        | inl c ↦ absurd (next.new c)
        | inr c ↦ trail_closed to (way_of rest) v.shape r.shape trail_last refers (on_way r.shape c)
      ]

      abbrev here : Visit
      here = record { shape = v.shape; place = r.place }

      abbrev there : Visit
      there = record { shape = r.shape; place = 0 }

      way : way_of ((rest ++ here ∷ []) ++ there ∷ []) ≡ (way_of rest ++ v.shape ∷ []) ++ r.shape ∷ []
      way = way_push (rest ++ here ∷ []) there ∙ ap (λ w. w ++ r.shape ∷ []) (way_push rest here)

      goes_on : (y : ℕ) → Contains ((way_of rest ++ v.shape ∷ []) ++ r.shape ∷ []) y
          → Contains (way_of ((rest ++ here ∷ []) ++ there ∷ [])) y
      goes_on y c = subst (λ (w : List ℕ). Contains w y) (sym way) c

      -- it was not met: the way goes on to it
      pub numbers_on : Numbers to count before start order (with_shape seen r.shape)
          ((rest ++ here ∷ []) ++ there ∷ [])
      numbers_on =
          let front = way_of rest ++ v.shape ∷ [] in
          let below = within.each v.shape r.shape refers in
          record {
            ordered = numbers.ordered;
            order_within = numbers.order_within;
            kept = numbers.kept;
            seen_within = λ y c. elim (with_shape-cases seen r.shape y c) [
              | inl c ↦ numbers.seen_within y c
              | inr e ↦ subst (λ i. i < count) (sym e) below
            ];
            met = λ y c. elim (with_shape-cases seen r.shape y c) [
              | inl c ↦ elim (numbers.met y c) [
                | inl c ↦ inl c
                | inr c ↦ inr (goes_on y (Contains-append_left front (r.shape ∷ []) y (on_way y c)))
              ]
              | inr e ↦ inr (goes_on y (subst (Contains (front ++ r.shape ∷ [])) (sym e)
                  (Contains-push front r.shape)))
            ];
            begun = with_shape-keeps seen r.shape start numbers.begun;
            visits = All-push (IsVisit to count order) (rest ++ here ∷ []) there
                (All-push (IsVisit to count order) rest here visits.0 (record {
                  within = visits.1.within;
                  passed = passed_next (to v.shape) order v.place visits.1.passed r next;
                }))
                (IsVisit-new to count order r.shape below);
            trail = subst (IsTrail to) (sym way)
                (IsTrail-push to (way_of rest) v.shape r.shape trail_last refers);
          }

      -- fewer are left to be met
      pub numbers_fewer : (Contains seen r.shape → ⊥) → IsDistinct nat_eq (with_shape seen r.shape)
          → length ((rest ++ here ∷ []) ++ there ∷ []) + 2 * (count - length (with_shape seen r.shape))
          < length (rest ++ v ∷ []) + 2 * (count - length seen)
      numbers_fewer new distinct =
          met_one seen rest r.shape count v here there distinct numbers_on.seen_within new

  -- nothing is on the way
  pub numbers_end : (order seen : List ℕ) → Numbers to count before start order seen []
      → AreNumbered to count order seen × HasAlso before order start
  numbers_end order seen numbers =
      let met : (y : ℕ) → Contains seen y → Contains order y = λ y c. elim (numbers.met y c) [
        | inl c ↦ c
        | inr c ↦ absurd (none_in_empty y c)
      ] in (
        record { ordered = numbers.ordered; within = numbers.order_within; met = met },
        record { here = met start numbers.begun; kept = numbers.kept },
      )

-- ---- one root after the other

-- the roots up to one are in order
pub record NumbersAll (to : ℕ → List ℕ) (count root : ℕ) (order seen : List ℕ) : Type 0 where
  pub numbered : AreNumbered to count order seen
  pub roots : (i : ℕ) → i < root → Contains order i

pub all_more : (to : ℕ → List ℕ) (count root : ℕ) (before seen order more : List ℕ)
    → NumbersAll to count root before seen → AreNumbered to count order more → HasAlso before order root
    → NumbersAll to count (root + 1) order more
all_more to count root before seen order more all numbered also = record {
  numbered = numbered;
  roots = below_more (Contains order) root (λ i h. also.kept i (all.roots i h)) also.here;
}

pub all_end : (to : ℕ → List ℕ) (count root : ℕ) (order seen : List ℕ) → count ≤ root
    → NumbersAll to count root order seen → HasEach count order
all_end to count root order seen far all = record {
  each = λ i. (all.numbered.within i, λ h. all.roots i (omega arith));
}
