-- What is staged: what is found there once some results were added, or the first were taken out.
use Rattle.std.specs.Prelude.{◌≡◌, ℕ, ◌+◌, ◌≤◌, Bool, true, false, ◌&&◌, ◌==◌, List, [], ◌∷◌, ◌++◌, length}
use Rattle.std.specs.Prelude.{flat_map, Some, None, IsSome, cond}
use Rattle.std.specs.BTreeMap.{insert_entry}
use Rattle.std.specs.Cmp.{both_tied, nat_eq_equiv, unsigned_ties, first_so, second_so}
use Rattle.std.specs.Map.{lookup}
use Rattle.std.specs.Ordering.{eq_by_cmp, match_ordering, nat_cmp, ordering_then}
use Rattle.std.specs.declared.cmp.Ordering.{Ordering}
use Rattle.std.specs.declared.cmp.Ordering.TheVariants.{Less, Equal, Greater}
use Rattle.std.proofs.Common.{refl, sym, ap, ◌∙◌, subst, arith, length-append}
use Rattle.std.proofs.lemmas.Bool.{eqb-true}
use Rattle.shx_term.specs.TermOrder.{term_cmp}
use Rattle.shx_term.specs.declared.term.Term.{Term}
use Rattle.shx_term.specs.inner.TermOrderLaws.{same_term_equiv, same_term_exact}
use Rattle.comp_core.specs.declared.row.ResultRow.{ResultRow}
use Rattle.pair_results.specs.PairResults.{is_at}
use Rattle.pair_results.specs.declared.pair_results.Place.{Place}
use Rattle.pair_results.specs.inner.Invariant.{AddsAt, Staged}

-- the order of places
abbrev pub place_cmp : Place → Place → Ordering
place_cmp a b = ordering_then (nat_cmp a.shape b.shape) (term_cmp a.node b.node)

abbrev pub place : ℕ → Term → Place
place shape node = record { shape = shape; node = node }

-- whether a shape and a node are those of a place
abbrev pub at : ℕ → Term → ℕ → Term → Bool
at shape node n other = (shape == n) && eq_by_cmp term_cmp node other

tied_place : (n : ℕ) (other : Term) (p : Place) → eq_by_cmp place_cmp (place n other) p ≡ is_at n other p
tied_place n other p =
    sym (both_tied (n == p.shape) (eq_by_cmp term_cmp other p.node) (nat_cmp n p.shape)
    (term_cmp other p.node) (unsigned_ties n p.shape) refl)

looked_up : (es : Staged) (n : ℕ) (other : Term)
    → lookup (is_at n other) es ≡ lookup (eq_by_cmp place_cmp (place n other)) es
looked_up es n other = λ i. lookup (λ p. sym (tied_place n other p) i) es

pub turned : (n : ℕ) (other : Term) (p : Place) → is_at n other p ≡ at p.shape p.node n other
turned n other p = λ i. nat_eq_equiv.symm n p.shape i && same_term_equiv.symm other p.node i

pub at_itself : (shape : ℕ) (node : Term) → at shape node shape node ≡ true
at_itself shape node = λ i. nat_eq_equiv.refl shape i && same_term_equiv.refl node i

pub at_exact : (shape : ℕ) (node : Term) (n : ℕ) (other : Term) → at shape node n other ≡ true
    → (shape ≡ n) × (node ≡ other)
at_exact shape node n other h = (
  eqb-true shape n (first_so (shape == n) (eq_by_cmp term_cmp node other) h),
  same_term_exact node other (second_so (shape == n) (eq_by_cmp term_cmp node other) h),
)

-- ---- one more

count-inserted : {K X : Type 0} (cmp : K → K → Ordering) (es : List (K × List X)) (k : K) (rows : List X)
    → length (flat_map (λ e. e.1) (insert_entry cmp es k rows))
    ≤ length (flat_map (λ e. e.1) es) + length rows
count-inserted cmp [] k rows = let e = length-append rows [] in omega arith
count-inserted cmp (e ∷ es) k rows =
    elim (cmp k e.0) as
    (λ r. length (flat_map (λ d. d.1) (match_ordering r ((k, rows) ∷ e ∷ es) ((e.0, rows) ∷ es)
    (e ∷ insert_entry cmp es k rows))) ≤ length (e.1 ++ flat_map (λ d. d.1) es) + length rows) [
      | Less ↦
          let a = length-append rows (e.1 ++ flat_map (λ d. d.1) es) in
          omega arith
      | Equal ↦
          let a = length-append rows (flat_map (λ d. d.1) es) in
          let b = length-append e.1 (flat_map (λ d. d.1) es) in
          omega arith
      | Greater ↦
          let a = length-append e.1 (flat_map (λ d. d.1) (insert_entry cmp es k rows)) in
          let b = length-append e.1 (flat_map (λ d. d.1) es) in
          let rest = count-inserted cmp es k rows in
          omega arith
    ]

pub AddsAt-inserted : (old new : Staged) (shape : ℕ) (node copy : Term) (rows : List ResultRow) → copy ≡ node
    → new ≡ insert_entry place_cmp old (place shape copy) rows
    → ((p : Place) → lookup (eq_by_cmp place_cmp p) new
    ≡ cond (eq_by_cmp place_cmp (place shape copy) p) (Some rows) (lookup (eq_by_cmp place_cmp p) old))
    → AddsAt old new shape node rows
AddsAt-inserted old new shape node copy rows same is updates =
    subst (λ t. AddsAt old new shape t rows) same (record {
      each = λ n other.
          looked_up new n other
          ∙ updates (place n other)
          ∙ (λ i. cond (tied_place shape copy (place n other) i) (Some rows) (sym (looked_up old n other) i));
      count = rw is (count-inserted place_cmp old (place shape copy) rows);
    })

-- ---- the first is taken out

pub record TakesFirst (old new : Staged) (p : Place) (rows : List ResultRow) : Type 0 where
  pub is : old ≡ (p, rows) ∷ new
  pub none : lookup (is_at p.shape p.node) new ≡ None

pub TakesFirst-popped : (old new : Staged) (p : Place) (rows : List ResultRow) → old ≡ (p, rows) ∷ new
    → lookup (eq_by_cmp place_cmp p) new ≡ None → TakesFirst old new p rows
TakesFirst-popped old new p rows is gone = record {
  is = is;
  none = looked_up new p.shape p.node ∙ gone;
}

module _ (old new : Staged) (p : Place) (rows : List ResultRow) (takes : TakesFirst old new p rows) where
  pub found_before : (n : ℕ) (other : Term)
      → lookup (is_at n other) old ≡ cond (at p.shape p.node n other) (Some rows) (lookup (is_at n other) new)
  found_before n other =
      ap (lookup (is_at n other)) takes.is
      ∙ ap (λ b. cond b (Some rows) (lookup (is_at n other) new)) (turned n other p)

  pub was_found : lookup (is_at p.shape p.node) old ≡ Some rows
  was_found =
      found_before p.shape p.node
      ∙ ap (λ b. cond b (Some rows) (lookup (is_at p.shape p.node) new)) (at_itself p.shape p.node)

  pub left_found : (n : ℕ) (other : Term) → IsSome (lookup (is_at n other) new)
      → IsSome (lookup (is_at n other) old)
  left_found n other there =
      rw (found_before n other) (by (at p.shape p.node n other))
    where
      by : (b : Bool) → IsSome (cond b (Some rows) (lookup (is_at n other) new))
      by true = refl
      by false = there

  pub count-left : length (flat_map (λ e. e.1) old) ≡ length rows + length (flat_map (λ e. e.1) new)
  count-left =
      ap (λ (es : Staged). length (flat_map (λ e. e.1) es)) takes.is
      ∙ length-append rows (flat_map (λ e. e.1) new)
