-- In which order the results of a shape stand: by any nodes in order among which is each that has some.
use Rattle.std.specs.Prelude.{◌≡◌, ℕ, Bool, true, false, List, [], ◌∷◌, ◌++◌, flat_map, filter, cond}
use Rattle.std.specs.Prelude.{slice_get}
use Rattle.std.specs.Prelude.{zero, suc, All, Contains, Option, Some, None, IsSome}
use Rattle.std.specs.List.Sorted.{IsStrictlySortedBy}
use Rattle.std.specs.Map.{keys_of}
use Rattle.std.proofs.Common.{refl, sym, ap, ◌∙◌, true≢false}
use Rattle.std.proofs.lemmas.List.Kept.{IsStrictlySortedBy-filter}
use Rattle.std.proofs.lemmas.Map.Keys.{IsDistinct-from_sorted}
use Rattle.std.proofs.lemmas.Map.Views.{Contains-keys_from_lookup, lookup-from_Contains}
use Rattle.shx_term.proofs.InOrderLemmas.{same_lists}
use Rattle.shx_term.proofs.MemberLemmas.{Contains-head, Contains-tail, Contains-filter, Contains-from_filter}
use Rattle.shx_term.proofs.MemberLemmas.{All_head, All_tail}
use Rattle.shx_term.specs.InOrder.{IsExactOrder, Lists}
use Rattle.shx_term.specs.TermOrder.{term_cmp}
use Rattle.shx_term.specs.declared.term.Term.{Term}
use Rattle.shx_term.specs.inner.TermOrderLaws.{same_term_equiv, same_term_exact, term_cmp_exact}
use Rattle.shx_term.specs.inner.TermOrderLaws.{term_cmp_total}
use Rattle.comp_core.specs.declared.row.ResultRow.{ResultRow}
use Rattle.pair_results.proofs.NodeLemmas.{IsInOrder}
use Rattle.pair_results.specs.PairResults.{Nodes, StandInTermOrder, nodes_if_any, nodes_of}
use Rattle.pair_results.specs.PairResults.{place_of, rows_if_any, rows_in, rows_of_nodes}

term_order : IsExactOrder term_cmp
term_order = record { total = term_cmp_total; exact = term_cmp_exact }

-- the nodes of a shape stand in the order of their terms
pub nodes_sorted : (shapes : List Nodes) (shape : ℕ)
    → All IsInOrder shapes → IsInOrder (nodes_if_any (slice_get shapes shape))
unfolding IsStrictlySortedBy
nodes_sorted [] shape all = tt
nodes_sorted (nodes ∷ shapes) zero all = All_head IsInOrder nodes shapes all
nodes_sorted (nodes ∷ shapes) (suc shape) all =
    nodes_sorted shapes shape (All_tail IsInOrder nodes shapes all)

-- all results are those of each node in turn
by_keys : (es : Nodes) (f : Term → List ResultRow)
    → ((e : Term × List ResultRow) → Contains es e → f e.0 ≡ e.1)
    → rows_of_nodes es ≡ flat_map f (keys_of es)
by_keys [] f each = refl
by_keys (e ∷ es) f each =
    let here = each e (Contains-head e es) in
    let rest = by_keys es f (λ d c. each d (Contains-tail e d es c)) in
    λ i. sym here i ++ rest i

held_at : (es : Nodes) → IsInOrder es
    → (e : Term × List ResultRow) → Contains es e → rows_in es e.0 ≡ e.1
held_at es sorted e c =
    ap rows_if_any
    (lookup-from_Contains same_term_equiv e.0 e.1 es (IsDistinct-from_sorted term_cmp (keys_of es) sorted) c)

-- ---- what is empty adds nothing

abbrev has_some : List ResultRow → Bool
has_some [] = false
has_some (row ∷ rows) = true

none_if_not : (rows : List ResultRow) → has_some rows ≡ false → rows ≡ []
none_if_not [] h = refl
none_if_not (row ∷ rows) h = absurd (true≢false h)

not_if_some : (rows : List ResultRow) → has_some rows ≡ true → rows ≡ [] → ⊥
not_if_some rows some none = true≢false (sym some ∙ ap has_some none)

placed_if_some : (place : Option (List ResultRow)) → has_some (rows_if_any place) ≡ true → IsSome place
placed_if_some None h = absurd (true≢false (sym h))
placed_if_some (Some rows) h = refl

module _ (f : Term → List ResultRow) where
  abbrev some_at : Term → Bool
  some_at node = has_some (f node)

  without_empty : (terms : List Term) → flat_map f (filter some_at terms) ≡ flat_map f terms
  without_empty [] = refl
  without_empty (node ∷ terms) = by (some_at node) refl (without_empty terms)
    where
      by : (b : Bool) → some_at node ≡ b → flat_map f (filter some_at terms) ≡ flat_map f terms
          → flat_map f (cond (some_at node) (node ∷ filter some_at terms) (filter some_at terms))
          ≡ f node ++ flat_map f terms
      by true is rest =
          ap (λ b. flat_map f (cond b (node ∷ filter some_at terms) (filter some_at terms))) is
          ∙ ap (λ rows. f node ++ rows) rest
      by false is rest =
          ap (λ b. flat_map f (cond b (node ∷ filter some_at terms) (filter some_at terms))) is
          ∙ rest
          ∙ sym (ap (λ rows. rows ++ flat_map f terms) (none_if_not (f node) is))

-- the nodes that have some, among the places and among any nodes that have each of them
module _ (es : Nodes) (terms : List Term) where
  abbrev HasSome : Term → Type 0
  HasSome node = has_some (rows_in es node) ≡ true

  keys_list : IsInOrder es
      → Lists term_cmp HasSome (filter (some_at (rows_in es)) (keys_of es))
  keys_list sorted = record {
    sorted = IsStrictlySortedBy-filter term_cmp (some_at (rows_in es)) (keys_of es) sorted;
    each = λ node. (
      λ c. (Contains-from_filter (some_at (rows_in es)) (keys_of es) node c).1,
      λ h.
          let held =
          Contains-keys_from_lookup same_term_exact node es (placed_if_some (place_of es node) h) in
          Contains-filter (some_at (rows_in es)) (keys_of es) node held h,
    );
  }

  terms_list : IsStrictlySortedBy term_cmp terms
      → ((node : Term) → (rows_in es node ≡ [] → ⊥) → Contains terms node)
      → Lists term_cmp HasSome (filter (some_at (rows_in es)) terms)
  terms_list sorted among = record {
    sorted = IsStrictlySortedBy-filter term_cmp (some_at (rows_in es)) terms sorted;
    each = λ node. (
      λ c. (Contains-from_filter (some_at (rows_in es)) terms node c).1,
      λ h. Contains-filter (some_at (rows_in es)) terms node (among node (not_if_some (rows_in es node) h)) h,
    );
  }

pub stand_in_term_order : StandInTermOrder
stand_in_term_order kept ordered shape terms sorted among =
    let es = nodes_of kept shape in
    let keys = keys_of es in
    let some = some_at (rows_in es) in
    let keys_sorted = nodes_sorted kept.shapes shape ordered in
    by_keys es (rows_in es) (held_at es keys_sorted)
    ∙ sym (without_empty (rows_in es) keys)
    ∙ ap (flat_map (rows_in es))
    (same_lists term_cmp term_order (filter some keys) (filter some terms) (keys_list es terms keys_sorted)
    (terms_list es terms sorted among))
    ∙ without_empty (rows_in es) terms
