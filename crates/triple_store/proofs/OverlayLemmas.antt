-- What a look-up finds over a change that is indexed.
use Rattle.std.specs.Prelude.{◌≡◌, ℕ, Bool, true, not, nat_eq, List, ◌++◌, map, filter, Contains, ◌↔◌}
use Rattle.std.specs.Cmp.{nat_eq_equiv}
use Rattle.std.specs.List.{list_any}
use Rattle.std.proofs.Common.{sym, ◌∙◌, subst, true≢false}
use Rattle.std.proofs.lemmas.Bool.{not-true}
use Rattle.std.proofs.lemmas.Map.Views.{exact_unsigned_eq}
use Rattle.shx_term.specs.declared.triple.Triple.{Triple}
use Rattle.shx_term.specs.IdOrder.{in_term_order}
use Rattle.shx_term.specs.Members.{SameMembers}
use Rattle.shx_term.specs.Triple.{same_triple}
use Rattle.shx_term.specs.inner.TripleLaws.{same_triple_equiv, same_triple_exact}
use Rattle.shx_term.specs.TripleOrder.{triple_cmp, in_triple_order}
use Rattle.shx_term.proofs.IdOrderLemmas.{in_term_order_same}
use Rattle.shx_term.proofs.InOrderLemmas.{in_order_same}
use Rattle.shx_term.proofs.MemberLemmas.{Contains-filter, Contains-from_filter}
use Rattle.shx_term.proofs.SetLemmas.{SameMembers-append, SameMembers-sym}
use Rattle.shx_term.proofs.TripleOrderLemmas.{triple_order}
use Rattle.graph_view.specs.declared.key.Key.{Key}
use Rattle.graph_view.specs.declared.key.Key.TheVariants.{Out, In}
use Rattle.graph_view.specs.Graph.{Graph, objects_of, subjects_of}
use Rattle.graph_view.specs.Key.{look}
use Rattle.graph_view.specs.Patched.{without, patched}
use Rattle.graph_view.proofs.KeyLemmas.{Contains-look}
use Rattle.graph_view.proofs.LookUpLemmas.{Contains-objects, Contains-subjects, Contains-ordered}
use Rattle.graph_view.proofs.PatchedLemmas.{Contains-without, gone_test, is_not, objects_of-patched}
use Rattle.graph_view.proofs.PatchedLemmas.{subjects_of-patched, triples-patched}

abbrev pub is_gone : List Triple → Triple → Bool
is_gone removed t = list_any (λ u. same_triple u t) removed

gone : (removed : List Triple) (t : Triple) → (is_gone removed t ≡ true) ↔ Contains removed t
gone = gone_test same_triple same_triple_equiv same_triple_exact

-- numbers, each of which makes a triple: to ask for each triple is to leave out the numbers of those removed
module _ (removed : List Triple) (whole : ℕ → Triple) (numbers : List ℕ)
    (of : (y : ℕ) → Contains numbers y ↔ Contains removed (whole y)) (found : List ℕ) where
  abbrev stays : ℕ → Bool
  stays y = not (is_gone removed (whole y))

  left_alike : SameMembers (filter stays found) (without nat_eq found numbers)
  left_alike = record {
    each = λ y.
        let held = Contains-without nat_eq nat_eq_equiv exact_unsigned_eq found numbers y in
        let test = gone removed (whole y) in (
          λ c.
              let kept = Contains-from_filter stays found y c in
              held.1 (
                kept.0,
                λ g. true≢false (sym (test.1 ((of y).0 g)) ∙ not-true (is_gone removed (whole y)) kept.1),
              ),
          λ c.
              let left = held.0 c in
              Contains-filter stays found y left.0
              (is_not (is_gone removed (whole y)) (λ h. left.1 ((of y).1 (test.0 h)))),
        );
  }

module _ (g : Graph) (added removed : List Triple) where
  pub objects_of-overlay : (s p : ℕ) (new : List ℕ) → SameMembers (map (λ t. t.o) (look added (Out s p))) new
      → in_term_order g.terms
      (filter (λ o. not (is_gone removed (record { s = s; p = p; o = o }))) (objects_of g s p) ++ new)
      ≡ objects_of (patched g added removed) s p
  objects_of-overlay s p new same =
      let found = objects_of g s p in
      let whole : ℕ → Triple = λ o. record { s = s; p = p; o = o } in
      let numbers = map (λ t. t.o) (look removed (Out s p)) in
      let news = map (λ t. t.o) (look added (Out s p)) in
      let left = filter (λ o. not (is_gone removed (whole o))) found in
      in_term_order_same g.terms (left ++ new) (without nat_eq found numbers ++ news)
      (SameMembers-append left new (without nat_eq found numbers) news
      (left_alike removed whole numbers (Contains-objects removed s p) found) (SameMembers-sym same)).each
      ∙ objects_of-patched g added removed s p

  pub subjects_of-overlay : (p o : ℕ) (new : List ℕ) → SameMembers (map (λ t. t.s) (look added (In p o))) new
      → in_term_order g.terms
      (filter (λ s. not (is_gone removed (record { s = s; p = p; o = o }))) (subjects_of g p o) ++ new)
      ≡ subjects_of (patched g added removed) p o
  subjects_of-overlay p o new same =
      let found = subjects_of g p o in
      let whole : ℕ → Triple = λ s. record { s = s; p = p; o = o } in
      let numbers = map (λ t. t.s) (look removed (In p o)) in
      let news = map (λ t. t.s) (look added (In p o)) in
      let left = filter (λ s. not (is_gone removed (whole s))) found in
      in_term_order_same g.terms (left ++ new) (without nat_eq found numbers ++ news)
      (SameMembers-append left new (without nat_eq found numbers) news
      (left_alike removed whole numbers (Contains-subjects removed p o) found) (SameMembers-sym same)).each
      ∙ subjects_of-patched g added removed p o

  -- of what touches a key, all that is gone touches it
  touching_left : (key : Key) → let found = in_triple_order g.terms (look g.triples key) in
      SameMembers (without same_triple found removed) (without same_triple found (look removed key))
  touching_left key =
      let found = in_triple_order g.terms (look g.triples key) in
      record {
        each = λ t.
            let all = Contains-without same_triple same_triple_equiv same_triple_exact found removed t in
            let some =
            Contains-without same_triple same_triple_equiv same_triple_exact found (look removed key) t in
            let of = Contains-look removed key t in (
              λ c. let left = all.0 c in some.1 (left.0, λ d. left.1 (of.0 d).0),
              λ c.
                  let left = some.0 c in
                  let here = (Contains-ordered g key t).0 left.0 in
                  all.1 (left.0, λ d. left.1 (of.1 (d, here.1))),
            );
      }

  pub triples-overlay : (key : Key) (new : List Triple) → SameMembers (look added key) new
      → in_triple_order g.terms
      (without same_triple (in_triple_order g.terms (look g.triples key)) removed ++ new)
      ≡ in_triple_order g.terms (look (patched g added removed).triples key)
  triples-overlay key new same =
      let found = in_triple_order g.terms (look g.triples key) in
      let left = without same_triple found removed in
      let part = without same_triple found (look removed key) in
      in_order_same (triple_cmp g.terms) (triple_order g.terms) (left ++ new) (part ++ look added key)
      (SameMembers-append left new part (look added key) (touching_left key) (SameMembers-sym same)).each
      ∙ triples-patched g added removed key

-- what is said of two lists is said of lists that are the same
pub at_both : (P : List Triple → List Triple → Type 0) {a b c d : List Triple} → c ≡ a → d ≡ b → P a b
    → P c d
at_both P {a} {b} {c} {d} e f p = subst (λ x. P x d) (sym e) (subst (P a) (sym f) p)
