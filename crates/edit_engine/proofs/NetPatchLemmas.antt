-- What a change adds and what it removes, over the terms that there are then, is a patch.
use Rattle.std.specs.Prelude.{◌≡◌, true, false, Contains, List, ◌↔◌, Option, Some, None}
use Rattle.std.specs.List.{IsDistinct}
use Rattle.std.proofs.Common.{refl, sym, ap, ◌∙◌, subst, true≢false}
use Rattle.shx_term.specs.declared.term.Term.{Term}
use Rattle.shx_term.specs.declared.triple.Triple.{Triple}
use Rattle.shx_term.specs.declared.triple.TermTriple.{TermTriple}
use Rattle.shx_term.specs.Triple.{same_triple}
use Rattle.shx_term.specs.TripleTerms.{numbered, numbered_all, same_term_triple, terms_of}
use Rattle.shx_term.specs.inner.TripleLaws.{same_triple_equiv, same_triple_exact, same_term_triple_equiv}
use Rattle.shx_term.proofs.HeldLemmas.{with_terms_grow}
use Rattle.shx_term.proofs.MemberLemmas.{All_of_each, Contains-test, each_of_All}
use Rattle.edit_history.specs.declared.net.Net.{Net}
use Rattle.graph_view.specs.Graph.{AllKnown, Graph, IsKnownTriple}
use Rattle.graph_view.specs.Patched.{IsPatch}
use Rattle.edit_engine.specs.Edits.{is_stated, stands_among}
use Rattle.edit_engine.specs.Nets.{IsNetOn, added_to, removed_from, terms_after}
use Rattle.edit_engine.proofs.ImageLemmas.{Contains-filter_map, Contains-from_filter_map}
use Rattle.edit_engine.proofs.ImageLemmas.{IsDistinct-filter_map}
use Rattle.edit_engine.proofs.NumberLemmas.{IsKnownTriple-numbers, numbered_before, numbers_from, one_triple}

-- ---- triples over numbers

module _ (terms : List Term) (triples : List TermTriple) where
  pub Contains-numbered_all : (t : TermTriple) (u : Triple) → Contains triples t → numbered terms t ≡ Some u
      → Contains (numbered_all terms triples) u
  Contains-numbered_all t u c e = Contains-filter_map (numbered terms) triples t u c e

  pub Contains-from_numbered_all : (u : Triple) → Contains (numbered_all terms triples) u
      → (t : TermTriple) × Contains triples t × (numbered terms t ≡ Some u)
  Contains-from_numbered_all u c = Contains-from_filter_map (numbered terms) triples u c

  pub IsDistinct-numbered_all : IsDistinct same_term_triple triples
      → IsDistinct same_triple (numbered_all terms triples)
  IsDistinct-numbered_all distinct =
      IsDistinct-filter_map (numbered terms) same_term_triple same_term_triple_equiv same_triple
      same_triple_exact (one_triple terms) triples distinct

-- a graph states what it holds
pub stated_test : (g : Graph) (t : TermTriple) (u : Triple) → numbered g.terms t ≡ Some u
    → (is_stated g t ≡ true) ↔ Contains g.triples u
stated_test g t u e =
    let test = Contains-test same_triple same_triple_equiv same_triple_exact g.triples u in (
      λ h. test.0 (sym (ap (stands_among g.triples) e) ∙ h),
      λ c. ap (stands_among g.triples) e ∙ test.1 c,
    )

pub stated_is : (g : Graph) (t : TermTriple) → is_stated g t ≡ true
    → (u : Triple) × (numbered g.terms t ≡ Some u) × Contains g.triples u
stated_is g t h = by (numbered g.terms t) refl
  where
    by : (o : Option Triple) → numbered g.terms t ≡ o
        → (u : Triple) × (numbered g.terms t ≡ Some u) × Contains g.triples u
    by None e = absurd (true≢false (sym h ∙ ap (stands_among g.triples) e))
    by (Some u) e = (u, e, (stated_test g t u e).0 h)

-- ---- changes

pub net_patch : (g h : Graph) (net : Net) → AllKnown g → IsNetOn g net → h.terms ≡ terms_after g net
    → h.triples ≡ g.triples → IsPatch h (added_to g net) (removed_from g net)
net_patch g h net known fits terms triples = record {
  added_once = IsDistinct-numbered_all (terms_after g net) net.added fits.added_once;
  added_absent = All_of_each (λ u. Contains h.triples u → ⊥) (added_to g net) (λ u c held.
      let from = Contains-from_numbered_all (terms_after g net) net.added u c in
      let t = from.0 in
      let before = subst (λ us. Contains us u) triples held in
      let here = each_of_All (IsKnownTriple g.terms) g.triples known u before in
      let grown = with_terms_grow g.terms (terms_of net.added) in
      let old : numbered g.terms t ≡ Some u =
      numbered_before g.terms grown.0 t u here
      (subst (λ xs. numbered xs t ≡ Some u) grown.1 from.2) in
      let absent = each_of_All (λ v. is_stated g v ≡ false) net.added fits.added_absent t from.1 in
      true≢false (sym ((stated_test g t u old).1 before) ∙ absent));
  added_known = All_of_each (IsKnownTriple h.terms) (added_to g net) (λ u c.
      let now = terms_after g net in
      let from = Contains-from_numbered_all now net.added u c in
      subst (λ xs. IsKnownTriple xs u) (sym terms)
      (IsKnownTriple-numbers now from.0 u (numbers_from now from.0 u from.2)));
  removed_once = IsDistinct-numbered_all g.terms net.removed fits.removed_once;
  removed_held = All_of_each (Contains h.triples) (removed_from g net) (λ u c.
      let from = Contains-from_numbered_all g.terms net.removed u c in
      let held = each_of_All (λ v. is_stated g v ≡ true) net.removed fits.removed_held from.0 from.1 in
      subst (λ us. Contains us u) (sym triples) ((stated_test g from.0 u from.2).0 held));
}
