-- Edits as changes of several triples, and the way back.
use Rattle.std.specs.Prelude.{◌≡◌, true, false, List, [], ◌∷◌, Contains}
use Rattle.std.proofs.Common.{refl, sym, ◌∙◌, inl, inr, true≢false}
use Rattle.std.specs.List.{list_any}
use Rattle.shx_term.specs.Members.{SameMembers}
use Rattle.shx_term.specs.Triple.{same_triple}
use Rattle.shx_term.specs.inner.TripleLaws.{same_triple_equiv, same_triple_exact}
use Rattle.shx_term.specs.declared.triple.Triple.{Triple}
use Rattle.shx_term.proofs.MemberLemmas.{none_in_empty, Contains-one, each_of_All, All_of_each}
use Rattle.graph_view.specs.Agree.{Agree, IsAnyKey}
use Rattle.graph_view.specs.Graph.{Graph, IsKnownTriple, AllKnown, HasAlso, IsWithout}
use Rattle.graph_view.specs.Patched.{patched, IsPatch}
use Rattle.graph_view.proofs.AgreeLemmas.{AgreeOn-same, Agree-on_terms}
use Rattle.graph_view.proofs.PatchedLemmas.{Contains-patched, gone_test}

module _ (g h : Graph) (t : Triple) where
  pub SameMembers-inserted : HasAlso g.triples h.triples t
      → SameMembers (patched g (t ∷ []) []).triples h.triples
  SameMembers-inserted also = record {
    each = λ u.
        let held = Contains-patched g (t ∷ []) [] u in (
          λ c. (also.each u).1 (elim (held.0 c) [ inl d ↦ inl d.0 | inr d ↦ inr ((Contains-one t u).0 d) ]),
          λ c. held.1 (elim ((also.each u).0 c) [
            | inl d ↦ inl (d, none_in_empty u)
            | inr e ↦ inr ((Contains-one t u).1 e)
          ]),
        );
  }

  pub SameMembers-removed : IsWithout g.triples h.triples t
      → SameMembers (patched g [] (t ∷ [])).triples h.triples
  SameMembers-removed without = record {
    each = λ u.
        let held = Contains-patched g [] (t ∷ []) u in (
          λ c. elim (held.0 c) [
            | inl d ↦ (without.each u).1 (d.0, λ e. d.1 ((Contains-one t u).1 e))
            | inr d ↦ absurd (none_in_empty u d)
          ],
          λ c.
              let left = (without.each u).0 c in
              held.1 (inl (left.0, λ d. left.1 ((Contains-one t u).0 d))),
        );
  }

-- the same triples over the same terms agree on every key
pub Agree-same : (g h : Graph) → h.terms ≡ g.terms → SameMembers g.triples h.triples → Agree g h IsAnyKey
Agree-same g h terms same = Agree-on_terms terms (AgreeOn-same same)

module _ (g : Graph) (added removed : List Triple) (patch : IsPatch g added removed) where
  held_before : (t : Triple) → Contains removed t → Contains g.triples t
  held_before = each_of_All (Contains g.triples) removed patch.removed_held

  absent_before : (t : Triple) → Contains added t → Contains g.triples t → ⊥
  absent_before = each_of_All (λ u. Contains g.triples u → ⊥) added patch.added_absent

  back_from : (t : Triple) → Contains (patched (patched g added removed) removed added).triples t
      → Contains g.triples t
  back_from t c = elim ((Contains-patched (patched g added removed) removed added t).0 c) [
    | inl d ↦ elim ((Contains-patched g added removed t).0 d.0) [ inl e ↦ e.0 | inr e ↦ absurd (d.1 e) ]
    | inr d ↦ held_before t d
  ]

  back_to : (t : Triple) → Contains g.triples t
      → Contains (patched (patched g added removed) removed added).triples t
  back_to t c =
      let again = Contains-patched (patched g added removed) removed added t in
      let changed = Contains-patched g added removed t in
      let decided = gone_test same_triple same_triple_equiv same_triple_exact removed t in
      let test = list_any (λ u. same_triple u t) removed in
      elim test as
      (λ b. test ≡ b → Contains (patched (patched g added removed) removed added).triples t) [
        | true ↦ λ h. again.1 (inr (decided.0 h))
        | false ↦ λ h.
            let stays = changed.1 (inl (c, λ r. true≢false (sym (decided.1 r) ∙ h))) in
            again.1 (inl (stays, λ a. absent_before t a c))
      ] refl

  pub SameMembers-back :
      SameMembers (patched (patched g added removed) removed added).triples g.triples
  SameMembers-back = record { each = λ t. (back_from t, back_to t) }

  pub IsPatch-back : AllKnown g → IsPatch (patched g added removed) removed added
  IsPatch-back known = record {
    added_once = patch.removed_once;
    added_absent = All_of_each (λ t. Contains (patched g added removed).triples t → ⊥) removed (λ t r c.
        elim ((Contains-patched g added removed t).0 c) [
          | inl d ↦ d.1 r
          | inr d ↦ absent_before t d (held_before t r)
        ]);
    added_known = All_of_each (IsKnownTriple g.terms) removed
        (λ t r. each_of_All (IsKnownTriple g.terms) g.triples known t (held_before t r));
    removed_once = patch.added_once;
    removed_held = All_of_each (Contains (patched g added removed).triples) added
        (λ t a. (Contains-patched g added removed t).1 (inr a));
  }
