-- Graphs that hold the same triples: the same edits come to the same change, the same comes of it, and they
-- are the same after it.
use Rattle.std.specs.Prelude.{◌≡◌, ℕ, ◌+◌, ◌-◌, true, false, not, nat_lt}
use Rattle.std.specs.Prelude.{List, [], ◌∷◌, ◌++◌, filter, fold, length}
use Rattle.std.specs.Prelude.{if◌then◌else◌, Option, Some, None}
use Rattle.std.specs.List.{IsDistinct, filter_map, list_any}
use Rattle.std.specs.Cmp.{both_ways}
use Rattle.std.proofs.Common.{refl, sym, ap, ◌∙◌, subst, length-append}
use Rattle.std.proofs.lemmas.List.Elements.{All-weaker}
use Rattle.std.proofs.lemmas.Map.Made.{IsDistinct-from_count, length-from_keys}
use Rattle.shx_term.specs.declared.edit.Edit.{Edit}
use Rattle.shx_term.specs.declared.edit.Edit.TheVariants.{Insert, Remove}
use Rattle.shx_term.specs.declared.triple.Triple.{Triple}
use Rattle.shx_term.specs.declared.triple.TermTriple.{TermTriple}
use Rattle.shx_term.specs.Edit.{stated_by}
use Rattle.shx_term.specs.Members.{SameMembers}
use Rattle.shx_term.specs.Pool.{with_terms}
use Rattle.shx_term.specs.Triple.{same_triple}
use Rattle.shx_term.specs.TripleTerms.{numbered, numbered_all, terms_of}
use Rattle.shx_term.specs.inner.TripleLaws.{same_triple_equiv, same_triple_exact}
use Rattle.shx_term.proofs.MemberLemmas.{Contains-test}
use Rattle.shx_term.proofs.SetLemmas.{SameMembers-append, SameMembers-filter, SameMembers-is}
use Rattle.edit_history.specs.declared.net.Net.{Net}
use Rattle.graph_view.specs.Graph.{Graph}
use Rattle.graph_view.specs.Patched.{without}
use Rattle.graph_view.specs.SameGraph.{SameGraph}
use Rattle.graph_view.proofs.SameGraphLemmas.{IsDistinct-filter, length-same}
use Rattle.edit_engine.specs.Edits.{inserted_by, is_of, is_stated, net_of, removed_by, stands_among, turns}
use Rattle.edit_engine.specs.Nets.{Effect, IsNetOn, NoEffect, PastTerms, PastTriples, added_to, changed_by}
use Rattle.edit_engine.specs.Nets.{graph_after, is_no_change, outcome, removed_from}

-- a test for a triple finds it in both lists or in neither
among_same : (triples others : List Triple) → SameMembers triples others → (t : Option Triple)
    → stands_among triples t ≡ stands_among others t
among_same triples others same None = refl
among_same triples others same (Some t) =
    let one = Contains-test same_triple same_triple_equiv same_triple_exact triples t in
    let other = Contains-test same_triple same_triple_equiv same_triple_exact others t in
    both_ways (list_any (same_triple t) triples) (list_any (same_triple t) others)
    (λ h. other.1 ((same.each t).0 (one.0 h)))
    (λ h. one.1 ((same.each t).1 (other.0 h)))

-- a list with the triples of one that is distinct, and as many, is distinct
pub distinct_as : (triples others : List Triple) → SameMembers triples others
    → length triples ≡ length others → IsDistinct same_triple others → IsDistinct same_triple triples
distinct_as triples others same count distinct =
    let counted = length-from_keys same_triple_equiv others triples distinct
    (λ t. sym (among_same triples others same (Some t))) in
    IsDistinct-from_count same_triple_equiv triples (sym counted ∙ sym count)

-- a change that may be made of one graph may be made of another that states the same
pub fits_alike : (g h : Graph) (net : Net) → ((t : TermTriple) → is_stated g t ≡ is_stated h t)
    → IsNetOn g net → IsNetOn h net
fits_alike g h net same fits = record {
  added_valid = fits.added_valid;
  added_absent = All-weaker (λ t. is_stated g t ≡ false) (λ t. is_stated h t ≡ false)
      (λ t absent. sym (same t) ∙ absent) net.added fits.added_absent;
  added_once = fits.added_once;
  removed_held = All-weaker (λ t. is_stated g t ≡ true) (λ t. is_stated h t ≡ true)
      (λ t held. sym (same t) ∙ held) net.removed fits.removed_held;
  removed_once = fits.removed_once;
}

module _ (g h : Graph) (same : SameGraph g h) where
  pub stated_same : (t : TermTriple) → is_stated g t ≡ is_stated h t
  stated_same t =
      among_same g.triples h.triples same.triples (numbered g.terms t)
      ∙ ap (λ terms. stands_among h.triples (numbered terms t)) same.terms

  turns_same : (edit : Edit) → turns g edit ≡ turns h edit
  turns_same (Insert t) = ap not (stated_same t)
  turns_same (Remove t) = stated_same t

  pub net_same : (edits : List Edit) → net_of g edits ≡ net_of h edits
  net_same edits =
      λ i.
      let effects = fold (λ (effects : List Edit) edit.
      if turns_same edit i then
      (if list_any (is_of (stated_by edit)) effects then effects else effects ++ edit ∷ [])
      else filter (λ e. not (is_of (stated_by edit) e)) effects) [] edits in
      record { added = filter_map inserted_by effects; removed = filter_map removed_by effects }

  module _ (net : Net) where
    pub fits_same : IsNetOn g net → IsNetOn h net
    fits_same = fits_alike g h net stated_same

    pub outcome_same : (most_triples most_terms : ℕ)
        → outcome most_triples most_terms g net ≡ outcome most_triples most_terms h net
    outcome_same most_triples most_terms =
        let count = same.count in
        let terms = same.terms in
        λ i.
        if is_no_change net then NoEffect
        else (if nat_lt most_triples ((count i - length net.removed) + length net.added) then PastTriples
        else (if nat_lt most_terms (length (with_terms (terms i) (terms_of net.added))) then PastTerms
        else Effect))

    added_same : added_to g net ≡ added_to h net
    added_same =
        ap (λ terms. numbered_all (with_terms terms (terms_of net.added)) net.added) same.terms

    removed_same : removed_from g net ≡ removed_from h net
    removed_same = ap (λ terms. numbered_all terms net.removed) same.terms

    pub changed_same : changed_by g net ≡ changed_by h net
    changed_same = λ i. added_same i ++ removed_same i

    pub SameGraph-after : IsDistinct same_triple h.triples → SameGraph (graph_after g net) (graph_after h net)
    SameGraph-after distinct =
        let gone = removed_from g net in
        let stays = λ (t : Triple). not (list_any (λ u. same_triple u t) gone) in
        let left = without same_triple g.triples gone in
        let other = without same_triple h.triples gone in
        let kept : SameMembers left other = SameMembers-filter stays g.triples h.triples same.triples in
        let first = distinct_as g.triples h.triples same.triples same.count distinct in
        let count = length-same left other kept (IsDistinct-filter stays same_triple g.triples first)
        (IsDistinct-filter stays same_triple h.triples distinct) in
        let others : other ++ added_to g net ≡ (graph_after h net).triples =
        λ i. without same_triple h.triples (removed_same i) ++ added_same i in
        record {
          terms = ap (λ terms. with_terms terms (terms_of net.added)) same.terms;
          triples = subst (SameMembers (left ++ added_to g net)) others
              (SameMembers-append left (added_to g net) other (added_to g net) kept
              (SameMembers-is (added_to g net) (added_to g net) refl));
          count =
              length-append left (added_to g net)
              ∙ ap (λ n. n + length (added_to g net)) count
              ∙ sym (length-append other (added_to g net))
              ∙ ap length others;
        }
