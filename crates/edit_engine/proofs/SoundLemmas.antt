-- Graphs of distinct triples over numbers with terms: a change that may be made leaves such a graph, and what
-- may follow in one may follow in one with the same triples and more terms.
use Rattle.std.specs.Prelude.{◌≡◌, ℕ, ◌+◌, ◌-◌, ◌≤◌, true, not, List, [], ◌∷◌, ◌++◌, length, Some}
use Rattle.std.specs.List.{IsDistinct, list_any}
use Rattle.std.specs.Cmp.{both_ways}
use Rattle.std.proofs.Common.{refl, sym, ap, ◌∙◌, subst, arith, append-nil, length-append}
use Rattle.std.proofs.lemmas.List.Elements.{All-weaker}
use Rattle.shx_term.specs.declared.term.Term.{Term}
use Rattle.shx_term.specs.declared.triple.Triple.{Triple}
use Rattle.shx_term.specs.declared.triple.TermTriple.{TermTriple}
use Rattle.shx_term.specs.Members.{SameMembers}
use Rattle.shx_term.specs.Triple.{same_triple}
use Rattle.shx_term.specs.TripleTerms.{numbered, numbered_all, terms_of}
use Rattle.shx_term.proofs.HeldLemmas.{with_terms_grow}
use Rattle.shx_term.proofs.MemberLemmas.{All_of_each, each_of_All}
use Rattle.shx_term.proofs.SetLemmas.{SameMembers-append, SameMembers-filter, SameMembers-is, SameMembers-sym}
use Rattle.edit_history.specs.declared.net.Net.{Net}
use Rattle.graph_view.specs.Graph.{AllKnown, Graph, IsKnownTriple}
use Rattle.graph_view.specs.Patched.{IsPatch, without}
use Rattle.graph_view.specs.SameGraph.{SameGraph}
use Rattle.graph_view.specs.Valid.{IsValidView}
use Rattle.graph_view.proofs.PatchedLemmas.{All-patched, IsDistinct-patched}
use Rattle.graph_view.proofs.SameGraphLemmas.{length-same}
use Rattle.graph_view.proofs.ValidLemmas.{AllKnown-valid}
use Rattle.edit_engine.specs.Course.{CanFollow, IsReady, IsWhole}
use Rattle.edit_engine.specs.Edits.{is_stated}
use Rattle.edit_engine.specs.Nets.{IsNetOn, added_to, graph_after, removed_from, terms_after}
use Rattle.edit_engine.proofs.HeldTripleLemmas.{AreAllHeld, AreAllHeld-before, AreAllHeld-entered}
use Rattle.edit_engine.proofs.HeldTripleLemmas.{AreAllHeld-more, numbered_all-more, with_terms-all}
use Rattle.edit_engine.proofs.NetPatchLemmas.{net_patch, stated_is, stated_test}
use Rattle.edit_engine.proofs.NetSameLemmas.{distinct_as, fits_alike}
use Rattle.edit_engine.proofs.NumberLemmas.{AreHeld-numbered, numbered_after, numbered_before}

pub record IsSound (g : Graph) : Type 0 where
  pub known : AllKnown g
  pub once : IsDistinct same_triple g.triples

pub IsSound-valid : (g : Graph) → IsValidView g → IsDistinct same_triple g.triples → IsSound g
IsSound-valid g valid once = record { known = AllKnown-valid g valid; once = once }

pub IsSound-whole : (most : ℕ) (g : Graph) → IsWhole most g → IsSound g
IsSound-whole most g whole = IsSound-valid g whole.valid whole.triples

pub IsSound-same : (g h : Graph) → SameGraph g h → IsSound g → IsSound h
IsSound-same g h same sound = record {
  known = All_of_each (IsKnownTriple h.terms) h.triples (λ t c.
      subst (λ terms. IsKnownTriple terms t) same.terms
      (each_of_All (IsKnownTriple g.terms) g.triples sound.known t ((same.triples.each t).1 c)));
  once = distinct_as h.triples g.triples (SameMembers-sym same.triples) (sym same.count) sound.once;
}

-- ---- the graph after a change

-- the graph over the terms that there are then
abbrev pub entered : Graph → Net → Graph
entered g net = record { terms = terms_after g net; triples = g.triples }

pub entered_patch : (g : Graph) (net : Net) → IsSound g → IsNetOn g net
    → IsPatch (entered g net) (added_to g net) (removed_from g net)
entered_patch g net sound fits = net_patch g (entered g net) net sound.known fits refl refl

known_more : (terms more : List Term) (t : Triple) → IsKnownTriple terms t → IsKnownTriple (terms ++ more) t
known_more terms more t known = record {
  s = omega (arith, known.s, length-append terms more);
  p = omega (arith, known.p, length-append terms more);
  o = omega (arith, known.o, length-append terms more);
}

pub entered_known : (g : Graph) (net : Net) → AllKnown g → AllKnown (entered g net)
entered_known g net known =
    let grown = with_terms_grow g.terms (terms_of net.added) in
    All-weaker (IsKnownTriple g.terms) (IsKnownTriple (terms_after g net))
    (λ t here. subst (λ terms. IsKnownTriple terms t) (sym grown.1) (known_more g.terms grown.0 t here))
    g.triples known

pub IsSound-after : (g : Graph) (net : Net) → IsSound g → IsNetOn g net → IsSound (graph_after g net)
IsSound-after g net sound fits =
    let patch = entered_patch g net sound fits in
    record {
      known = All-patched (entered g net) (added_to g net) (removed_from g net)
          (IsKnownTriple (terms_after g net)) (entered_known g net sound.known) patch.added_known;
      once = IsDistinct-patched (entered g net) (added_to g net) (removed_from g net) sound.once
          patch.added_once patch.added_absent;
    }

-- what is removed has its terms
pub removed_terms_held : (g : Graph) (net : Net) → IsNetOn g net → AreAllHeld g.terms net.removed
removed_terms_held g net fits = record {
  each = λ t c.
      let found = stated_is g t (each_of_All (λ v. is_stated g v ≡ true) net.removed fits.removed_held t c) in
      AreHeld-numbered g.terms t found.0 found.1;
}

-- ---- more terms

-- both are sound, and have the same triples over the same terms, and perhaps more
pub record Extends (g h : Graph) : Type 0 where
  pub more : List Term
  pub terms : h.terms ≡ g.terms ++ more
  pub triples : SameMembers g.triples h.triples
  pub old : IsSound g
  pub new : IsSound h

pub Extends-same : (g h : Graph) → SameGraph g h → IsSound g → Extends g h
Extends-same g h same sound = record {
  more = [];
  terms = sym same.terms ∙ sym (append-nil g.terms);
  triples = same.triples;
  old = sound;
  new = IsSound-same g h same sound;
}

module _ (g h : Graph) (extends : Extends g h) where
  abbrev more : List Term
  more = extends.more

  stated_over : (t : TermTriple) → is_stated g t ≡ is_stated h t
  stated_over t = both_ways (is_stated g t) (is_stated h t)
      (λ stated.
      let found = stated_is g t stated in
      let u = found.0 in
      let number : numbered h.terms t ≡ Some u =
      subst (λ terms. numbered terms t ≡ Some u) (sym extends.terms)
      (numbered_after g.terms more t u found.1) in
      (stated_test h t u number).1 ((extends.triples.each u).0 found.2))
      (λ stated.
      let found = stated_is h t stated in
      let u = found.0 in
      let held = (extends.triples.each u).1 found.2 in
      let known = each_of_All (IsKnownTriple g.terms) g.triples extends.old.known u held in
      let number : numbered g.terms t ≡ Some u =
      numbered_before g.terms more t u known
      (subst (λ terms. numbered terms t ≡ Some u) extends.terms found.1) in
      (stated_test g t u number).1 held)

  same_length : length g.triples ≡ length h.triples
  same_length = length-same g.triples h.triples extends.triples extends.old.once extends.new.once

  module _ (most : ℕ) (net : Net) (ready : IsReady most g net) where
    added_terms_held : AreAllHeld h.terms net.added
    added_terms_held =
        subst (λ terms. AreAllHeld terms net.added) (sym extends.terms)
        (AreAllHeld-more g.terms more net.added (AreAllHeld-before g.terms net.added ready.held))

    pub ready_over : IsReady most h net
    ready_over = record {
      fits = fits_alike g h net stated_over ready.fits;
      changes = ready.changes;
      held = with_terms-all h.terms net.added added_terms_held;
      few = subst (λ n. (n - length net.removed) + length net.added ≤ most) same_length ready.few;
    }

    terms_over : terms_after h net ≡ terms_after g net ++ more
    terms_over = ready_over.held ∙ extends.terms ∙ ap (λ terms. terms ++ more) (sym ready.held)

    added_over : added_to h net ≡ added_to g net
    added_over =
        ap (λ terms. numbered_all terms net.added) terms_over
        ∙ numbered_all-more (terms_after g net) more net.added (AreAllHeld-entered g.terms net.added)

    removed_over : removed_from h net ≡ removed_from g net
    removed_over =
        ap (λ terms. numbered_all terms net.removed) extends.terms
        ∙ numbered_all-more g.terms more net.removed (removed_terms_held g net ready.fits)

    pub Extends-after : Extends (graph_after g net) (graph_after h net)
    Extends-after =
        let added = added_to g net in
        let gone = removed_from g net in
        let left = without same_triple g.triples gone in
        let other = without same_triple h.triples gone in
        let kept : SameMembers left other =
        SameMembers-filter (λ t. not (list_any (λ u. same_triple u t) gone)) g.triples h.triples
        extends.triples in
        let others : other ++ added ≡ (graph_after h net).triples =
        λ i. without same_triple h.triples (sym removed_over i) ++ sym added_over i in
        record {
          more = more;
          terms = terms_over;
          triples = subst (SameMembers (left ++ added)) others
              (SameMembers-append left added other added kept (SameMembers-is added added refl));
          old = IsSound-after g net extends.old ready.fits;
          new = IsSound-after h net extends.new ready_over.fits;
        }

-- what may follow in the one graph may follow in the other
pub CanFollow-over : (most : ℕ) (g h : Graph) (nets : List Net) → Extends g h → CanFollow most g nets
    → CanFollow most h nets
CanFollow-over most g h [] extends follow = tt
CanFollow-over most g h (net ∷ nets) extends follow = (
  ready_over g h extends most net follow.0,
  CanFollow-over most (graph_after g net) (graph_after h net) nets
      (Extends-after g h extends most net follow.0) follow.1,
)

-- and the first of some changes may follow where all may
pub CanFollow-front : (most : ℕ) (g : Graph) (front back : List Net) → CanFollow most g (front ++ back)
    → CanFollow most g front
CanFollow-front most g [] back follow = tt
CanFollow-front most g (net ∷ front) back follow =
    (follow.0, CanFollow-front most (graph_after g net) front back follow.1)
