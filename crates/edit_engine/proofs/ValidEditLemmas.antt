-- What may be asked of a graph may be asked of it after a change that may be made.
use Rattle.std.specs.Prelude.{List, [], ◌∷◌, All, ◌≡◌}
use Rattle.std.proofs.Common.{refl, sym, subst}
use Rattle.std.proofs.lemmas.List.Elements.{All-cons, All-head, All-nil, All-tail}
use Rattle.shx_term.specs.declared.term.Term.{Term}
use Rattle.shx_term.specs.declared.triple.TermTriple.{TermTriple}
use Rattle.shx_term.specs.Members.{SameMembers}
use Rattle.shx_term.specs.Pool.{with_term, with_terms}
use Rattle.shx_term.specs.TripleTerms.{terms_of}
use Rattle.shx_term.specs.ValidTriples.{IsNotWide, IsValidTermTriple}
use Rattle.shx_term.proofs.HeldLemmas.{with_terms_grow}
use Rattle.shx_term.proofs.MemberLemmas.{All_of_each, each_of_All}
use Rattle.edit_history.specs.declared.net.Net.{Net}
use Rattle.graph_view.specs.Graph.{Graph}
use Rattle.graph_view.specs.Valid.{IsValidTriple, IsValidView}
use Rattle.graph_view.proofs.PatchedLemmas.{IsValidView-patched}
use Rattle.graph_view.proofs.ValidLemmas.{IsValidView-entered, narrow_predicate, narrow_subject}
use Rattle.graph_view.proofs.ValidLemmas.{valid_numbered}
use Rattle.shape_eval.specs.declared.shape.PlanShape.{PlanShape}
use Rattle.shape_eval.specs.Plan.{IsKnownPlan, Planned}
use Rattle.edit_engine.specs.MayBeAsked.{MayBeAsked}
use Rattle.edit_engine.specs.Nets.{IsNetOn, added_to, graph_after, removed_from, terms_after}
use Rattle.edit_engine.proofs.PlanLemmas.{plan_known_more}

-- those of valid triples
pub narrow_terms : (ts : List TermTriple) → All IsValidTermTriple ts → All IsNotWide (terms_of ts)
narrow_terms [] all = All-nil IsNotWide
narrow_terms (t ∷ ts) all =
    let valid = All-head IsValidTermTriple t ts all in
    let rest = narrow_terms ts (All-tail IsValidTermTriple t ts all) in
    All-cons IsNotWide t.s (t.p ∷ (t.o ∷ terms_of ts)) (narrow_subject t.s valid.subject)
    (All-cons IsNotWide t.p (t.o ∷ terms_of ts) (narrow_predicate t.p valid.predicate)
    (All-cons IsNotWide t.o (terms_of ts) valid.object rest))

-- ---- valid views

-- a view stays valid where terms are entered that are no wide literals
pub valid_entered : (g : Graph) (ts : List Term) → IsValidView g → All IsNotWide ts
    → IsValidView (record g { terms = with_terms g.terms ts })
valid_entered g [] valid narrow = valid
valid_entered g (t ∷ ts) valid narrow =
    let one : Graph = record g { terms = with_term g.terms t } in
    valid_entered one ts (IsValidView-entered g one t valid (All-head IsNotWide t ts narrow) refl refl)
    (All-tail IsNotWide t ts narrow)

-- and where a change that may be made is made
pub valid_after : (g : Graph) (net : Net) → IsValidView g → IsNetOn g net → IsValidView (graph_after g net)
valid_after g net valid fits =
    let terms = terms_after g net in
    let entered = valid_entered g (terms_of net.added) valid (narrow_terms net.added fits.added_valid) in
    IsValidView-patched (record { terms = terms; triples = g.triples }) (added_to g net) (removed_from g net)
    entered (valid_numbered terms net.added fits.added_valid)

-- ... and where the same triples stand in another order
pub valid_members : (g h : Graph) → g.terms ≡ h.terms → SameMembers g.triples h.triples → IsValidView g
    → IsValidView h
valid_members g h terms same valid = record {
  triples = All_of_each (IsValidTriple h.terms) h.triples (λ t c.
      subst (λ ts. IsValidTriple ts t) terms
      (each_of_All (IsValidTriple g.terms) g.triples valid.triples t ((same.each t).1 c)));
  terms = subst (All IsNotWide) terms valid.terms;
}

-- ---- plans

known_after : (g : Graph) (net : Net) (shapes : List PlanShape) → IsKnownPlan g.terms shapes
    → IsKnownPlan (graph_after g net).terms shapes
known_after g net shapes known =
    let grown = with_terms_grow g.terms (terms_of net.added) in
    subst (λ ts. IsKnownPlan ts shapes) (sym grown.1) (plan_known_more g.terms grown.0 shapes known)

pub MayBeAsked-after : (plan : Planned) (g : Graph) (net : Net) → MayBeAsked plan g → IsNetOn g net
    → MayBeAsked plan (graph_after g net)
MayBeAsked-after plan g net asked fits = record {
  valid = valid_after g net asked.valid fits;
  known = known_after g net plan.shapes asked.known;
  refers = asked.refers;
  within = asked.within;
  once = asked.once;
}
