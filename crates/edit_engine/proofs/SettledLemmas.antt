-- Which terms are settled: as terms are entered behind them, as these are cut off, and once all are.
use Rattle.std.specs.Prelude.{◌≡◌, ℕ, ◌≤◌, List, ◌++◌, length, take, Contains, IsSome}
use Rattle.std.specs.Prelude.{Result, Ok, Err, OnOk, OnErr}
use Rattle.std.proofs.Common.{drop, refl, sym, ap, ◌∙◌, subst, arith, length-append}
use Rattle.std.proofs.lemmas.List.{length-take, take-append-drop, take-append-le, take-take, take_all}
use Rattle.std.proofs.lemmas.List.Elements.{All-weaker}
use Rattle.shx_term.specs.declared.term.Term.{Term}
use Rattle.shx_term.specs.Pool.{with_term}
use Rattle.shx_term.specs.Vocabulary.{HasVocabulary, vocabulary}
use Rattle.shx_term.specs.ValidTriples.{IsNotWide}
use Rattle.shx_term.proofs.HeldLemmas.{with_term_grows}
use Rattle.shx_term.proofs.MemberLemmas.{All_of_each}
use Rattle.shx_term.proofs.SetLemmas.{SameMembers-itself}
use Rattle.shx_term.proofs.VocabularyLemmas.{length-vocabulary}
use Rattle.graph_view.specs.Graph.{Graph, AllKnown, IsKnownTriple}
use Rattle.graph_view.specs.Valid.{IsValidView}
use Rattle.graph_view.proofs.AgreeLemmas.{AgreeOn-same}
use Rattle.graph_view.proofs.ValidLemmas.{AllKnown-valid, IsValidView-cut, IsValidView-entered}
use Rattle.shape_eval.specs.Laws.{NestedDependOnReads, OwnReadsDependOnThemselves, ResultsDependOnReads}
use Rattle.shape_eval.specs.Laws.{TargetsDependOnReads}
use Rattle.shape_eval.specs.Plan.{IsKnownPlan, Planned}
use Rattle.read_records.specs.Recall.{kept_of}
use Rattle.edit_engine.specs.Applied.{HasMoreTerms}
use Rattle.edit_engine.specs.MayBeAsked.{MayBeAsked}
use Rattle.edit_engine.specs.declared.kept.Kept.{Kept}
use Rattle.edit_engine.specs.inner.Kept.{IsKeptOf, SameKept}
use Rattle.edit_engine.specs.inner.Settled.{IsSettled, of_first}
use Rattle.edit_engine.proofs.AlikeLemmas.{AreAlike}
use Rattle.edit_engine.proofs.ChangedLemmas.{IsKeptOf-unchanged}
use Rattle.edit_engine.proofs.EnterLemmas.{is_kept_again}
use Rattle.edit_engine.proofs.KeptPairLemmas.{some_answer}
use Rattle.edit_engine.proofs.PlanLemmas.{plan_known_more}
use Rattle.edit_engine.proofs.ShorterLemmas.{IsKeptOf-shorter}

-- what is so of an engine at any time
abbrev pub IsWholeWith : Planned → Graph → Kept → ℕ → Type 0
IsWholeWith plan g kept settled =
    MayBeAsked plan g × IsKeptOf plan.shapes plan.targeted g kept × IsSettled plan g kept settled

-- ---- once all terms are settled

vocabulary_within : (terms : List Term) → HasVocabulary terms → 62 ≤ length terms
vocabulary_within terms has =
    omega (arith, ap length has.begins, length-append vocabulary has.more, length-vocabulary)

-- those that a pool counts
pub IsSettled-all : (plan : Planned) (g : Graph) (kept : Kept) (terms : List Term) (n : ℕ)
    → MayBeAsked plan g → IsKeptOf plan.shapes plan.targeted g kept → terms ≡ g.terms
    → HasVocabulary terms → n ≡ length terms → IsSettled plan g kept n
IsSettled-all plan g kept terms n asked is same has count =
    let all : n ≡ length g.terms = count ∙ ap length same in
    record {
      vocabulary = omega (arith, vocabulary_within terms has, count);
      within = omega (arith, all);
      asked = subst (λ (ts : List Term). MayBeAsked plan (record { terms = ts; triples = g.triples }))
          (sym (take_all n g.terms (omega (arith, all)))) asked;
      remembered = λ p there.
          let a = some_answer (kept_of kept.recall p) there in
          omega (arith, (is.recall.recall.right.each p a.0 a.1).node, all);
    }

-- where the same is kept
pub IsSettled-same : (plan : Planned) (g : Graph) (old new : Kept) (n : ℕ) → SameKept old new
    → IsSettled plan g old n → IsSettled plan g new n
IsSettled-same plan g old new n same is = record {
  vocabulary = is.vocabulary;
  within = is.within;
  asked = is.asked;
  remembered = λ p there. is.remembered p (subst (λ o. IsSome o) (same.recall.each p) there);
}

pub is_whole_still : (plan : Planned) (g : Graph) (old new : Kept) (n : ℕ) → IsWholeWith plan g old n
    → SameKept old new → IsWholeWith plan g new n
is_whole_still plan g old new n whole same = (
  whole.0,
  IsKeptOf-unchanged plan.shapes plan.targeted g old new whole.1 same,
  IsSettled-same plan g old new n same whole.2,
)

-- ---- terms that are entered

IsSettled-more : {due : List Term} (plan : Planned) (g h : Graph) (kept : Kept) (n : ℕ)
    → HasMoreTerms due g h → IsSettled plan g kept n → IsSettled plan h kept n
IsSettled-more plan g h kept n more is =
    let front : take n h.terms ≡ take n g.terms =
    ap (take n) more.terms ∙ take-append-le n g.terms more.more is.within in
    record {
      vocabulary = is.vocabulary;
      within = omega (arith, is.within, ap length more.terms, length-append g.terms more.more);
      asked = subst (MayBeAsked plan)
          (λ i. record { terms = sym front i; triples = sym more.triples i }) is.asked;
      remembered = is.remembered;
    }

-- an engine is whole again once terms were entered
pub is_whole_again : {due : List Term} (plan : Planned) (g h : Graph) (kept : Kept) (n : ℕ)
    → IsWholeWith plan g kept n → HasMoreTerms due g h → IsValidView h
    → ResultsDependOnReads → TargetsDependOnReads → NestedDependOnReads → OwnReadsDependOnThemselves
    → IsWholeWith plan h kept n
is_whole_again plan g h kept n whole more valid results_law targets_law nested_law own_law =
    let again = is_kept_again plan g h kept (whole.0, whole.1) more valid results_law targets_law
    nested_law own_law in
    (again.0, again.1, IsSettled-more plan g h kept n more whole.2)

-- one term was
pub HasMoreTerms-entered : (g h : Graph) (t : Term) → h.terms ≡ with_term g.terms t
    → h.triples ≡ g.triples → HasMoreTerms (with_term_grows g.terms t).0 g h
HasMoreTerms-entered g h t terms triples =
    let grown = with_term_grows g.terms t in
    record {
      more = grown.0;
      among = All_of_each (Contains grown.0) grown.0 (λ u c. c);
      terms = terms ∙ grown.1;
      triples = triples;
    }

pub is_whole_entered : {E : Type 0} (plan : Planned) (g h : Graph) (kept : Kept) (n : ℕ) (t : Term)
    (result : Result ℕ E) → IsWholeWith plan g kept n → IsNotWide t
    → OnOk result (h.terms ≡ with_term g.terms t) → h.triples ≡ g.triples → OnErr result (h ≡ g)
    → ResultsDependOnReads → TargetsDependOnReads → NestedDependOnReads → OwnReadsDependOnThemselves
    → IsWholeWith plan h kept n
is_whole_entered plan g h kept n t (Ok id) whole narrow entered triples refused results_law targets_law
    nested_law own_law =
    let more = HasMoreTerms-entered g h t entered triples in
    let valid = IsValidView-entered g h t whole.0.valid narrow entered triples in
    is_whole_again plan g h kept n whole more valid results_law targets_law nested_law own_law
is_whole_entered plan g h kept n t (Err fault) whole narrow entered triples refused results_law targets_law
    nested_law own_law =
    subst (λ k. IsWholeWith plan k kept n) (sym refused) whole

-- ---- terms that are cut off

module _ (plan : Planned) (g : Graph) (kept : Kept) (settled len : ℕ)
    (whole : IsWholeWith plan g kept settled)
    (le : settled ≤ len) where
  longer : length (take settled g.terms) ≤ length (take len g.terms)
  longer = omega (arith, length-take settled g.terms, length-take len g.terms, le)

  first_and_more : take len g.terms ≡ take settled g.terms ++ drop settled (take len g.terms)
  first_and_more =
      sym (take-append-drop settled (take len g.terms))
      ∙ ap (λ (ts : List Term). ts ++ drop settled (take len g.terms)) (take-take settled len g.terms le)

  known_first : AllKnown (of_first len g)
  known_first =
      All-weaker (IsKnownTriple (take settled g.terms)) (IsKnownTriple (take len g.terms))
      (λ t known. record {
        s = omega (arith, known.s, longer);
        p = omega (arith, known.p, longer);
        o = omega (arith, known.o, longer);
      })
      g.triples (AllKnown-valid (of_first settled g) whole.2.asked.valid)

  asked_first : MayBeAsked plan (of_first len g)
  asked_first = record {
    valid = IsValidView-cut g (of_first len g) len whole.0.valid refl refl known_first;
    known = subst (λ ts. IsKnownPlan ts plan.shapes) (sym first_and_more)
        (plan_known_more (take settled g.terms) (drop settled (take len g.terms)) plan.shapes
        whole.2.asked.known);
    refers = whole.0.refers;
    within = whole.0.within;
    once = whole.0.once;
  }

  settled_first : IsSettled plan (of_first len g) kept settled
  settled_first = record {
    vocabulary = whole.2.vocabulary;
    within = omega (arith, whole.2.within, length-take len g.terms, le);
    asked = subst (λ (ts : List Term). MayBeAsked plan (record { terms = ts; triples = g.triples }))
        (sym (take-take settled len g.terms le)) whole.2.asked;
    remembered = whole.2.remembered;
  }

  module _ (results_law : ResultsDependOnReads) (targets_law : TargetsDependOnReads)
      (nested_law : NestedDependOnReads) (own_law : OwnReadsDependOnThemselves) where
    alike_first : AreAlike plan (of_first len g) g
    alike_first = record {
      before = asked_first;
      after = whole.0;
      agree = λ keys. record {
        more = drop len g.terms;
        terms = sym (take-append-drop len g.terms);
        triples = AgreeOn-same (SameMembers-itself g.triples);
      };
      results_law = results_law;
      targets_law = targets_law;
    }

    -- an engine is whole where terms behind the settled ones are cut off
    pub is_whole_cut : (h : Graph) → h.terms ≡ take len g.terms → h.triples ≡ g.triples
        → IsWholeWith plan h kept settled
    is_whole_cut h terms triples =
        let short = IsKeptOf-shorter plan (of_first len g) g alike_first plan.targeted nested_law own_law kept
        (λ p there.
        omega (arith, whole.2.remembered p there, settled_first.within)) whole.1 in
        let same : of_first len g ≡ h = λ i. record { terms = sym terms i; triples = sym triples i } in
        subst (λ k. IsWholeWith plan k kept settled) same (asked_first, short, settled_first)
