-- What the shapes of a graph come to does not depend on the order of its triples.
use Rattle.std.specs.Prelude.{slice_index}
use Rattle.std.proofs.Common.{List, Option, Err, refl, sym, ap, ◌∙◌, subst}
use Rattle.shx_outside.specs.Outside.{FlaggedText, PatternState}
use Rattle.shx_term.specs.declared.limits.Limits.{Limits}
use Rattle.shx_term.specs.declared.term.Term.{Term}
use Rattle.shx_term.proofs.SetLemmas.{SameMembers-sym}
use Rattle.graph_view.specs.Graph.{Graph}
use Rattle.graph_view.specs.SameGraph.{SameGraph}
use Rattle.report_write.specs.declared.answer.Answer.{Answer}
use Rattle.shape_check.specs.declared.fault.CheckFault.{CheckFault}
use Rattle.shape_check.specs.declared.fault.CheckFault.TheVariants as check
use Rattle.shape_check.specs.Faults.{first, graph_faults, Tells as TellsCheck}
use Rattle.shape_compile.specs.declared.fault.CompileFault.{CompileFault}
use Rattle.shape_compile.specs.declared.fault.CompileFault.TheVariants as compile
use Rattle.shape_compile.specs.Answers.{HasPatternCause, IsAtPattern, IsBadPattern, IsPlanOf}
use Rattle.shape_compile.specs.Answers.{IsRefusedPattern, Tells, TellsRefused}
use Rattle.shape_decl.specs.Declarations.{Declaration, declarations}
use Rattle.shape_eval.specs.Plan.{IsPlan, Planned}
use Rattle.shape_refs.specs.Outcome.{IsLeastRecursive, IsLeastTooDeep}
use Rattle.shape_text.specs.Judging.{IsUnplanned, PlansAs, StopsAs}
use Rattle.shape_text.specs.inner.Obstacles.{check_refusal, compile_refusal}
use Rattle.shape_text.specs.Verdict.{BreaksNone, IsRefusedAt, IsVerdict, Obstacle, Verdict, plans, stops}
use Rattle.shape_text.specs.Verdict.Obstacle.{breaks, recurs, reaches_far, misspells, is_refused}
use Rattle.shape_text.proofs.SameDeclarationLemmas.{declarations_same, graph_faults_same}

-- ---- the same graph in another order

pub SameGraph-sym : (g h : Graph) → SameGraph g h → SameGraph h g
SameGraph-sym g h same = record {
  terms = sym same.terms;
  triples = SameMembers-sym same.triples;
  count = sym same.count;
}

module _ (limits : Limits) (g h : Graph) (same : SameGraph g h) where
  -- what is said of terms and declarations
  pub declared_moved : (P : List Term → List Declaration → Type 0) → P h.terms (declarations limits h)
      → P g.terms (declarations limits g)
  declared_moved P is =
      subst (λ terms. P terms (declarations limits g)) (sym same.terms)
      (subst (P h.terms) (sym (declarations_same limits g h same)) is)

  none_moved : BreaksNone limits h → BreaksNone limits g
  none_moved none = record { faultless = graph_faults_same limits g h same ∙ none.faultless }

  verdict_moved : (verdict : Verdict) → IsVerdict limits h verdict → IsVerdict limits g verdict
  verdict_moved (plans plan) is =
      (none_moved is.0, declared_moved (λ terms ds. IsPlanOf limits terms ds plan) is.1)
  verdict_moved (stops (breaks fault)) is = ap first (graph_faults_same limits g h same) ∙ is
  verdict_moved (stops (recurs shape)) is =
      let (none, (cycle, begins, least)) = is in
      (none_moved none, (cycle, begins, declared_moved (λ terms ds. IsLeastRecursive terms ds cycle) least))
  verdict_moved (stops (reaches_far shape)) is = (
    none_moved is.0,
    declared_moved (λ terms ds. IsLeastTooDeep limits.reference_depth terms ds shape) is.1,
  )
  verdict_moved (stops (misspells shape)) is =
      (none_moved is.0, declared_moved (λ terms ds. IsBadPattern limits terms ds shape) is.1)
  verdict_moved (stops (is_refused shape)) is =
      (none_moved is.0, declared_moved (λ terms ds. IsAtPattern limits terms ds shape) is.1)

  pub PlansAs-same : (before after : PatternState) (plan : Planned) → PlansAs limits h before after plan
      → PlansAs limits g before after plan
  PlansAs-same before after plan is = record {
    judged = verdict_moved (plans plan) is.judged;
    fits = subst (λ terms. IsPlan terms plan.shapes) (sym same.terms) is.fits;
    patterns = is.patterns;
  }

  refused_moved : (obstacle : Obstacle) (last : Option FlaggedText) → IsRefusedAt limits h obstacle last
      → IsRefusedAt limits g obstacle last
  refused_moved (breaks fault) last is = tt
  refused_moved (recurs shape) last is = tt
  refused_moved (reaches_far shape) last is = tt
  refused_moved (misspells shape) last is = tt
  refused_moved (is_refused shape) last is =
      declared_moved (λ terms ds. IsRefusedPattern terms ds shape last) is

  pub StopsAs-same : (before after : PatternState) (answer : Answer) → StopsAs limits h before after answer
      → StopsAs limits g before after answer
  StopsAs-same before after answer is = record {
    obstacle = is.obstacle;
    judged = verdict_moved (stops is.obstacle) is.judged;
    told = is.told;
    patterns = is.patterns;
    refused = refused_moved is.obstacle after.refused is.refused;
  }

-- ---- what stands in the way of a plan

-- a fault of a rule
pub unplanned_broken : (limits : Limits) (g : Graph) (patterns : PatternState) (fault : CheckFault)
    → TellsCheck (graph_faults limits g) fault → IsUnplanned limits g patterns patterns (check_refusal fault)
unplanned_broken limits g patterns (check.Shape fault) first =
    record { obstacle = breaks fault; judged = first; told = refl; patterns = refl; refused = tt }
unplanned_broken limits g patterns check.Memory first = refl

-- a fault of what the shapes are compiled to
pub unplanned_stopped : (T : Type 0) (limits : Limits) (g : Graph) (before after : PatternState)
    (fault : CompileFault) → BreaksNone limits g → Tells limits g.terms (declarations limits g) fault
    → HasPatternCause {T = T} before.faults after.faults (Err fault)
    → TellsRefused {T = T} g.terms (declarations limits g) before.refused after.refused (Err fault)
    → IsUnplanned limits g before after (compile_refusal fault)
unplanned_stopped T limits g before after (compile.Recursive cycle) none tells cause refused =
    record {
      obstacle = recurs (slice_index cycle.items 0);
      judged = (none, (cycle.items, refl, tells));
      told = refl;
      patterns = cause;
      refused = tt;
    }
unplanned_stopped T limits g before after (compile.ReferencesTooDeep shape) none tells cause refused =
    record {
      obstacle = reaches_far shape;
      judged = (none, tells);
      told = refl;
      patterns = cause;
      refused = tt;
    }
unplanned_stopped T limits g before after (compile.BadPattern shape) none tells cause refused =
    record {
      obstacle = misspells shape;
      judged = (none, tells);
      told = refl;
      patterns = cause;
      refused = tt;
    }
unplanned_stopped T limits g before after (compile.PatternRefused shape) none tells cause refused =
    record {
      obstacle = is_refused shape;
      judged = (none, tells);
      told = refl;
      patterns = cause;
      refused = refused;
    }
unplanned_stopped T limits g before after compile.Memory none tells cause refused = cause
