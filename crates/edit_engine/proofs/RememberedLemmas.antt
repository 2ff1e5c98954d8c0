-- What an engine tells of what is remembered: a finite map of what is kept.
use Rattle.std.specs.Prelude.{◌≡◌, ℕ, ◌<◌, List, [], ◌++◌, Option, IsSome, length}
use Rattle.std.proofs.Common.{refl, sym, ap, ◌∙◌, subst}
use Rattle.shx_term.specs.Members.{SameMembers}
use Rattle.shx_term.specs.declared.triple.Triple.{Triple}
use Rattle.graph_view.specs.Graph.{Graph}
use Rattle.graph_view.specs.Patched.{patched}
use Rattle.comp_core.specs.declared.pair.Pair.{Pair}
use Rattle.shape_eval.specs.declared.shape.PlanShape.{PlanShape}
use Rattle.shape_eval.specs.Plan.{Planned}
use Rattle.shape_eval.specs.Recalled.{IsRecallOf, IsRecalled}
use Rattle.shape_eval.specs.Report.{pairs}
use Rattle.read_records.specs.declared.reader.Reader.TheVariants.{OfPair}
use Rattle.read_records.specs.Recall.{Answer, KeepsRecalled, KeepsSame, RecallState, all_kept, kept_of}
use Rattle.read_records.specs.Recall.{recalled}
use Rattle.read_records.specs.Store.{changed_to, note_at}
use Rattle.read_records.proofs.RecallLemmas.{all_kept_gives, all_kept_same}
use Rattle.edit_engine.specs.EngineState.{EngineState}
use Rattle.edit_engine.specs.Remembered.{BringsFresh, answer_of}
use Rattle.edit_engine.specs.Swapped.{Adopts, SwapsFresh, swapped_pairs}
use Rattle.edit_engine.specs.inner.Recall.{RemembersNested}
use Rattle.edit_engine.proofs.KeptPairLemmas.{some_answer}

pub answers_kept : (state : RecallState) → answer_of (all_kept state) ≡ kept_of state
answers_kept state = λ i p. all_kept_gives state p i

-- the nodes of pairs that are told have terms
pub recalled_nodes : {shapes : List PlanShape} {g : Graph} (state : RecallState)
    → IsRecallOf SameMembers shapes g (kept_of state) → (p : Pair)
    → IsRecalled (answer_of (all_kept state)) p → p.node < length g.terms
recalled_nodes state is p there =
    let a = some_answer (kept_of state p) (subst (λ o. IsSome o) (all_kept_gives state p) there) in
    (is.right.each p a.0 a.1).node

-- where nothing is staged, what is kept is remembered
pub recalled_settled : (state : RecallState) → state.staged ≡ [] → recalled state ≡ kept_of state
recalled_settled state settled = λ i p. changed_to (note_at (settled i) (OfPair p)) (kept_of state p)

-- what is kept of the present graph is what is told
pub remembers_told : (old now : EngineState) → old ≡ now → (recall : RecallState)
    → old.remembered ≡ all_kept recall
    → RemembersNested old.plan.shapes old.graph (pairs old.plan old.graph) (kept_of recall)
    → RemembersNested now.plan.shapes now.graph (pairs now.plan now.graph) (answer_of now.remembered)
remembers_told old now same recall held remembers =
    subst (λ (state : EngineState). RemembersNested state.plan.shapes state.graph
    (pairs state.plan state.graph) (answer_of state.remembered)) same
    (subst (RemembersNested old.plan.shapes old.graph (pairs old.plan old.graph))
    (sym (ap answer_of held ∙ answers_kept recall)) remembers)

-- where the same is kept, the same is told
pub told_same : (old now : EngineState) → old ≡ now → (first last : RecallState)
    → old.remembered ≡ all_kept first → KeepsSame first last
    → record old { remembered = all_kept last } ≡ now
told_same old now same first last held keeps =
    (λ i. record old { remembered = sym (held ∙ all_kept_same first last keeps) i }) ∙ same

-- what is brought, once it is kept
pub brings_told : (old now : EngineState) → old ≡ now → (added removed : List Triple)
    (first mid last : RecallState) (m n : ℕ) → old.remembered ≡ all_kept first → first.staged ≡ []
    → KeepsRecalled mid last
    → BringsFresh old.plan old.graph (patched old.graph added removed) (added ++ removed) (recalled first)
    (recalled mid) m n
    → BringsFresh now.plan now.graph (patched now.graph added removed) (added ++ removed)
    (answer_of now.remembered) (answer_of (all_kept last)) m n
brings_told old now same added removed first mid last m n held settled keeps brings =
    let before : recalled first ≡ answer_of old.remembered =
    recalled_settled first settled ∙ sym (ap answer_of held ∙ answers_kept first) in
    let after : recalled mid ≡ answer_of (all_kept last) =
    (λ i p. sym (keeps.each p) i) ∙ sym (answers_kept last) in
    let at = λ (state : EngineState) (a b : Pair → Option Answer).
    BringsFresh state.plan state.graph (patched state.graph added removed) (added ++ removed) a b m n in
    subst (λ state. at state (answer_of state.remembered) (answer_of (all_kept last))) same
    (subst (λ a. at old a (answer_of (all_kept last))) before
    (subst (at old (recalled first)) after brings))

-- what another plan makes of an engine, once it is kept
pub adopts_told : (old now : EngineState) → old ≡ now → (first last : RecallState)
    → old.remembered ≡ all_kept first → (plan : Planned) (alikes : List (Option ℕ))
    (evaluated settled m n : ℕ) → evaluated ≡ length (swapped_pairs old.plan plan alikes old.graph)
    → SwapsFresh plan alikes old.graph (kept_of first) (kept_of last) m n
    → settled ≡ length old.graph.terms
    → Adopts now plan alikes evaluated
    (record old { plan = plan; remembered = all_kept last; settled = settled }) m n
adopts_told old now same first last held plan alikes evaluated settled m n count fresh all =
    let after : EngineState = record old { plan = plan; remembered = all_kept last; settled = settled } in
    subst (λ state. Adopts state plan alikes evaluated after m n) same (record {
      plan_is = refl;
      graph = refl;
      term_limit = refl;
      triple_limit = refl;
      settled = all;
      evaluated_are = count;
      nested =
          subst (λ a. SwapsFresh plan alikes old.graph a (answer_of (all_kept last)) m n)
          (sym (ap answer_of held ∙ answers_kept first))
          (subst (λ b. SwapsFresh plan alikes old.graph (kept_of first) b m n)
          (sym (answers_kept last)) fresh);
    })
