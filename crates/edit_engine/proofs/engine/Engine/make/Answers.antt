use Rattle.std.proofs.Common.{rules, refl, sym, subst, arith, ◌∙◌, ◌≡◌, ◌≤◌, ◌++◌, length, vec_len}
use Rattle.std.specs.Prelude.{All}
use Rattle.graph_view.specs.Patched.{patched}
use Rattle.graph_view.specs.SameGraph.{SameGraph}
use Rattle.graph_view.specs.Valid.{IsValidTriple}
use Rattle.shape_eval.specs.Planned.{plan_of}
use Rattle.read_records.specs.Recall.{KeepsRecalled, RecallState}
use Rattle.pair_results.proofs.StageLemmas.{on_any_Err}
use Rattle.edit_engine.specs.Touched.{touched_pairs}
use Rattle.edit_engine.specs.EngineState.{EngineState}
use Rattle.edit_engine.specs.declared.kept.Kept.{Kept}
use Rattle.edit_engine.specs.inner.Staged.{IsStaged, MayBeStaged}
use Rattle.edit_engine.proofs.ChangedLemmas.{IsKeptOf-made, MayBeAsked-exchanged}
use Rattle.edit_engine.proofs.ChangedLemmas.{MayBeStaged-changed, ReadsDepend, SameGraph-exchanged}
use Rattle.edit_engine.proofs.ChangedLemmas.{SameKept-beside, SameKept-dropped, length-evaluated}
use Rattle.edit_engine.proofs.RememberedLemmas.{brings_told, recalled_settled, told_same}
use Rattle.edit_engine.proofs.RenewLemmas.{AreKept-beside}
use Rattle.edit_engine.proofs.SettledLemmas.{IsSettled-all, is_whole_still}
use Rattle.edit_engine.proofs.engine.Engine.make.Goals as goal

pub renewal_of-found-requires-clause-countable : goal.renewal_of-found-requires-clause-countable
renewal_of-found-requires-clause-countable g c =
    let room = subst (λ (state : EngineState).
    length (patched state.graph c.args.added.now c.args.removed.now).triples ≤ state.triple_limit)
    (sym c.self.view_is) c.requires.room in
    let limit = c.changes_rest_on.ensures.limit in
    omega (arith, room, limit)

pub renewal_of-found-requires-clause-remembers : goal.renewal_of-found-requires-clause-remembers
renewal_of-found-requires-clause-remembers g c =
    rw (recalled_settled c.self.inside.kept.recall c.self.invariant.1.settled) c.self.invariant.1.recall

pub stage-requires-clause-known : goal.stage-requires-clause-known
stage-requires-clause-known g c =
    let fit = subst (λ (state : EngineState). All (IsValidTriple state.graph.terms) c.args.added.now)
    (sym c.self.view_is) c.requires.valid in
    let recall = c.renewal_of-found.new.recall in
    let kept : Kept = record c.self.inside.kept { recall = recall } in
    let own = c.reads_are_own_or_below.ensures in
    let laws : ReadsDepend = record {
      results = c.changes_rest_on.ensures.results;
      parts = own.parts;
      own = own.depend;
    } in
    subst (λ ts. MayBeStaged ts kept c.in-Ok.renewal) (sym c.pool.ensures.terms)
    (MayBeStaged-changed laws (plan_of c.self.inside.plan) (g.V.GraphView.graph c.self.inside.view)
    c.args.added.now c.args.removed.now c.in-Ok.renewal c.self.invariant.0 fit c.in-Ok.ensures.renewal kept
    (AreKept-beside recall c.self.invariant.1))

-- ---- where it is refused

pub invariant_of-self : goal.invariant_of-self
invariant_of-self g c =
    let same = SameKept-beside c.self.inside.kept c.drop_staged.new.self c.renewal_of-found.new.recall
    c.renewal_of-found.ensures.kept c.drop_staged.ensures in
    is_whole_still _ _ _ _ _ c.self.invariant same

pub returns-in_default-clause-refused : goal.returns-in_default-clause-refused
returns-in_default-clause-refused g c =
    let same = SameKept-beside c.self.inside.kept c.drop_staged.new.self c.renewal_of-found.new.recall
    c.renewal_of-found.ensures.kept c.drop_staged.ensures in
    told_same _ c.args.self.now c.self.view_is c.self.inside.kept.recall c.drop_staged.new.self.recall refl
    same.recall

pub invariant_of-self-in_err-stage : goal.invariant_of-self-in_err-stage
invariant_of-self-in_err-stage g c =
    let same = SameKept-beside c.self.inside.kept c.stage.new.self c.renewal_of-found.new.recall
    c.renewal_of-found.ensures.kept c.in_err-stage.ensures.refused in
    is_whole_still _ _ _ _ _ c.self.invariant same

pub returns-in_err-stage-clause-refused : goal.returns-in_err-stage-clause-refused
returns-in_err-stage-clause-refused g c =
    let same = SameKept-beside c.self.inside.kept c.stage.new.self c.renewal_of-found.new.recall
    c.renewal_of-found.ensures.kept c.in_err-stage.ensures.refused in
    on_any_Err _ _ (told_same _ c.args.self.now c.self.view_is c.self.inside.kept.recall
    c.stage.new.self.recall refl same.recall)

pub invariant_of-self-in-Err-Memory : goal.invariant_of-self-in-Err-Memory
invariant_of-self-in-Err-Memory g c =
    let recall = c.renewal_of-found.new.recall in
    let dropped = SameKept-dropped _ (record c.self.inside.kept { recall = recall }) c.stage.new.self
    c.drop_staged-in-Err-Memory.new.self c.in-Ok.renewal c.in_ok-stage.ensures.staged
    c.in_ok-stage.ensures.pairs c.in_ok-stage.ensures.recall c.drop_staged-in-Err-Memory.ensures in
    let same = SameKept-beside c.self.inside.kept c.drop_staged-in-Err-Memory.new.self recall
    c.renewal_of-found.ensures.kept dropped in
    rw c.in-Err-Memory.ensures.refused (is_whole_still _ _ _ _ _ c.self.invariant same)

pub returns-in-Err-Memory-clause-refused : goal.returns-in-Err-Memory-clause-refused
returns-in-Err-Memory-clause-refused g c =
    let recall = c.renewal_of-found.new.recall in
    let dropped = SameKept-dropped _ (record c.self.inside.kept { recall = recall }) c.stage.new.self
    c.drop_staged-in-Err-Memory.new.self c.in-Ok.renewal c.in_ok-stage.ensures.staged
    c.in_ok-stage.ensures.pairs c.in_ok-stage.ensures.recall c.drop_staged-in-Err-Memory.ensures in
    let same = SameKept-beside c.self.inside.kept c.drop_staged-in-Err-Memory.new.self recall
    c.renewal_of-found.ensures.kept dropped in
    let same_view = c.exchange.ensures in
    rw (c.in-Err-Memory.ensures.refused, same_view.term_limit, same_view.triple_limit)
    (told_same _ c.args.self.now c.self.view_is c.self.inside.kept.recall
    c.drop_staged-in-Err-Memory.new.self.recall refl same.recall)

-- ---- where it is made

pub invariant_of-self-in-Ok-exchange : goal.invariant_of-self-in-Ok-exchange
invariant_of-self-in-Ok-exchange g c =
    let plan = plan_of c.self.inside.plan in
    let before = g.V.GraphView.graph c.self.inside.view in
    let after = g.V.GraphView.graph c.exchange.new.self in
    let made = c.in-Ok-exchange.ensures in
    let commit = c.commit.ensures in
    let fit = subst (λ (state : EngineState). All (IsValidTriple state.graph.terms) c.args.added.now)
    (sym c.self.view_is) c.requires.valid in
    let law = c.changes_rest_on.ensures in
    let own = c.reads_are_own_or_below.ensures in
    let laws : ReadsDepend = record { results = law.results; parts = own.parts; own = own.depend } in
    let recall = c.renewal_of-found.new.recall in
    let kept : Kept = record c.self.inside.kept { recall = recall } in
    let staged = subst (λ ts. IsStaged ts kept c.stage.new.self c.in-Ok.renewal) c.pool.ensures.terms
    c.in_ok-stage.ensures.staged in
    let keeps = subst (λ (state : RecallState). KeepsRecalled state c.commit.new.self.recall)
    c.in_ok-stage.ensures.recall commit.recall in
    let asked = MayBeAsked-exchanged plan before after c.args.added.now c.args.removed.now
    c.self.invariant.0 fit made.terms made.exchanged in
    let held = IsKeptOf-made laws law.targets law.nested plan before after c.args.added.now
    c.args.removed.now c.in-Ok.renewal c.self.invariant.0 fit c.in-Ok.ensures.renewal made.terms
    made.exchanged law.terms kept c.stage.new.self c.commit.new.self
    (AreKept-beside recall c.self.invariant.1) staged commit.records commit.rows commit.places
    commit.pairs commit.idle recall c.in-Ok.ensures.recall.remembers keeps commit.settled in
    let pool = c.pool-in-Ok-exchange in (
      asked,
      held,
      IsSettled-all plan after c.commit.new.self pool.result.now.terms c.len-self-inside.result asked held
          pool.ensures.terms c.len-self-inside.ensures.vocabulary c.len-self-inside.ensures.count,
    )

pub returns-in-Ok-exchange-clause-graph : goal.returns-in-Ok-exchange-clause-graph
returns-in-Ok-exchange-clause-graph g c =
    let made = c.in-Ok-exchange.ensures in
    let after = g.V.GraphView.graph c.exchange.new.self in
    subst (λ (state : EngineState). SameGraph (patched state.graph c.args.added.now c.args.removed.now) after)
    c.self.view_is
    (SameGraph-exchanged (g.V.GraphView.graph c.self.inside.view) after c.args.added.now c.args.removed.now
    made.terms made.exchanged made.count)

pub returns-in-Ok-exchange-clause-evaluated : goal.returns-in-Ok-exchange-clause-evaluated
returns-in-Ok-exchange-clause-evaluated g c =
    let renewal = c.in-Ok.renewal in
    let before = g.V.GraphView.graph c.self.inside.view in
    let long : vec_len renewal.evaluated ≡ length renewal.evaluated.items = search rules in
    let count = length-evaluated (plan_of c.self.inside.plan) before
    (patched before c.args.added.now c.args.removed.now) (c.args.added.now ++ c.args.removed.now) renewal
    c.self.invariant.0 c.in-Ok.ensures.renewal in
    subst (λ (state : EngineState). c.len-evaluated.result ≡ length (touched_pairs state.plan state.graph
    (patched state.graph c.args.added.now c.args.removed.now) (c.args.added.now ++ c.args.removed.now)))
    c.self.view_is (c.len-evaluated.ensures ∙ long ∙ count)

pub returns-in-Ok-exchange-clause-nested : goal.returns-in-Ok-exchange-clause-nested
returns-in-Ok-exchange-clause-nested g c =
    let keeps = subst (λ (state : RecallState). KeepsRecalled state c.commit.new.self.recall)
    c.in_ok-stage.ensures.recall c.commit.ensures.recall in
    brings_told _ c.args.self.now c.self.view_is c.args.added.now c.args.removed.now
    c.self.inside.kept.recall c.renewal_of-found.new.recall c.commit.new.self.recall c.args.nested.now
    c.renewal_of-found.new.nested refl c.self.invariant.1.settled keeps c.in-Ok.ensures.recall.brings
