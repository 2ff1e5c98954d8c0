use Rattle.std.proofs.Common.{◌≡◌, ◌≤◌, false, length, sym, ap, subst, arith}
use Rattle.graph_view.specs.Graph.{Graph}
use Rattle.shape_eval.specs.Planned.{plan_of}
use Rattle.read_records.specs.Recall.{all_kept}
use Rattle.edit_engine.specs.EngineState.{EngineState}
use Rattle.edit_engine.specs.Nets.{IsNetOn, is_no_change, net_over}
use Rattle.edit_engine.proofs.AppliedLemmas.{Applies-changed, adds_some, effect, few_where_fits, removes_some}
use Rattle.edit_engine.proofs.AppliedLemmas.{room_where_fits}
use Rattle.edit_engine.proofs.EnterLemmas.{AreAlike-entered}
use Rattle.edit_engine.proofs.PatchLemmas.{at_hand, few_removed, length-after, patch_at_hand}
use Rattle.edit_engine.proofs.PatchLemmas.{patched_is}
use Rattle.edit_engine.proofs.RememberedLemmas.{recalled_nodes}
use Rattle.edit_engine.proofs.SettledLemmas.{is_whole_again}
use Rattle.edit_engine.proofs.SoundLemmas.{IsSound-valid}
use Rattle.graph_view.proofs.ValidLemmas.{valid_numbered}
use Rattle.edit_engine.proofs.engine.Engine.change.Goals.{else-is_empty-via-then-is_empty+else-is_empty-2}
use Rattle.edit_engine.proofs.engine.Engine.change.Goals.{else-is_empty-via-else-is_empty}
use Rattle.edit_engine.proofs.engine.Engine.change.Goals as goal

pub has_room_for-requires : goal.has_room_for-requires
has_room_for-requires g c =
    let graph = g.V.GraphView.graph c.self.inside.view in
    let net = net_over c.args.added.now c.args.removed.now in
    subst (λ (state : EngineState). length c.args.removed.now ≤ length state.graph.triples) c.self.view_is
    (few_removed graph net
    (IsSound-valid graph c.self.invariant.0.valid c.changes_rest_on.ensures.triples)
    (subst (λ (state : EngineState). IsNetOn state.graph net) (sym c.self.view_is) c.requires))

pub invariant_of-self : goal.invariant_of-self
invariant_of-self g c =
    is_whole_again (plan_of c.self.inside.plan) (g.V.GraphView.graph c.self.inside.view)
    (g.V.GraphView.graph c.enter_all.new.graph) c.self.inside.kept c.self.inside.settled c.self.invariant
    c.enter_all.ensures.more (c.enter_all.ensures.valid c.self.invariant.0.valid c.requires.added_valid)
    c.changes_rest_on.ensures.results c.changes_rest_on.ensures.targets c.changes_rest_on.ensures.nested
    c.reads_are_own_or_below.ensures.depend

pub invariant_of-self-2 : goal.invariant_of-self-2
invariant_of-self-2 g c =
    is_whole_again (plan_of c.self.inside.plan) (g.V.GraphView.graph c.self.inside.view)
    (g.V.GraphView.graph c.enter_all.new.graph) c.self.inside.kept c.self.inside.settled c.self.invariant
    c.enter_all.ensures.more (c.enter_all.ensures.valid c.self.invariant.0.valid c.requires.added_valid)
    c.changes_rest_on.ensures.results c.changes_rest_on.ensures.targets c.changes_rest_on.ensures.nested
    c.reads_are_own_or_below.ensures.depend

pub make-requires-clause-patch : goal.make-requires-clause-patch
make-requires-clause-patch g c =
    let graph = g.V.GraphView.graph c.self.inside.view in
    let net = net_over c.args.added.now c.args.removed.now in
    let at = at_hand {g = graph} {h = g.V.GraphView.graph c.enter_all.new.graph} net c.in_ok-new.ensures.terms
    c.enter_all.ensures.more c.deref.ensures.value c.in_ok-new.ensures.triples
    c.deref-2.ensures.value c.in_ok-gone.ensures c.pool-2.ensures.terms in
    patch_at_hand at
    (IsSound-valid graph c.self.invariant.0.valid c.changes_rest_on.ensures.triples)
    (subst (λ (state : EngineState). IsNetOn state.graph net) (sym c.self.view_is) c.requires)

pub make-requires-clause-valid : goal.make-requires-clause-valid
make-requires-clause-valid g c =
    let terms = (g.V.GraphView.graph c.enter_all.new.graph).terms in
    rw (c.deref.ensures.value, c.in_ok-new.ensures.triples)
    (valid_numbered terms c.args.added.now c.requires.added_valid)

pub make-requires-clause-room : goal.make-requires-clause-room
make-requires-clause-room g c =
    let graph = g.V.GraphView.graph c.self.inside.view in
    let net = net_over c.args.added.now c.args.removed.now in
    let few = few_where_fits _ c.args.self.now c.self.view_is net c.has_room_for.result
    c.has_room_for.ensures c.if-not-has_room_for.false in
    let long = length-after graph net
    (IsSound-valid graph c.self.invariant.0.valid c.changes_rest_on.ensures.triples)
    (subst (λ (state : EngineState). IsNetOn state.graph net) (sym c.self.view_is) c.requires) in
    let at = at_hand {g = graph} {h = g.V.GraphView.graph c.enter_all.new.graph} net c.in_ok-new.ensures.terms
    c.enter_all.ensures.more c.deref.ensures.value c.in_ok-new.ensures.triples
    c.deref-2.ensures.value c.in_ok-gone.ensures c.pool-2.ensures.terms in
    omega (
      arith,
      ap (λ (k : Graph). length k.triples) (patched_is at),
      long,
      few,
      c.enter_all.ensures.triple_limit,
    )

pub returns-clause-applied : goal.returns-clause-applied
returns-clause-applied g c =
    let old = g.V.GraphView.graph c.self.inside.view in
    let new = g.V.GraphView.graph c.enter_all.new.graph in
    let net = net_over c.args.added.now c.args.removed.now in
    let here = c.args.self.now in
    let state : EngineState = record {
      plan = plan_of c.self.inside.plan;
      graph = old;
      term_limit = g.V.GraphView.term_limit c.self.inside.view;
      triple_limit = g.V.GraphEdit.triple_limit c.self.inside.view;
      remembered = all_kept c.self.inside.kept.recall;
      settled = c.self.inside.settled;
    } in
    let law = c.changes_rest_on.ensures in
    let at = at_hand {g = old} {h = new} net c.in_ok-new.ensures.terms c.enter_all.ensures.more
    c.deref.ensures.value c.in_ok-new.ensures.triples
    c.deref-2.ensures.value c.in_ok-gone.ensures c.pool-2.ensures.terms in
    let alike = AreAlike-entered (plan_of c.self.inside.plan) old new c.self.invariant.0
    c.enter_all.ensures.more (c.enter_all.ensures.valid c.self.invariant.0.valid c.requires.added_valid)
    law.results law.targets in
    let changes : is_no_change net ≡ false = elim c.else-is_empty.branch [
      | else-is_empty-via-then-is_empty+else-is_empty-2 w ↦ removes_some net (sym w.if-is_empty-2.ensures)
      | else-is_empty-via-else-is_empty w ↦ adds_some net (sym w.if-is_empty.ensures)
    ] in
    let few = few_where_fits state here c.self.view_is net c.has_room_for.result c.has_room_for.ensures
    c.if-not-has_room_for.false in
    let room = room_where_fits old state.term_limit c.pool.result.now net c.in_ok-has_room_for_terms.field-0
    c.pool.ensures.terms c.pool.ensures.limit c.in_ok-has_room_for_terms.ensures c.if-not-branch.false in
    Applies-changed state here c.make.new.self c.self.view_is net c.in_ok-evaluated.evaluated
    c.args.nested.now c.make.new.nested at alike (effect state net changes few room)
    c.in_ok-evaluated.ensures.graph c.in_ok-evaluated.ensures.evaluated
    (recalled_nodes c.self.inside.kept.recall c.self.invariant.1.recall.recall)
    c.in_ok-evaluated.ensures.nested
