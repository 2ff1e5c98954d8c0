use Rattle.std.specs.Prelude.{map}
use Rattle.std.proofs.Common.{subst}
use Rattle.shx_term.proofs.SetLemmas.{SameMembers-map}
use Rattle.path_eval.specs.inner.Laid.{label_way}
use Rattle.path_eval.specs.inner.Reached.{Joins}
use Rattle.path_eval.specs.inner.States.{state_at}
use Rattle.path_eval.specs.Way.{step_to}
use Rattle.path_eval.proofs.JoinLemmas.{Joins-elsewhere, Joins-here, Joins-same, notes-elsewhere}
use Rattle.path_eval.proofs.search.follow_edge.Goals as goal

pub returns-then-edge-state-clause-seen : goal.returns-then-edge-state-clause-seen
returns-then-edge-state-clause-seen g c =
    let edge = c.args.edge in
    let there = (label_way (g.V.GraphView.graph c.args.view.now) edge.label).to c.args.state.node in
    Joins-elsewhere edge.from c.args.state.place c.if-edge-state.true (map (state_at edge.to) there)
    c.args.seen.now

pub returns-then-edge-state-clause-reads : goal.returns-then-edge-state-clause-reads
returns-then-edge-state-clause-reads g c =
    let edge = c.args.edge in
    let read = (label_way (g.V.GraphView.graph c.args.view.now) edge.label).reads c.args.state.node in
    notes-elsewhere g.met.N.Notes.laws edge.from c.args.state.place c.if-edge-state.true read c.args.reads.now

pub returns-in_ok-add_all-in-Step-clause-seen : goal.returns-in_ok-add_all-in-Step-clause-seen
returns-in_ok-add_all-in-Step-clause-seen g c =
    let graph = g.V.GraphView.graph c.args.view.now in
    let edge = c.args.edge in
    let node = c.args.state.node in
    let seen = c.args.seen.now in
    let new = c.add_all.new.self in
    let found = c.in_ok-found-in-Step.found.items in
    let there = step_to graph c.in-Step.direction c.in-Step.p node in
    Joins-here edge.from c.args.state.place c.if-edge-state.false
    (map (state_at edge.to) ((label_way graph edge.label).to node)) seen new
    (rw c.in-Step.is
    (Joins-same (map (state_at edge.to) found) (map (state_at edge.to) there)
    (SameMembers-map (state_at edge.to) found there c.in_ok-found-in-Step.ensures.found)
    (subst (λ ids. Joins seen (map (state_at edge.to) ids) new) c.deref.ensures.value
    c.in_ok-add_all-in-Step.ensures)))
