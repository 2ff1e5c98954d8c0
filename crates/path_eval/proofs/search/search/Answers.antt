use Rattle.std.specs.Prelude.{[], ◌∷◌, length}
use Rattle.std.proofs.Common.{refl, ap, subst, arith}
use Rattle.path_eval.specs.inner.Reached.{Joins}
use Rattle.path_eval.specs.inner.States.{IsReached, next_keys, next_states}
use Rattle.path_eval.proofs.SearchLemmas.{Searched-start, Searched-next, Searched-seen, Searched-reads}
use Rattle.path_eval.proofs.SearchLemmas.{HasThose-at}
use Rattle.path_eval.proofs.search.search.Goals as goal

pub loop-at-init : goal.loop-at-init
loop-at-init g c =
    let graph = g.V.GraphView.graph c.args.view.now in
    let edges = c.args.edges.now in
    let start = c.args.start in
    let seen = c.add.new.self in
    Searched-start g.met.N.Notes.laws (next_states graph edges) (next_keys graph edges) start seen
    c.args.reads.now
    (subst (λ ts. Joins ts (start ∷ []) seen) c.new-seen.ensures c.in_ok-add.ensures)

pub loop-at-preserved : goal.loop-at-preserved
loop-at-preserved g c =
    let graph = g.V.GraphView.graph c.args.view.now in
    let edges = c.args.edges.now in
    let slice = c.as_slice-in-loop-at.result.now in
    let all = c.edges_at-leading.ensures in
    let seen = c.loop-at.seen in
    let after = c.follow_edges.new.seen in
    let reads = c.follow_edges.new.reads in
    Searched-next g.met.N.Notes.laws (next_states graph edges) (next_keys graph edges) c.args.start seen
    c.loop-at.at c.args.reads.now c.loop-at.reads c.loop-at.invariant slice _ c.as_slice-in-loop-at.ensures
    (omega (
      arith,
      c.loop-at-test.true,
      ap length c.as_slice.ensures,
      ap length
          c.as_slice-in-loop-at.ensures,
    ))
    after reads
    (subst (λ ts. Joins seen ts after) (all.states graph _ refl) c.in_ok-follow_edges.ensures.seen)
    (subst (g.N.Notes.notes c.loop-at.reads reads) (all.keys graph _ refl) c.in_ok-follow_edges.ensures.reads)

pub returns-clause-nodes : goal.returns-clause-nodes
returns-clause-nodes g c =
    let graph = g.V.GraphView.graph c.args.view.now in
    let edges = c.args.edges.now in
    let start = c.args.start in
    HasThose-at (IsReached (next_states graph edges) start) c.loop-at.seen c.args.end
    c.in_ok-nodes.nodes.items
    c.in_ok-nodes.ensures
    (Searched-seen g.met.N.Notes.laws (next_states graph edges) (next_keys graph edges) start c.loop-at.seen
    c.loop-at.at c.args.reads.now c.loop-at.reads c.loop-at.invariant
    (omega (arith, c.loop-at-test.false, ap length c.as_slice.ensures)))

pub returns-clause-reads : goal.returns-clause-reads
returns-clause-reads g c =
    let graph = g.V.GraphView.graph c.args.view.now in
    let edges = c.args.edges.now in
    Searched-reads g.met.N.Notes.laws (next_states graph edges) (next_keys graph edges) c.args.start
    c.loop-at.seen c.loop-at.at c.args.reads.now c.loop-at.reads c.loop-at.invariant
    (omega (arith, c.loop-at-test.false, ap length c.as_slice.ensures))
