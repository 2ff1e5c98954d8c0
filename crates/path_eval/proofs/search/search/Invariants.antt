use Rattle.std.specs.Prelude.{◌-◌, ◌^◌}
use Rattle.path_eval.specs.inner.States.{next_keys, next_states}
use Rattle.path_eval.proofs.SearchLemmas.{Searched}
use Rattle.path_eval.proofs.search.search.Given as goal

abbrev pub invariant-loop-at : goal.invariant-loop-at
invariant-loop-at g l =
    let graph = g.V.GraphView.graph l.view in
    Searched g.N.Notes.notes (next_states graph l.edges) (next_keys graph l.edges) l.fn.start l.seen l.at
    l.initial.reads l.reads

-- no more states than numbers of 64 bits were seen
abbrev pub decreases-loop-at : goal.decreases-loop-at
decreases-loop-at g l = 2 ^ 64 - l.at
