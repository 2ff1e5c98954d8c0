use Rattle.std.specs.Prelude.{◌≡◌, All, take}
use Rattle.shx_term.specs.Pool.{with_terms}
use Rattle.shx_term.specs.TripleTerms.{numbered_all, terms_of}
use Rattle.shx_term.specs.ValidTriples.{IsValidTermTriple}
use Rattle.graph_view.specs.Valid.{IsValidView}
use Rattle.edit_engine.specs.Applied.{HasMoreTerms}
use Rattle.edit_engine.proofs.stated.enter_all.Given as goal

abbrev pub invariant-loop-stated : goal.invariant-loop-stated
invariant-loop-stated g l =
    let front = take l.stated-index l.triples in
    let graph = g.E.GraphView.graph in
    record {
      terms : (graph l.graph).terms ≡ with_terms (graph l.fn.graph).terms (terms_of front);
      triples : l.found.items ≡ numbered_all (graph l.graph).terms front;
      more : HasMoreTerms (terms_of l.triples) (graph l.fn.graph) (graph l.graph);
      valid : IsValidView (graph l.fn.graph) → All IsValidTermTriple l.triples → IsValidView (graph l.graph);
      term_limit : g.E.GraphView.term_limit l.graph ≡ g.E.GraphView.term_limit l.fn.graph;
      triple_limit : g.E.GraphEdit.triple_limit l.graph ≡ g.E.GraphEdit.triple_limit l.fn.graph;
    }
