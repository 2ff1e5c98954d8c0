use Rattle.std.proofs.Common.{◌∙◌}
use Rattle.shx_term.specs.declared.vocabulary.TheConstants.{SH_SPARQL}
use Rattle.shape_decl.proofs.CountLemmas.{length-triples_with}
use Rattle.shape_decl.proofs.collecting.sparql_count.Goals as goal

pub returns : goal.returns
returns g c =
    let graph = g.V.GraphView.graph c.args.graph.now in
    rw (← length-triples_with graph SH_SPARQL c.len.ensures.distinct, ← c.in_ok-triples.ensures.triples)
    (c.len-2.ensures ∙ c.in_ok-triples.triples.ok.0)
