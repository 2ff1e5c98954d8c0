use Rattle.std.proofs.Common.{sym, ◌∙◌, subst}
use Rattle.shx_term.specs.ValidTriples.{IsValidTermTriple}
use Rattle.edit_engine.proofs.MoreTermsLemmas.{more_next}
use Rattle.edit_engine.proofs.StatedLemmas.{entered_next, entered_numbered, room_for_next}
use Rattle.edit_engine.proofs.stated.enter_all.Goals as goal

pub enter_terms-requires : goal.enter_terms-requires
enter_terms-requires g c =
    let graph = g.E.GraphView.graph in
    let l = c.loop-stated in
    record {
      room = rw l.invariant.term_limit
          (room_for_next (graph c.args.graph.now).terms c.args.triples.now l.stated-index c.stated-item.result
          c.loop-stated-test.true c.stated-item.is (graph l.graph).terms l.invariant.terms
          (g.E.GraphView.term_limit c.args.graph.now) c.requires.room);
    }

pub returns-in_err-triple-clause-more : goal.returns-in_err-triple-clause-more
returns-in_err-triple-clause-more g c =
    more_next c.args.triples.now c.loop-stated.stated-index c.stated-item.result c.loop-stated-test.true
    c.stated-item.is c.loop-stated.invariant.more c.enter_terms.ensures.more

pub returns-in_err-push-clause-more : goal.returns-in_err-push-clause-more
returns-in_err-push-clause-more g c =
    more_next c.args.triples.now c.loop-stated.stated-index c.stated-item.result c.loop-stated-test.true
    c.stated-item.is c.loop-stated.invariant.more c.enter_terms.ensures.more

pub loop-stated-preserved : goal.loop-stated-preserved
loop-stated-preserved g c =
    let graph = g.E.GraphView.graph in
    let l = c.loop-stated in
    let xs = c.args.triples.now in
    let x = c.stated-item.result in
    let i = l.stated-index in
    let inside = c.loop-stated-test.true in
    let at = c.stated-item.is in
    let terms = (graph c.args.graph.now).terms in
    let old = (graph l.graph).terms in
    let new = (graph c.enter_terms.new.graph).terms in
    let done = c.in_ok-triple.ensures in
    record {
      terms = entered_next terms xs i x inside at old new l.invariant.terms done.terms;
      triples = entered_numbered terms xs i x inside at old new c.in_ok-triple.triple l.invariant.terms
          done.terms done.triple l.found.items c.push.new.self.items l.invariant.triples
          c.in_ok-push.ensures.items;
      more = more_next xs i x inside at l.invariant.more c.enter_terms.ensures.more;
      valid = λ valid all. c.enter_terms.ensures.valid (l.invariant.valid valid all)
          (subst IsValidTermTriple (sym at) (all i x inside));
      term_limit = c.enter_terms.ensures.term_limit ∙ l.invariant.term_limit;
      triple_limit = c.enter_terms.ensures.triple_limit ∙ l.invariant.triple_limit;
    }
