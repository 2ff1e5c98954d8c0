use Rattle.shx_term.proofs.NumberedLemmas.{numbered-in_turn}
use Rattle.edit_engine.proofs.MoreTermsLemmas.{more_one, more_three, more_two}
use Rattle.edit_engine.proofs.StatedLemmas.{room_for_two}
use Rattle.edit_engine.proofs.stated.enter_terms.Goals as goal

pub number-requires-2 : goal.number-requires-2
number-requires-2 g c =
    let graph = g.E.GraphView.graph in
    let t = c.args.stated.now in
    record {
      room = rw c.number.ensures.term_limit
          (room_for_two (graph c.args.graph.now).terms (graph c.number.new.graph).terms t.s t.p t.o
          (g.E.GraphView.term_limit c.args.graph.now) c.in_ok-s.ensures.terms c.requires.room);
    }

pub returns-clause-triple : goal.returns-clause-triple
returns-clause-triple g c =
    let graph = g.E.GraphView.graph in
    numbered-in_turn (graph c.number.new.graph).terms (graph c.number-2.new.graph).terms
    (graph c.number-3.new.graph).terms
    c.args.stated.now c.in_ok-s.s c.in_ok-p.p c.in_ok-o.o c.in_ok-p.ensures.terms c.in_ok-o.ensures.terms
    c.in_ok-s.ensures.number c.in_ok-p.ensures.number c.in_ok-o.ensures.number

pub returns-in_err-s-clause-more : goal.returns-in_err-s-clause-more
returns-in_err-s-clause-more g c =
    let t = c.args.stated.now in
    more_one t.s t.p t.o c.number.ensures.more

pub returns-in_err-p-clause-more : goal.returns-in_err-p-clause-more
returns-in_err-p-clause-more g c =
    let t = c.args.stated.now in
    more_two t.s t.p t.o c.number.ensures.more c.number-2.ensures.more

pub returns-in_err-o-clause-more : goal.returns-in_err-o-clause-more
returns-in_err-o-clause-more g c =
    let t = c.args.stated.now in
    more_three t.s t.p t.o c.number.ensures.more c.number-2.ensures.more c.number-3.ensures.more

pub returns-clause-more : goal.returns-clause-more
returns-clause-more g c =
    let t = c.args.stated.now in
    more_three t.s t.p t.o c.number.ensures.more c.number-2.ensures.more c.number-3.ensures.more
