use Rattle.std.proofs.Common.{ap, arith, refl, ◌∙◌}
use Rattle.std.specs.Prelude.{length}
use Rattle.std.proofs.lemmas.Result.{err_from_is_err_and}
use Rattle.shx_term.specs.Pool.{with_terms}
use Rattle.shx_term.specs.TripleTerms.{numbered_all, terms_of}
use Rattle.graph_view.specs.Graph.{Graph}
use Rattle.script_run.proofs.EnteredLemmas.{Grows-itself, Grows-then, full_for_all, next_numbers}
use Rattle.script_run.proofs.EnteredLemmas.{next_terms, none_left}
use Rattle.script_run.proofs.loading.enter_triples.Goals as goal

pub loop-t-init : goal.loop-t-init
loop-t-init c = record {
  grows = Grows-itself c.args.engine.now;
  terms = refl;
  numbers = c.in_ok-entered.ensures.items;
}

pub enter_triple-requires : goal.enter_triple-requires
enter_triple-requires c = record {
  narrow = c.requires.valid.terms;
  valid = c.requires.valid.triples c.loop-t.t-index _ c.loop-t-test.true;
}

pub loop-t-preserved : goal.loop-t-preserved
loop-t-preserved c =
    let l = c.loop-t in
    let us = c.args.triples.now in
    let terms = c.args.pool.now.terms in
    let all = c.requires.valid.triples in
    let old = c.args.engine.now.graph.terms in
    let here = l.engine.graph.terms in
    let new = c.enter_triple.new.engine.graph.terms in
    let done = c.in_ok-triple.ensures in
    record {
      grows = Grows-then l.invariant.grows c.enter_triple.ensures.grows;
      terms = next_terms terms us all l.t-index _ c.loop-t-test.true old here l.invariant.terms new
          done.terms;
      numbers = next_numbers terms us all l.t-index _ c.loop-t-test.true old here l.invariant.terms new
          c.in_ok-triple.triple done.terms done.number l.entered.items c.push.new.self.items
          l.invariant.numbers c.in_ok-push.ensures.items;
    }

pub returns-in_err-triple-clause-grows : goal.returns-in_err-triple-clause-grows
returns-in_err-triple-clause-grows c = Grows-then c.loop-t.invariant.grows c.enter_triple.ensures.grows

pub returns-in_err-triple-clause-full : goal.returns-in_err-triple-clause-full
returns-in_err-triple-clause-full c =
    let exit = err_from_is_err_and c.from_residual-in_err-triple.result
    c.from_residual-in_err-triple.ensures.1 in
    let l = c.loop-t in
    let old = c.args.engine.now in
    let terms = c.args.pool.now.terms in
    let us = c.args.triples.now in
    rw (exit.1, exit.2) (λ full.
    let more = full_for_all terms us c.requires.valid.triples l.t-index _ c.loop-t-test.true old.graph.terms
    l.engine.graph.terms l.invariant.terms l.engine.term_limit _ c.in_err-triple.ensures.full full in
    omega (arith, more, l.invariant.grows.plan.term_limit))

pub returns-in_err-push-clause-grows : goal.returns-in_err-push-clause-grows
returns-in_err-push-clause-grows c = Grows-then c.loop-t.invariant.grows c.enter_triple.ensures.grows

pub returns-in_err-entered-clause-grows : goal.returns-in_err-entered-clause-grows
returns-in_err-entered-clause-grows c = Grows-itself c.args.engine.now

pub returns-clause-terms : goal.returns-clause-terms
returns-clause-terms c =
    let l = c.loop-t in
    l.invariant.terms
    ∙ ap (λ front. with_terms c.args.engine.now.graph.terms (terms_of front))
    (none_left c.args.pool.now.terms c.args.triples.now c.requires.valid.triples l.t-index
    c.loop-t-test.false)

pub returns-clause-numbers : goal.returns-clause-numbers
returns-clause-numbers c =
    let l = c.loop-t in
    l.invariant.numbers
    ∙ ap (numbered_all l.engine.graph.terms)
    (none_left c.args.pool.now.terms c.args.triples.now c.requires.valid.triples l.t-index
    c.loop-t-test.false)

pub returns-clause-room : goal.returns-clause-room
returns-clause-room c =
    let graph = ap (λ (g : Graph). g.terms) c.view.ensures.graph in
    let terms = ap length (c.pool.ensures.terms ∙ graph) in
    omega (
      arith,
      terms,
      c.len.ensures.count,
      c.len.ensures.within,
      c.pool.ensures.limit,
      c.view.ensures.term_limit,
    )
