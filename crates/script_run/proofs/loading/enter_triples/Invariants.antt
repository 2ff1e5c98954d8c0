use Rattle.std.specs.Prelude.{◌≡◌, take}
use Rattle.shx_term.specs.Pool.{with_terms}
use Rattle.shx_term.specs.TripleTerms.{numbered_all, terms_of}
use Rattle.script_run.specs.inner.Loading.{Grows, stated_triples}
use Rattle.script_run.proofs.loading.enter_triples.Given as goal

abbrev pub invariant-loop-t : goal.invariant-loop-t
invariant-loop-t l =
    let front = take l.t-index (stated_triples l.pool.terms l.triples) in
    record {
      grows : Grows l.fn.engine l.engine;
      terms : l.engine.graph.terms ≡ with_terms l.fn.engine.graph.terms (terms_of front);
      numbers : l.entered.items ≡ numbered_all l.engine.graph.terms front;
    }
