use Rattle.std.proofs.Common.{[], ◌∷◌, ◌<◌, ◌≡◌, Some, ap, length, refl, ◌∙◌}
use Rattle.std.proofs.lemmas.Result.{err_from_is_err_and}
use Rattle.shx_term.specs.declared.pool.PoolFault.{PoolFault}
use Rattle.shx_term.specs.declared.triple.TermTriple.{TermTriple}
use Rattle.shx_term.specs.Pool.{with_term, with_terms}
use Rattle.shx_term.specs.TripleTerms.{numbered, terms_of}
use Rattle.graph_view.proofs.ValidLemmas.{IsKnownTriple-valid}
use Rattle.script_run.proofs.EnteredLemmas.{Grows-none, Grows-term, Grows-then, entered_in_turn, full_after}
use Rattle.script_run.proofs.EnteredLemmas.{narrow_at, numbers_in_turn, object_is, predicate_is, stated_so}
use Rattle.script_run.proofs.EnteredLemmas.{subject_is}
use Rattle.script_run.proofs.loading.enter_triple.Goals as goal

pub term-requires : goal.term-requires
term-requires c = (IsKnownTriple-valid c.args.pool.now.terms c.args.t.now c.requires.valid).s

pub term-requires-2 : goal.term-requires-2
term-requires-2 c = (IsKnownTriple-valid c.args.pool.now.terms c.args.t.now c.requires.valid).p

pub term-requires-3 : goal.term-requires-3
term-requires-3 c = (IsKnownTriple-valid c.args.pool.now.terms c.args.t.now c.requires.valid).o

pub enter-requires : goal.enter-requires
enter-requires c =
    narrow_at c.args.pool.now.terms c.args.t.now.s c.term.result.now c.requires.narrow c.term.ensures

pub enter-requires-2 : goal.enter-requires-2
enter-requires-2 c =
    narrow_at c.args.pool.now.terms c.args.t.now.p c.term-2.result.now c.requires.narrow c.term-2.ensures

pub enter-requires-3 : goal.enter-requires-3
enter-requires-3 c =
    narrow_at c.args.pool.now.terms c.args.t.now.o c.term-3.result.now c.requires.narrow c.term-3.ensures

pub returns-in_err-s-clause-grows : goal.returns-in_err-s-clause-grows
returns-in_err-s-clause-grows c =
    Grows-none c.args.engine.now c.enter.new.self c.in_err-s.ensures.refused

pub returns-in_err-p-clause-grows : goal.returns-in_err-p-clause-grows
returns-in_err-p-clause-grows c =
    let one = c.enter.ensures in
    Grows-then
    (Grows-term c.args.engine.now c.enter.new.self c.term.result.now one.plan one.settled one.remembered
    one.triples c.in_ok-s.ensures.entered)
    (Grows-none c.enter.new.self c.enter-2.new.self c.in_err-p.ensures.refused)

pub returns-in_err-o-clause-grows : goal.returns-in_err-o-clause-grows
returns-in_err-o-clause-grows c =
    let one = c.enter.ensures in
    let two = c.enter-2.ensures in
    Grows-then
    (Grows-term c.args.engine.now c.enter.new.self c.term.result.now one.plan one.settled one.remembered
    one.triples c.in_ok-s.ensures.entered)
    (Grows-then
    (Grows-term c.enter.new.self c.enter-2.new.self c.term-2.result.now two.plan two.settled two.remembered
    two.triples c.in_ok-p.ensures.entered)
    (Grows-none c.enter-2.new.self c.enter-3.new.self c.in_err-o.ensures.refused))

pub returns-clause-grows : goal.returns-clause-grows
returns-clause-grows c =
    let one = c.enter.ensures in
    let two = c.enter-2.ensures in
    let three = c.enter-3.ensures in
    Grows-then
    (Grows-term c.args.engine.now c.enter.new.self c.term.result.now one.plan one.settled one.remembered
    one.triples c.in_ok-s.ensures.entered)
    (Grows-then
    (Grows-term c.enter.new.self c.enter-2.new.self c.term-2.result.now two.plan two.settled two.remembered
    two.triples c.in_ok-p.ensures.entered)
    (Grows-term c.enter-2.new.self c.enter-3.new.self c.term-3.result.now three.plan three.settled
    three.remembered three.triples c.in_ok-o.ensures.entered))

pub returns-clause-terms : goal.returns-clause-terms
returns-clause-terms c =
    let terms = c.args.pool.now.terms in
    let t = c.args.t.now in
    let valid = c.requires.valid in
    let x = valid.stated in
    let old = c.args.engine.now.graph.terms in
    let new = c.enter-3.new.self.graph.terms in
    stated_so terms t valid
    (λ (stated : TermTriple). new ≡ with_terms old (terms_of (stated ∷ [])))
    (entered_in_turn old c.enter.new.self.graph.terms c.enter-2.new.self.graph.terms new
    c.term.result.now c.term-2.result.now c.term-3.result.now x
    (subject_is terms t valid c.term.result.now c.term.ensures)
    (predicate_is terms t valid c.term-2.result.now c.term-2.ensures)
    (object_is terms t valid c.term-3.result.now c.term-3.ensures)
    c.in_ok-s.ensures.entered c.in_ok-p.ensures.entered c.in_ok-o.ensures.entered)

pub returns-clause-number : goal.returns-clause-number
returns-clause-number c =
    let terms = c.args.pool.now.terms in
    let t = c.args.t.now in
    let valid = c.requires.valid in
    stated_so terms t valid
    (λ (stated : TermTriple). numbered c.enter-3.new.self.graph.terms stated
    ≡ Some (record { s = c.in_ok-s.s; p = c.in_ok-p.p; o = c.in_ok-o.o }))
    (numbers_in_turn c.args.engine.now.graph.terms c.enter.new.self.graph.terms
    c.enter-2.new.self.graph.terms c.enter-3.new.self.graph.terms c.term.result.now c.term-2.result.now
    c.term-3.result.now valid.stated (subject_is terms t valid c.term.result.now c.term.ensures)
    (predicate_is terms t valid c.term-2.result.now c.term-2.ensures)
    (object_is terms t valid c.term-3.result.now c.term-3.ensures) c.in_ok-s.s c.in_ok-p.p c.in_ok-o.o
    c.in_ok-p.ensures.entered c.in_ok-o.ensures.entered c.in_ok-s.ensures.found c.in_ok-p.ensures.found
    c.in_ok-o.ensures.found)

pub returns-in_err-s-clause-full : goal.returns-in_err-s-clause-full
returns-in_err-s-clause-full c =
    let exit = err_from_is_err_and c.from_residual.result c.from_residual.ensures.1 in
    let old = c.args.engine.now in
    let terms = c.args.pool.now.terms in
    let t = c.args.t.now in
    let valid = c.requires.valid in
    let x = valid.stated in
    rw (exit.1, exit.2)
    (stated_so terms t valid
    (λ (stated : TermTriple). c.in_err-s.field-0.0 ≡ PoolFault.Full
    → old.term_limit < length (with_terms old.graph.terms (terms_of (stated ∷ []))))
    (λ full. full_after old old [] (x.p ∷ (x.o ∷ [])) c.term.result.now x.s refl refl
    (subject_is terms t valid c.term.result.now c.term.ensures) (c.in_err-s.ensures.full full)))

pub returns-in_err-p-clause-full : goal.returns-in_err-p-clause-full
returns-in_err-p-clause-full c =
    let exit = err_from_is_err_and c.from_residual-in_err-p.result c.from_residual-in_err-p.ensures.1 in
    let old = c.args.engine.now in
    let terms = c.args.pool.now.terms in
    let t = c.args.t.now in
    let valid = c.requires.valid in
    let x = valid.stated in
    let one = c.in_ok-s.ensures.entered
    ∙ ap (with_term old.graph.terms) (subject_is terms t valid c.term.result.now c.term.ensures) in
    rw (exit.1, exit.2)
    (stated_so terms t valid
    (λ (stated : TermTriple). c.in_err-p.field-0.0 ≡ PoolFault.Full
    → old.term_limit < length (with_terms old.graph.terms (terms_of (stated ∷ []))))
    (λ full. full_after old c.enter.new.self (x.s ∷ []) (x.o ∷ []) c.term-2.result.now x.p one
    c.enter.ensures.plan.term_limit (predicate_is terms t valid c.term-2.result.now c.term-2.ensures)
    (c.in_err-p.ensures.full full)))

pub returns-in_err-o-clause-full : goal.returns-in_err-o-clause-full
returns-in_err-o-clause-full c =
    let exit = err_from_is_err_and c.from_residual-in_err-o.result c.from_residual-in_err-o.ensures.1 in
    let old = c.args.engine.now in
    let terms = c.args.pool.now.terms in
    let t = c.args.t.now in
    let valid = c.requires.valid in
    let x = valid.stated in
    let one = c.in_ok-s.ensures.entered
    ∙ ap (with_term old.graph.terms) (subject_is terms t valid c.term.result.now c.term.ensures) in
    let p_is = predicate_is terms t valid c.term-2.result.now c.term-2.ensures in
    let two = c.in_ok-p.ensures.entered ∙ (λ i. with_term (one i) (p_is i)) in
    rw (exit.1, exit.2)
    (stated_so terms t valid
    (λ (stated : TermTriple). c.in_err-o.field-0.0 ≡ PoolFault.Full
    → old.term_limit < length (with_terms old.graph.terms (terms_of (stated ∷ []))))
    (λ full. full_after old c.enter-2.new.self (x.s ∷ (x.p ∷ [])) [] c.term-3.result.now x.o two
    (c.enter-2.ensures.plan.term_limit ∙ c.enter.ensures.plan.term_limit)
    (object_is terms t valid c.term-3.result.now c.term-3.ensures) (c.in_err-o.ensures.full full)))
