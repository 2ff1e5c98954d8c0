use Rattle.std.proofs.Common.{◌≤◌, length, sym, ap, ◌∙◌, Some, arith}
use Rattle.ttl_read.proofs.SoundLemmas.{term_judged, triples_judged, terms_judged, sound_judged}
use Rattle.ttl_read.proofs.statements.judge.Goals as goal

pub returns-in-Some : goal.returns-in-Some
returns-in-Some c = λ t x y reads settled.
    term_judged t x y _ _ c.args.start _ c.in-Some.fault reads settled (sym c.fault.ensures ∙ c.in-Some.is)
    c.code_of.ensures

pub returns-in-None : goal.returns-in-None
returns-in-None c = λ t x y reads settled.
    let within : length c.args.pool.now.terms ≤ c.args.pool.now.limit =
    omega (arith, c.len.ensures.within, c.len.ensures.count) in
    sound_judged t x y _ _ reads settled (sym c.fault.ensures ∙ c.in_default.is)
    (sym c.excess.ensures ∙ c.in-None.is) within

pub returns-in-Some-Triples : goal.returns-in-Some-Triples
returns-in-Some-Triples c = λ t x y reads settled.
    triples_judged t x y _ _ c.args.start reads settled (sym c.fault.ensures ∙ c.in_default.is)
    (sym c.excess.ensures ∙ c.in-Some-Triples.is ∙ ap Some c.in-Some-Triples.field-0-is)

pub returns-in-Some-Terms : goal.returns-in-Some-Terms
returns-in-Some-Terms c = λ t x y reads settled.
    terms_judged t x y _ _ c.args.start reads settled (sym c.fault.ensures ∙ c.in_default.is)
    (sym c.excess.ensures ∙ c.in-Some-Terms.is ∙ ap Some c.in-Some-Terms.field-0-is)
