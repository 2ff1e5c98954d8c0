use Rattle.std.proofs.Common.{sym, ◌∙◌}
use Rattle.shx_term.specs.declared.term.Term.TheVariants.{Iri}
use Rattle.ttl_meaning.specs.IsStated.{triple_of}
use Rattle.ttl_meaning.specs.State.{subject_term}
use Rattle.ttl_meaning.proofs.StatedLemmas.{IsStated-counted, IsStated-stored, IsStated-full}
use Rattle.ttl_meaning.proofs.stated.Stated.add.Goals as goal

pub returns-then-is_some-clause-stated : goal.returns-then-is_some-clause-stated
returns-then-is_some-clause-stated c = λ s p o bounds triples is_s is_p is_o is.
    IsStated-counted bounds triples (triple_of s p o) c.args.self.now c.args.pool.now
    (sym c.is_some.ensures ∙ c.if-is_some.true) c.if-self.false is

pub returns-in_ok-push-in-Ok-clause-stated : goal.returns-in_ok-push-in-Ok-clause-stated
returns-in_ok-push-in-Ok-clause-stated c = λ s p o bounds triples is_s is_p is_o is.
    IsStated-stored bounds triples (triple_of s p o)
    c.args.self.now c.args.pool.now c.in-Ok.triple c.push.new.self c.numbered.new.pool c.if-self.false
    c.in_ok-push-in-Ok.ensures.items c.numbered.ensures.keeps.limit
    (c.in-Ok.ensures.entered s p o is_s is_p is_o) (c.in-Ok.ensures.triple s p o is_s is_p is_o) is
    (sym c.is_some.ensures ∙ c.if-is_some.false)

pub returns-in_ok-push-in-Ok-clause-context : goal.returns-in_ok-push-in-Ok-clause-context
returns-in_ok-push-in-Ok-clause-context c = λ s iri is_s is_p.
    c.in-Ok.ensures.places (subject_term s) (Iri iri) is_s is_p

pub returns-in-Err-Full-clause-stated : goal.returns-in-Err-Full-clause-stated
returns-in-Err-Full-clause-stated c = λ s p o bounds triples is_s is_p is_o is.
    IsStated-full bounds triples (triple_of s p o) c.args.self.now c.args.pool.now c.numbered.new.pool
    c.if-self.false c.numbered.ensures.keeps.limit
    (c.in-Err-Full.ensures.full s p o is_s is_p is_o c.in-Err-Full.field-0-is) is
    (sym c.is_some.ensures ∙ c.if-is_some.false)
