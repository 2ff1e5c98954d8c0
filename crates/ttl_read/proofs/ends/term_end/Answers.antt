use Rattle.std.proofs.Common.{refl, sym, ◌∙◌}
use Rattle.ttl_read.specs.ReadTerm.{OneToken, WithTag, WithDatatype, AsString}
use Rattle.ttl_read.proofs.GoesToLemmas.{goes_nowhere}
use Rattle.ttl_read.proofs.ends.term_end.Goals as goal

pub returns-then-is_term : goal.returns-then-is_term
returns-then-is_term c = OneToken (sym c.is_term.ensures ∙ c.if-is_term.true) refl

pub returns-then-not-is_string : goal.returns-then-not-is_string
returns-then-not-is_string c =
    goes_nowhere c.args.text.now c.args.token.now (sym c.is_term.ensures ∙ c.if-is_term.false)
    (sym c.is_string.ensures ∙ c.if-not-is_string.true)

pub returns-in-Tag : goal.returns-in-Tag
returns-in-Tag c =
    WithTag (sym c.is_string.ensures ∙ c.if-not-is_string.false) c.in-Tag.tag c.in-Tag.ensures refl

pub returns-in-Datatype : goal.returns-in-Datatype
returns-in-Datatype c =
    WithDatatype (sym c.is_string.ensures ∙ c.if-not-is_string.false) c.in-Datatype.iri c.in-Datatype.ensures
    refl

pub returns-in-Nothing : goal.returns-in-Nothing
returns-in-Nothing c =
    AsString (sym c.is_string.ensures ∙ c.if-not-is_string.false) c.in-Nothing.ensures.0
    c.in-Nothing.ensures.1 refl
