use Rattle.std.proofs.Common.{sym, ◌∙◌}
use Rattle.std.specs.Str.{chars}
use Rattle.ttl_tokens.proofs.GroupLemmas.{group_answer, none_at_end, none_of_others}
use Rattle.ttl_tokens.proofs.scan.terminal.Goals as goal

pub returns-in-Square : goal.returns-in-Square
returns-in-Square c =
    group_answer (λ t. t.0) (λ t. chars t.1.now) _ c.in-Some.ensures (sym c.group_of.ensures ∙ c.in-Square.is)
    c.square.ensures

pub returns-in-Mark : goal.returns-in-Mark
returns-in-Mark c =
    group_answer (λ t. t.0) (λ t. chars t.1.now) _ c.in-Some.ensures (sym c.group_of.ensures ∙ c.in-Mark.is)
    c.mark.ensures

pub returns-in-Other : goal.returns-in-Other
returns-in-Other c = none_of_others _ _ _ c.in-Some.ensures (sym c.group_of.ensures ∙ c.in-Other.is)

pub returns-in-None : goal.returns-in-None
returns-in-None c = none_at_end _ c.in-None.ensures

pub returns-in-Number : goal.returns-in-Number
returns-in-Number c =
    group_answer (λ t. t.0) (λ t. chars t.1.now) _ c.in-Some.ensures (sym c.group_of.ensures ∙ c.in-Number.is)
    c.number.ensures

pub returns-in-At : goal.returns-in-At
returns-in-At c =
    group_answer (λ t. t.0) (λ t. chars t.1.now) _ c.in-Some.ensures (sym c.group_of.ensures ∙ c.in-At.is)
    c.lang_tag.ensures

pub returns-in-Caret : goal.returns-in-Caret
returns-in-Caret c =
    group_answer (λ t. t.0) (λ t. chars t.1.now) _ c.in-Some.ensures (sym c.group_of.ensures ∙ c.in-Caret.is)
    c.carets.ensures

pub returns-in-Name : goal.returns-in-Name
returns-in-Name c =
    group_answer (λ t. t.0) (λ t. chars t.1.now) _ c.in-Some.ensures (sym c.group_of.ensures ∙ c.in-Name.is)
    c.name_after.ensures

pub returns-in-DoubleQuoted : goal.returns-in-DoubleQuoted
returns-in-DoubleQuoted c =
    group_answer (λ t. t.0) (λ t. chars t.1.now) _ c.in-Some.ensures
    (sym c.group_of.ensures ∙ c.in-DoubleQuoted.is) c.double_quoted.ensures

pub returns-in-SingleQuoted : goal.returns-in-SingleQuoted
returns-in-SingleQuoted c =
    group_answer (λ t. t.0) (λ t. chars t.1.now) _ c.in-Some.ensures
    (sym c.group_of.ensures ∙ c.in-SingleQuoted.is) c.single_quoted.ensures

pub returns-in-Angle : goal.returns-in-Angle
returns-in-Angle c =
    group_answer (λ t. t.0) (λ t. chars t.1.now) _ c.in-Some.ensures (sym c.group_of.ensures ∙ c.in-Angle.is)
    c.iri_ref.ensures

pub returns-in-Underscore : goal.returns-in-Underscore
returns-in-Underscore c =
    group_answer (λ t. t.0) (λ t. chars t.1.now) _ c.in-Some.ensures
    (sym c.group_of.ensures ∙ c.in-Underscore.is) c.blank_label.ensures
