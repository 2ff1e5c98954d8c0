use Rattle.std.proofs.Common.{ap, ◌∙◌}
use Rattle.std.specs.Prelude.{map}
use Rattle.std.specs.Cmp.Lexicographic.{pointwise}
use Rattle.path_eval.specs.Route.{route_of}
use Rattle.path_eval.specs.inner.SameRoute.{same_route}
use Rattle.path_eval.proofs.SameRouteLemmas.{form_Alt, form_Seq, other_form, path_form, same_Alt, same_Seq}
use Rattle.path_eval.proofs.path_equality.+same.Goals as goal

pub is_same-returns-in-Seq-Seq : goal.is_same-returns-in-Seq-Seq
is_same-returns-in-Seq-Seq t c =
    c.are_same.ensures
    ∙ ap (λ ps. pointwise same_route (map route_of ps) (map route_of c.deref-in-Seq-Seq.result.now))
    c.deref.ensures.value
    ∙ ap (λ ps. pointwise same_route (map route_of c.in-Seq-Seq.parts.items) (map route_of ps))
    c.deref-in-Seq-Seq.ensures.value
    ∙ same_Seq c.args.a.now c.args.b.now c.in-Seq-Seq.parts c.in-Seq-Seq.others c.in-Seq-Seq.is-0
    c.in-Seq-Seq.is-1

pub is_same-returns-in-Alt-Alt : goal.is_same-returns-in-Alt-Alt
is_same-returns-in-Alt-Alt t c =
    c.are_same-in-Alt-Alt.ensures
    ∙ ap (λ ps. pointwise same_route (map route_of ps) (map route_of c.deref-in-Alt-Alt-2.result.now))
    c.deref-in-Alt-Alt.ensures.value
    ∙ ap (λ ps. pointwise same_route (map route_of c.in-Alt-Alt.members.items) (map route_of ps))
    c.deref-in-Alt-Alt-2.ensures.value
    ∙ same_Alt c.args.a.now c.args.b.now c.in-Alt-Alt.members c.in-Alt-Alt.others c.in-Alt-Alt.is-0
    c.in-Alt-Alt.is-1

pub is_same-returns-in_default : goal.is_same-returns-in_default
is_same-returns-in_default t c =
    other_form c.args.a.now c.args.b.now _ (ap (λ p. path_form (route_of p)) c.in_default.is-0)
    (λ is. c.in_default.not-Pred-1 is.0 is.1)

pub is_same-returns-in_default-2 : goal.is_same-returns-in_default-2
is_same-returns-in_default-2 t c =
    other_form c.args.a.now c.args.b.now _
    (ap (λ p. path_form (route_of p)) c.in_default.is-0 ∙ form_Seq c.in_default.field-0-0)
    (λ is. c.in_default.not-Seq-1 is.0 is.1)

pub is_same-returns-in_default-3 : goal.is_same-returns-in_default-3
is_same-returns-in_default-3 t c =
    other_form c.args.a.now c.args.b.now _
    (ap (λ p. path_form (route_of p)) c.in_default.is-0 ∙ form_Alt c.in_default.field-0-0)
    (λ is. c.in_default.not-Alt-1 is.0 is.1)

pub is_same-returns-in_default-4 : goal.is_same-returns-in_default-4
is_same-returns-in_default-4 t c =
    other_form c.args.a.now c.args.b.now _ (ap (λ p. path_form (route_of p)) c.in_default.is-0)
    (λ is. c.in_default.not-Inverse-1 is.0 is.1)

pub is_same-returns-in_default-5 : goal.is_same-returns-in_default-5
is_same-returns-in_default-5 t c =
    other_form c.args.a.now c.args.b.now _ (ap (λ p. path_form (route_of p)) c.in_default.is-0)
    (λ is. c.in_default.not-ZeroOrMore-1 is.0 is.1)

pub is_same-returns-in_default-6 : goal.is_same-returns-in_default-6
is_same-returns-in_default-6 t c =
    other_form c.args.a.now c.args.b.now _ (ap (λ p. path_form (route_of p)) c.in_default.is-0)
    (λ is. c.in_default.not-OneOrMore-1 is.0 is.1)

pub is_same-returns-in_default-7 : goal.is_same-returns-in_default-7
is_same-returns-in_default-7 t c =
    other_form c.args.a.now c.args.b.now _ (ap (λ p. path_form (route_of p)) c.in_default.is-0)
    (λ is. c.in_default.not-ZeroOrOne-1 is.0 is.1)
