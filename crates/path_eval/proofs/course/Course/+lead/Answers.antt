use Rattle.std.specs.Prelude.{map}
use Rattle.std.proofs.Common.{sym, ap, ◌∙◌, subst}
use Rattle.std.proofs.lemmas.List.{drop_all}
use Rattle.path_eval.specs.declared.direction.Direction.TheVariants.{Forward}
use Rattle.path_eval.specs.Route.{route_of, sequence}
use Rattle.path_eval.specs.inner.Course.{led, line_of}
use Rattle.path_eval.proofs.CourseLemmas.{led_other}
use Rattle.path_eval.proofs.RouteLemmas.{route_Seq}
use Rattle.path_eval.proofs.SameRouteLemmas.{IsOfForm, of_its_form}
use Rattle.path_eval.proofs.course.Course.+lead.Goals as goal

pub lead-returns-in_ok-lead_all-in-Seq : goal.lead-returns-in_ok-lead_all-in-Seq
lead-returns-in_ok-lead_all-in-Seq t c =
    c.in_ok-lead_all-in-Seq.ensures
    ∙ ap (λ route. led Forward route (line_of c.args.self.now))
    (ap (λ paths. sequence (map route_of paths)) c.deref.ensures.value
    ∙ sym (ap route_of c.in-Seq.is ∙ route_Seq c.in-Seq.parts))

pub lead-returns-in_ok-pass-in_default : goal.lead-returns-in_ok-pass-in_default
lead-returns-in_ok-pass-in_default t c =
    let path = c.args.path.now in
    c.in_ok-pass-in_default.ensures
    ∙ sym (led_other Forward (route_of path) (line_of c.args.self.now)
    (λ is. let told = subst (λ form. IsOfForm form path) is (of_its_form path) in
    c.in_default.not-Seq told.0 told.1)
    (λ is. let told = subst (λ form. IsOfForm form path) is (of_its_form path) in
    c.in_default.not-ZeroOrMore told.0 told.1)
    (λ is. let told = subst (λ form. IsOfForm form path) is (of_its_form path) in
    c.in_default.not-OneOrMore told.0 told.1))

pub lead_all-returns : goal.lead_all-returns
lead_all-returns t c =
    sym (ap (λ paths. led Forward (sequence (map route_of paths)) (line_of c.loop-path.self))
    (drop_all c.loop-path.path-index c.args.paths.now c.loop-path-test.false))
    ∙ c.loop-path.invariant
