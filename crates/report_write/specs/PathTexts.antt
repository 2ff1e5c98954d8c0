-- How a path is written: an IRI as its spelling, and what is made of paths between the marks of its form.
use Rattle.std.specs.Prelude.{ℕ, List, ◌++◌}
use Rattle.shx_term.specs.declared.term.Term.{Term}
use Rattle.path_eval.specs.Route.{Route, along, here, first_then, none, one_or_other, turned, any_times}
use Rattle.path_eval.specs.Route.{some_times, perhaps}
use Rattle.text_output.specs.TermTexts.{number_text}
use Rattle.text_output.specs.declared.format.Format.{Format}
use Rattle.report_write.specs.declared.path_form.PathForm.{PathForm}
use Rattle.report_write.specs.declared.path_form.PathForm.TheVariants.{Sequence, Alternative, Inverse}
use Rattle.report_write.specs.declared.path_form.PathForm.TheVariants.{ZeroOrMore, OneOrMore, ZeroOrOne}
use Rattle.report_write.specs.PathForms.{opening, between, closing}

-- a text, or several that were joined, between the marks of a form
abbrev pub enclosed : Format → PathForm → List ℕ → List ℕ
enclosed format form text = opening format form ++ text ++ closing format form

abbrev mutual
  pub path_text : Format → List Term → Route → List ℕ
  path_text format terms (along p) = number_text terms p
  path_text format terms here = opening format Sequence ++ closing format Sequence
  path_text format terms (first_then r s) =
      opening format Sequence ++ path_text format terms r ++ further_parts format terms s
  path_text format terms none = opening format Alternative ++ closing format Alternative
  path_text format terms (one_or_other r s) =
      opening format Alternative ++ path_text format terms r ++ further_members format terms s
  path_text format terms (turned r) = enclosed format Inverse (path_text format terms r)
  path_text format terms (any_times r) = enclosed format ZeroOrMore (path_text format terms r)
  path_text format terms (some_times r) = enclosed format OneOrMore (path_text format terms r)
  path_text format terms (perhaps r) = enclosed format ZeroOrOne (path_text format terms r)

  -- what follows the first part of a sequence
  pub further_parts : Format → List Term → Route → List ℕ
  further_parts format terms (first_then r s) =
      between format Sequence ++ path_text format terms r ++ further_parts format terms s
  further_parts format terms _ = closing format Sequence

  -- what follows the first member of an alternative
  pub further_members : Format → List Term → Route → List ℕ
  further_members format terms (one_or_other r s) =
      between format Alternative ++ path_text format terms r ++ further_members format terms s
  further_members format terms _ = closing format Alternative
