-- A term and its number in a list of distinct terms.
use Rattle.std.specs.Prelude.{◌≡◌, ℕ, List, Some, position, slice_get}
use Rattle.std.proofs.Common.{sym, ◌∙◌, ap, get_or}
use Rattle.std.proofs.lemmas.List.Quantifiers.{position-Some}
use Rattle.std.proofs.lemmas.Option.{slice_get-get_or}
use Rattle.shx_term.specs.declared.term.Term.{Term}
use Rattle.shx_term.specs.TermOrder.{same_term}
use Rattle.shx_term.specs.inner.TermOrderLaws.{same_term_exact}

-- at a term's place stands the term
pub slice_get-position : (terms : List Term) (t : Term) (i : ℕ) → position (same_term t) terms ≡ Some i
    → slice_get terms i ≡ Some t
slice_get-position terms t i e =
    let found = position-Some (same_term t) terms i t e in
    slice_get-get_or terms i t found.0 ∙ ap Some (sym (same_term_exact t (get_or terms i t) found.1))
