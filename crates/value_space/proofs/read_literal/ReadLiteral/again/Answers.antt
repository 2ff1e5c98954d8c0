use Rattle.std.specs.Prelude.{◌≡◌, Option, Some, None, if◌then◌else◌}
use Rattle.std.proofs.Common.{sym, ap, ◌∙◌, subst}
use Rattle.std.proofs.lemmas.Option.{same_Some}
use Rattle.shx_term.specs.declared.term.Literal.{Literal}
use Rattle.shx_term.specs.declared.term.Term.{Term}
use Rattle.shx_term.specs.declared.term.Term.TheVariants.{Lit}
use Rattle.shx_term.specs.ValidTriples.{IsNotWide}
use Rattle.value_space.specs.declared.value.Value.{Value}
use Rattle.value_space.specs.ReadValues.{value_read}
use Rattle.value_space.specs.Values.{value_of}
use Rattle.value_space.specs.inner.Canonical.{IsCanonical}
use Rattle.value_space.proofs.CanonicalLemmas.{value_of-canonical}
use Rattle.value_space.proofs.read_literal.ReadLiteral.again.Goals as goal

-- what was read of a literal that is not wide is its value
value_again : (t : Term) (literal : Literal) (read : Option Value) (value : Value) → t ≡ Lit literal
    → read ≡ Some value → IsNotWide t → read ≡ value_read t → value ≡ value_of literal
value_again t literal read value is there narrow due =
    same_Some value (value_of literal)
    (sym there ∙ due ∙ ap value_read is
    ∙ ap (λ b. if b then None else Some (value_of literal)) (subst IsNotWide is narrow))

pub invariant_of-result : goal.invariant_of-result
invariant_of-result c =
    let literal = c.in-Lit-Some.literal in
    record {
      canonical = subst IsCanonical
          (sym (value_again c.args.term.now literal c.args.value c.in-Lit-Some.value c.in-Lit-Some.is-0
          c.in-Lit-Some.is-1 c.requires.narrow c.requires.value))
          (value_of-canonical literal);
    }
