-- Which values of parameters say that something is so: the booleans that are true.
use Rattle.std.specs.Prelude.{ℕ, nat_eq, Bool, false, ◌&&◌, List, Option, Some, slice_get, codes}
use Rattle.std.specs.Cmp.Lexicographic.{pointwise}
use Rattle.std.specs.List.{list_any}
use Rattle.shx_term.specs.Datatypes.{xsd}
use Rattle.shx_term.specs.declared.term.Literal.{Literal}
use Rattle.shx_term.specs.declared.term.Term.{Term}
use Rattle.shx_term.specs.declared.term.Term.TheVariants.{Lit}
use Rattle.value_space.specs.Values.{value_of}
use Rattle.value_space.specs.declared.value.Value.{Value}
use Rattle.value_space.specs.declared.value.Value.TheVariants.{Bool as Truth}

abbrev pub is_true_value : Value → Bool
is_true_value (Truth b) = b
is_true_value value = false

-- a boolean that is true, whatever its lexical form
abbrev pub is_true_literal : Literal → Bool
is_true_literal literal =
    pointwise nat_eq literal.datatype (xsd (codes "boolean")) && is_true_value (value_of literal)

abbrev pub is_true_term : Option Term → Bool
is_true_term (Some (Lit literal)) = is_true_literal literal
is_true_term term = false

abbrev pub is_true : List Term → ℕ → Bool
is_true terms id = is_true_term (slice_get terms id)

-- one of them is true
abbrev pub is_any_true : List Term → List ℕ → Bool
is_any_true terms ids = list_any (is_true terms) ids
