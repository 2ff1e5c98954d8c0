-- What literals and terms are compared by, and when one term is less than another (SHACL, sections 4.3, 4.5.3
-- and 4.5.4).
use Rattle.std.specs.Prelude.{ℕ, Bool, false, List, Option, Some, None}
use Rattle.shx_term.specs.declared.term.Literal.{Literal}
use Rattle.shx_term.specs.declared.term.Term.{Term}
use Rattle.shx_term.specs.declared.term.Term.TheVariants.{Iri, Blank, Lit}
use Rattle.value_space.specs.declared.read_literal.ReadLiteral.{ReadLiteral}
use Rattle.value_space.specs.declared.value.Value.{Value}
use Rattle.value_space.specs.Comparison.{less_of_values, less_eq_of_values}
use Rattle.value_space.specs.Values.{value_of}

-- what a literal is compared by: its value, and among texts its lexical form
pub record Compared : Type 0 where
  pub value : Value
  pub text : List ℕ

abbrev pub compared_literal : Literal → Compared
compared_literal literal = record { value = value_of literal; text = literal.lexical }

-- the same of a literal that was read
abbrev pub compared_read : ReadLiteral → Compared
compared_read read = record { value = read.value; text = read.text.now }

-- `<` and `<=`: nothing where the two are incomparable
abbrev pub less_compared : Compared → Compared → Option Bool
less_compared a b = less_of_values a.text b.text a.value b.value

abbrev pub less_eq_compared : Compared → Compared → Option Bool
less_eq_compared a b = less_eq_of_values a.text b.text a.value b.value

-- no term but a literal is compared
abbrev pub compared_by : Term → Option Compared
compared_by (Iri iri) = None
compared_by (Blank blank) = None
compared_by (Lit literal) = Some (compared_literal literal)

abbrev pub read_as : Option ReadLiteral → Option Compared
read_as None = None
read_as (Some read) = Some (compared_read read)

-- the answer is there, and it is yes
abbrev pub is_true : Option Bool → Bool
is_true None = false
is_true (Some truth) = truth

-- there are both, and the one is less than the other
abbrev pub is_less : Option Compared → Option Compared → Bool
is_less None b = false
is_less (Some a) None = false
is_less (Some a) (Some b) = is_true (less_compared a b)

-- there are both, and the one is less than the other or equal to it
abbrev pub is_less_eq : Option Compared → Option Compared → Bool
is_less_eq None b = false
is_less_eq (Some a) None = false
is_less_eq (Some a) (Some b) = is_true (less_eq_compared a b)

abbrev pub is_less_term : Term → Term → Bool
is_less_term a b = is_less (compared_by a) (compared_by b)

abbrev pub is_less_eq_term : Term → Term → Bool
is_less_eq_term a b = is_less_eq (compared_by a) (compared_by b)
