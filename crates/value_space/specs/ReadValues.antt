-- What is read of a term before others are compared with it.
use Rattle.std.specs.Prelude.{ℕ, List, Option, Some, None, if◌then◌else◌, slice_get}
use Rattle.shx_term.specs.declared.term.Term.{Term}
use Rattle.shx_term.specs.declared.term.Term.TheVariants.{Iri, Blank, Lit}
use Rattle.shx_term.specs.WideLiterals.{is_wide}
use Rattle.value_space.specs.declared.value.Value.{Value}
use Rattle.value_space.specs.Values.{value_of}

-- the value of a literal that is not wide; nothing of any other term
abbrev pub value_read : Term → Option Value
value_read (Iri iri) = None
value_read (Blank blank) = None
value_read (Lit literal) = if is_wide literal then None else Some (value_of literal)

-- the same where there is a term
abbrev pub value_if : Option Term → Option Value
value_if None = None
value_if (Some t) = value_read t

-- of the term that a number has
abbrev pub value_at : List Term → ℕ → Option Value
value_at terms id = value_if (slice_get terms id)
