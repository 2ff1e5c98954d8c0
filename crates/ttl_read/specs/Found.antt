-- What a reader of one term answers.
use Rattle.std.specs.Prelude.{◌≡◌, ℕ, List, Result, Ok, Err}
use Rattle.ttl_tokens.specs.declared.token.Token.{Token}
use Rattle.ttl_meaning.specs.declared.fault.NoTerm.{NoTerm}
use Rattle.ttl_meaning.specs.declared.fault.NoTerm.TheVariants.{Fault, Memory as NoMemory}
use Rattle.ttl_read.specs.declared.fault.TtlFault.{TtlFault}
use Rattle.ttl_read.specs.declared.fault.TtlFault.TheVariants.{At, Memory}
use Rattle.ttl_read.specs.declared.term.Reading.{Reading}
use Rattle.ttl_read.specs.declared.suffix.Suffix.{Suffix}
use Rattle.ttl_read.specs.declared.suffix.Suffix.TheVariants.{Tag, Datatype, Nothing}
use Rattle.ttl_read.specs.Documents.{code_of_term}
use Rattle.ttl_read.specs.ReadTerm.{Found, A, No, HasTag, HasDatatype}

-- of what is answered a fact holds, unless memory is wanted
abbrev pub Answers : (Found → Type 0) → Result Reading TtlFault → Type 0
Answers P (Ok reading) = P (A reading.term reading.end)
Answers P (Err (At code at)) = P (No code at)
Answers P (Err Memory) = Unit

-- the fault that stands for this one at a byte
abbrev pub IsFaultOf : NoTerm → ℕ → TtlFault → Type 0
IsFaultOf (Fault kind) at fault = fault ≡ At (code_of_term kind) at
IsFaultOf NoMemory at fault = fault ≡ Memory

-- what belongs to a string
abbrev pub HasSuffix : List ℕ → Token → Suffix → Type 0
HasSuffix text token (Tag tag) = HasTag text token tag
HasSuffix text token (Datatype iri) = HasDatatype text token iri
HasSuffix text token Nothing =
    ((other : Token) → HasTag text token other → ⊥) × ((other : Token) → HasDatatype text token other → ⊥)
