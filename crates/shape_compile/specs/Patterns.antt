-- The patterns of shapes, with their flags (SHACL, section 4.4.3).
use Rattle.std.specs.Prelude.{◌≡◌, ℕ, ◌==◌, Bool, List, [], Option, Some, slice_get, Contains}
use Rattle.std.specs.List.{list_any}
use Rattle.std.specs.declared.cmp.Ordering.TheVariants.{Less}
use Rattle.shx_outside.specs.Patterns.{IsPattern}
use Rattle.shx_outside.specs.declared.flags.Flags.{Flags}
use Rattle.shx_term.specs.IdOrder.{id_cmp}
use Rattle.shx_term.specs.declared.term.Term.{Term}
use Rattle.shx_term.specs.declared.term.Term.TheVariants.{Lit}
use Rattle.shx_term.specs.declared.vocabulary.TheConstants.{SH_FLAGS, SH_PATTERN}
use Rattle.shape_decl.specs.Declarations.{Declaration, values_under}

-- ---- texts

-- the lexical form of a literal
abbrev pub text_of_term : Option Term → List ℕ
text_of_term (Some (Lit literal)) = literal.lexical
text_of_term term = []

abbrev pub text_at : List Term → ℕ → List ℕ
text_at terms id = text_of_term (slice_get terms id)

-- ---- flags

-- the letter stands in the text of one of them
abbrev pub has_letter : List Term → List ℕ → ℕ → Bool
has_letter terms ids letter = list_any (λ id. list_any (λ c. c == letter) (text_at terms id)) ids

-- i, m, s and x
abbrev pub flags_of : List Term → Declaration → Flags
flags_of terms d =
    let ids = values_under d SH_FLAGS in
    record {
      i = has_letter terms ids 105;
      m = has_letter terms ids 109;
      s = has_letter terms ids 115;
      x = has_letter terms ids 120;
    }

-- ---- what is said of them

-- the shape states this value as a pattern
pub record StatesPattern (ds : List Declaration) (d : Declaration) (value : ℕ) : Type 0 where
  pub declared : Contains ds d
  pub stated : Contains (values_under d SH_PATTERN) value

-- each pattern may be built, with the flags of its shape
pub record AreAdmitted (admits : Flags → List ℕ → Type 0) (terms : List Term) (ds : List Declaration)
    : Type 0 where
  pub each : (d : Declaration) (value : ℕ) → StatesPattern ds d value
      → admits (flags_of terms d) (text_at terms value)

-- each pattern is read
pub record AreRead (terms : List Term) (ds : List Declaration) : Type 0 where
  pub each : (d : Declaration) (value : ℕ) → StatesPattern ds d value
      → IsPattern (text_at terms value) (flags_of terms d)

-- each pattern of a shape before this one in term order is read
pub record AreReadBefore (terms : List Term) (ds : List Declaration) (shape : ℕ) : Type 0 where
  pub each : (d : Declaration) (value : ℕ) → StatesPattern ds d value → id_cmp terms d.node shape ≡ Less
      → IsPattern (text_at terms value) (flags_of terms d)
