-- What a reader of a text answers, and what the pool holds behind it.
use Rattle.std.specs.Prelude.{◌≡◌, ℕ, List}
use Rattle.std.specs.Str.{IsUtf8}
use Rattle.shx_term.specs.declared.term.Scope.{Scope}
use Rattle.shx_term.specs.Pool.{Pooled}
use Rattle.ttl_meaning.specs.declared.document.Document.{Document}
use Rattle.ttl_meaning.specs.inner.DocumentOf.{IsDocumentOf}
use Rattle.ttl_meaning.specs.IsStated.{terms_with}
use Rattle.ttl_meaning.specs.State.{State}
use Rattle.ttl_read.specs.declared.fault.TtlFault.{TtlFault}
use Rattle.ttl_read.specs.declared.fault.TtlFault.TheVariants.{At, Memory}
use Rattle.ttl_read.specs.Documents.{Setting, Reaches, HasBadStatement, start_of}
use Rattle.ttl_read.specs.Grammar.{Place}
use Rattle.ttl_read.specs.Unique.{IsOneDocument, IsOneFault}

-- the text is a document, of one meaning, and this is what it states
abbrev pub States : Setting → Scope → List ℕ → Document → Pooled → Type 0
States t scope base document pool =
    (s : State) × IsOneDocument t scope base s × IsDocumentOf t.bounds s document pool

-- the fault is the one of the text; want of memory is none
abbrev pub FaultStands : Setting → Scope → List ℕ → TtlFault → Type 0
FaultStands t scope base (At code at) = IsOneFault t scope base code at
FaultStands t scope base Memory = Unit

-- ---- the pool

-- whatever is answered: beside what was held before, the terms of the triples of statements without fault,
-- from the first on
pub record HoldsRead (t : Setting) (scope : Scope) (base : List ℕ) (pool : Pooled) : Type 0 where
  pub reached : Place
  pub statements : Reaches t (start_of t.text scope base) reached
  pub terms : pool.terms ≡ terms_with t.bounds reached.state.triples

-- of a text that has a fault: the terms of all statements before the one at fault; of bytes that are no
-- text, none
pub record HoldsAllBefore (t : Setting) (scope : Scope) (base : List ℕ) (pool : Pooled) : Type 0 where
  pub bytes : (IsUtf8 t.text → ⊥) → pool.terms ≡ t.bounds.held
  pub statements : IsUtf8 t.text → (code at : ℕ)
      → (bad : HasBadStatement t (start_of t.text scope base) code at)
      → pool.terms ≡ terms_with t.bounds bad.reached.state.triples

-- where a fault is answered; where memory is wanted, no more is known than for every answer
abbrev pub HoldsBefore : Setting → Scope → List ℕ → Pooled → TtlFault → Type 0
HoldsBefore t scope base pool (At code at) = HoldsAllBefore t scope base pool
HoldsBefore t scope base pool Memory = Unit
