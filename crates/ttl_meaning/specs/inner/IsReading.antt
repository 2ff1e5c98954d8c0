-- How a state is kept.
use Rattle.std.specs.Prelude.{◌≡◌, ℕ, List, reverse, Contains, ◌↔◌, string_bytes, true, All}
use Rattle.std.specs.Prelude.{None, Result}
use Rattle.std.specs.BTreeMap.{get_by_text}
use Rattle.std.specs.BTreeSet.{contains_text}
use Rattle.shx_term.specs.Pool.{Pooled}
use Rattle.shx_term.specs.ValidTriples.{IsValidTermTriple}
use Rattle.shx_term.specs.Vocabulary.{HasVocabulary}
use Rattle.ttl_meaning.specs.declared.reader_state.ReaderState.{ReaderState}
use Rattle.ttl_meaning.specs.declared.fault.NoTerm.{NoTerm}
use Rattle.ttl_meaning.specs.declared.fault.TermFaultKind.{TermFaultKind}
use Rattle.ttl_meaning.specs.inner.Meant.{IsMeant}
use Rattle.ttl_meaning.specs.inner.Placed.{AreContexts}
use Rattle.ttl_meaning.specs.State.{State}
use Rattle.ttl_meaning.specs.Terms.{namespace_of}
use Rattle.ttl_meaning.specs.IsStated.{Bounds, IsStated}

-- all of a state
pub record Keeps (bounds : Bounds) (s : State) (reading : ReaderState) (pool : Pooled) : Type 0 where
  pub fault : reading.fault ≡ s.fault
  pub scope : reading.scope ≡ s.scope
  pub base : reading.base ≡ s.base
  pub prefixes : (name : List ℕ) → get_by_text reading.prefixes name ≡ namespace_of name s.prefixes
  pub labels : (label : List ℕ) → (contains_text reading.labels label ≡ true) ↔ Contains s.labels label
  pub next : reading.next ≡ s.next
  pub contexts : AreContexts pool.terms (reverse reading.contexts.items) s.contexts
  pub held : string_bytes reading.held ≡ s.held
  pub held_at : reading.held_at ≡ s.held_at
  pub stated : IsStated bounds s.triples reading.stated pool
  pub valid : All IsValidTermTriple s.triples
  pub vocabulary : HasVocabulary pool.terms

-- the state of a reading; behind a fault nothing but the fault is kept
pub record IsReading (bounds : Bounds) (s : State) (reading : ReaderState) (pool : Pooled) : Type 0 where
  pub fault : reading.fault ≡ s.fault
  pub keeps : s.fault ≡ None → Keeps bounds s reading pool

-- ---- what a call does to whatever state was kept

abbrev pub Does : (State → State) → ReaderState → Pooled → ReaderState → Pooled → Type 0
Does act r p r' p' =
    (bounds : Bounds) (s : State) → IsReading bounds s r p → IsReading bounds (act s) r' p'

-- the same, where there was no fault
abbrev pub DoesSound : (State → State) → ReaderState → Pooled → ReaderState → Pooled → Type 0
DoesSound act r p r' p' =
    (bounds : Bounds) (s : State) → s.fault ≡ None → Keeps bounds s r p → IsReading bounds (act s) r' p'

-- the same, where all is kept
abbrev pub KeepsOn : (State → State) → ReaderState → Pooled → ReaderState → Pooled → Type 0
KeepsOn act r p r' p' = (bounds : Bounds) (s : State) → Keeps bounds s r p → Keeps bounds (act s) r' p'

-- what a call finds for whatever state is kept
abbrev pub Finds : (State → Result (List ℕ) TermFaultKind) → ReaderState → Result (List ℕ) NoTerm → Type 0
Finds meant r result =
    (bounds : Bounds) (s : State) (p : Pooled) → Keeps bounds s r p → IsMeant (meant s) result
