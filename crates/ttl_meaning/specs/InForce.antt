-- What is in force at the end of a document, and its blank nodes.
use Rattle.std.specs.Prelude.{◌≡◌, ℕ, ◌≤◌, List, map, Contains, Result, Ok, Err}
use Rattle.shx_term.specs.declared.term.BlankName.{BlankName}
use Rattle.shx_term.specs.declared.term.LocalName.{LocalName}
use Rattle.shx_term.specs.declared.term.LocalName.TheVariants.{Labelled, Anonymous}
use Rattle.shx_term.specs.declared.term.Scope.TheVariants.{Data}
use Rattle.shx_term.specs.declared.term.Term.{Term}
use Rattle.shx_term.specs.declared.term.Term.TheVariants.{Blank}
use Rattle.shx_term.specs.Spelling.{spelling_of}
use Rattle.ttl_meaning.specs.declared.document.Document.{Document}
use Rattle.ttl_meaning.specs.declared.document.Prefix.{Prefix}
use Rattle.ttl_meaning.specs.declared.fault.NoNode.{NoNode}
use Rattle.ttl_meaning.specs.declared.fault.NoNode.TheVariants.{Unknown, Memory}
use Rattle.ttl_meaning.specs.State.{State, Binding, first_state}

-- ---- the base and the prefixes

abbrev pub binding : Prefix → Binding
binding prefix = record { name = prefix.name; iri = prefix.iri }

abbrev pub in_force : Document → State
in_force document =
    record (first_state Data document.base) { prefixes = map binding document.prefixes.items }

-- ---- the blank nodes, as those of a data text

abbrev pub HasName : Document → LocalName → Type 0
HasName document (Labelled label) = Contains document.labels.items label
HasName document (Anonymous number) = (1 ≤ number) × (number ≤ document.anonymous)

abbrev pub HasNode : Document → BlankName → Type 0
HasNode document node = (node.scope ≡ Data) × HasName document node.name

-- the one of these nodes that is spelled so, or that there is none
abbrev pub IsCalled : (BlankName → Type 0) → List ℕ → Result Term NoNode → Type 0
IsCalled Is name (Ok term) =
    (node : BlankName) × Is node × (spelling_of (Blank node) ≡ name) × (term ≡ Blank node)
IsCalled Is name (Err Unknown) = (node : BlankName) → Is node → spelling_of (Blank node) ≡ name → ⊥
IsCalled Is name (Err Memory) = Unit

abbrev pub IsNodeCalled : Document → List ℕ → Result Term NoNode → Type 0
IsNodeCalled document = IsCalled (HasNode document)
