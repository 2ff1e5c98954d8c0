-- What a reader of Turtle knows at a place (Turtle 1.1, section 7.1), and what it has read.
use Rattle.std.specs.Prelude.{ℕ, List, [], ◌∷◌, ◌++◌, Option, Some, None, is_some}
use Rattle.std.specs.Prelude.{if◌then◌else◌}
use Rattle.shx_term.specs.declared.term.BlankName.{BlankName}
use Rattle.shx_term.specs.declared.term.Term.{Term}
use Rattle.shx_term.specs.declared.term.Term.TheVariants.{Iri, Blank}
use Rattle.shx_term.specs.declared.term.Scope.{Scope}
use Rattle.shx_term.specs.declared.triple.TermTriple.{TermTriple}
use Rattle.ttl_meaning.specs.declared.fault.TermFault.{TermFault}

-- a prefix, and the namespace that it stands for
pub record Binding : Type 0 where
  pub name : List ℕ
  pub iri : List ℕ

-- what a triple may speak of: an IRI or a blank node
pub data Subject : Type 0 where
  AnIri : List ℕ → Subject
  ABlank : BlankName → Subject

abbrev pub subject_term : Subject → Term
subject_term (AnIri iri) = Iri iri
subject_term (ABlank name) = Blank name

-- what the next term belongs to: to nothing yet, to a subject that waits for its verb, or to a subject and
-- a verb, which is an IRI
pub data Context : Type 0 where
  Open : Context
  About : Subject → Context
  Of : Subject → List ℕ → Context

pub record State : Type 0 where
  -- which text it is
  pub scope : Scope
  -- the base in force, and the prefixes, the latest first
  pub base : List ℕ
  pub prefixes : List Binding
  -- the labels of blank nodes so far, and the number of the next anonymous one
  pub labels : List (List ℕ)
  pub next : ℕ
  -- the innermost first
  pub contexts : List Context
  -- what a string or the name in a directive has said, and where it began
  pub held : List ℕ
  pub held_at : ℕ
  -- in the order in which their objects begin
  pub triples : List TermTriple
  -- of the terms so far, the first that has a fault
  pub fault : Option TermFault

-- behind a term with a fault nothing more is read
abbrev pub unless_fault : (State → State) → State → State
unless_fault act s = if is_some s.fault then s else act s

abbrev pub blame : TermFault → State → State
blame fault s = record s { fault = Some fault }

-- ---- contexts

-- the triple that a term makes in a context
abbrev pub triple_in : Term → Context → List TermTriple
triple_in object Open = []
triple_in object (About subject) = []
triple_in object (Of subject verb) = record { s = subject_term subject; p = Iri verb; o = object } ∷ []

-- what a context is behind an IRI or a blank node
abbrev pub behind_node : Subject → Context → Context
behind_node node Open = About node
behind_node node (About subject) = About subject
behind_node node (Of subject verb) = Of subject verb

-- an IRI or a blank node stands in the innermost context
abbrev pub put_in : Subject → List Context → State → State
put_in node [] s = s
put_in node (context ∷ outer) s = record s {
  contexts = behind_node node context ∷ outer;
  triples = s.triples ++ triple_in (subject_term node) context;
}

abbrev pub put : Subject → State → State
put node s = put_in node s.contexts s

-- a literal stands there: it is an object, and never a subject
abbrev pub put_object_in : Term → List Context → State → State
put_object_in literal [] s = s
put_object_in literal (context ∷ outer) s = record s { triples = s.triples ++ triple_in literal context }

abbrev pub put_object : Term → State → State
put_object literal s = put_object_in literal s.contexts s

-- a context goes on with this verb
abbrev pub goes_on_with : List ℕ → Context → Context
goes_on_with verb Open = Open
goes_on_with verb (About subject) = Of subject verb
goes_on_with verb (Of subject other) = Of subject verb

abbrev pub with_verb : List ℕ → List Context → List Context
with_verb verb [] = []
with_verb verb (context ∷ outer) = goes_on_with verb context ∷ outer

abbrev pub begin_verb : List ℕ → State → State
begin_verb verb s = record s { contexts = with_verb verb s.contexts }

abbrev pub without_first : List Context → List Context
without_first [] = []
without_first (c ∷ outer) = outer

abbrev pub leave : State → State
leave s = record s { contexts = without_first s.contexts }

abbrev pub enter : Context → State → State
enter context s = record s { contexts = context ∷ s.contexts }

-- ---- the first state of a text

abbrev pub first_state : Scope → List ℕ → State
first_state scope base = record {
  scope = scope;
  base = base;
  prefixes = [];
  labels = [];
  next = 1;
  contexts = [];
  held = [];
  held_at = 0;
  triples = [];
  fault = None;
}
