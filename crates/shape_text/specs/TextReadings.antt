-- What a text is read as: what it states over the numbers of its terms, or its fault.
use Rattle.std.specs.Prelude.{◌≡◌, ℕ, ◌<◌, ◌≤◌, List, length}
use Rattle.shx_term.specs.declared.limits.Limits.{Limits}
use Rattle.shx_term.specs.declared.term.Scope.{Scope}
use Rattle.shx_term.specs.declared.term.Term.{Term}
use Rattle.shx_term.specs.declared.triple.TermTriple.{TermTriple}
use Rattle.shx_term.specs.Pool.{with_terms}
use Rattle.shx_term.specs.TripleTerms.{terms_of, numbered_all}
use Rattle.graph_view.specs.Graph.{Graph, AllKnown, graph_of}
use Rattle.ttl_meaning.specs.State.{State}
use Rattle.ttl_read.specs.Documents.{Setting, setting}
use Rattle.ttl_read.specs.Unique.{IsOneDocument, IsOneFault}

-- a document: its graph, and the state at its end, with the base, the prefixes and the blank nodes that hold
-- for what is read behind it; or a fault: its code, and the byte at which it stands; or a text that is longer
-- than it may be
pub data TextReading : Type 0 where
  States : Graph → State → TextReading
  Faulty : ℕ → ℕ → TextReading
  Long : TextReading

-- triples over the numbers of their terms, where these terms are held
abbrev pub numbered_from : List Term → List TermTriple → Graph
numbered_from held triples =
    let terms = with_terms held (terms_of triples) in
    record { terms = terms; triples = numbered_all terms triples }

-- a text as it is read where these terms are held, of as many as there may be
abbrev pub setting_of : Limits → List Term → List ℕ → Setting
setting_of limits held text = setting text limits (record { terms = held; limit = limits.terms })

-- a text is read so over a base, where these terms are held: it is a document of Turtle, or has this fault;
-- one that is longer than it may be is not looked at
abbrev pub IsReadAs : Limits → List ℕ → Scope → List Term → List ℕ → TextReading → Type 0
IsReadAs limits base scope held text (States document end) =
    (length text ≤ limits.text)
    × IsOneDocument (setting_of limits held text) scope base end
    × (document ≡ numbered_from held end.triples)
IsReadAs limits base scope held text (Faulty code at) =
    (length text ≤ limits.text) × IsOneFault (setting_of limits held text) scope base code at
IsReadAs limits base scope held text Long = limits.text < length text

-- the triples of a document, each once
abbrev pub stated_graph : Graph → Graph
stated_graph document = graph_of document.terms document.triples

-- every number has a term, and there are no more triples than this
pub record IsKnownDocument (most : ℕ) (document : Graph) : Type 0 where
  pub known : AllKnown document
  pub few : length document.triples ≤ most
