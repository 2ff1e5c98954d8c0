-- What is made of what a text states.
use Rattle.std.specs.Prelude.{ℕ, List, All}
use Rattle.shx_outside.specs.declared.role.Role.{Role}
use Rattle.shx_outside.specs.declared.role.Role.TheVariants.{Shapes as of_shapes, Data as of_data}
use Rattle.shx_term.specs.declared.limits.Limits.{Limits}
use Rattle.shx_term.specs.declared.term.Scope.{Scope}
use Rattle.shx_term.specs.declared.term.Scope.TheVariants.{Shapes, Data}
use Rattle.shx_term.specs.declared.term.Term.{Term}
use Rattle.shx_term.specs.ValidTriples.{IsNotWide}
use Rattle.ttl_meaning.specs.declared.document.Document.{Document}
use Rattle.ttl_meaning.specs.State.{State}
use Rattle.shape_text.specs.TextReadings.{States, IsReadAs}
use Rattle.shape_text.specs.Names.{HasNamesOf}

-- what a text is read for whose blank nodes have this scope
abbrev pub role_of : Scope → Role
role_of Data = of_data
role_of Shapes = of_shapes

-- the text is read as these triples, and the document has the names of the state at its end
abbrev pub StatesDocument : Limits → List ℕ → Scope → List Term → List ℕ → List Term → Document → Type 0
StatesDocument limits base scope held text terms document =
    (end : State)
    × IsReadAs limits base scope held text
    (States (record { terms = terms; triples = document.triples.items }) end)
    × HasNamesOf end document

-- no literal is wide
abbrev pub HasNoWide : List Term → Type 0
HasNoWide terms = All IsNotWide terms
