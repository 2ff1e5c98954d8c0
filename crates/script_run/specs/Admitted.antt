-- Which texts of shapes the lines of a script may load, and that these may be opened and their patterns
-- built.
use Rattle.std.specs.Prelude.{ℕ, Contains, List, Option, Some, None, Ok}
use Rattle.shx_outside.specs.declared.flags.Flags.{Flags}
use Rattle.shx_term.specs.declared.limits.Limits.{Limits}
use Rattle.shx_term.specs.declared.term.Scope.TheVariants.{Shapes as of_shapes}
use Rattle.shx_term.specs.declared.term.Term.{Term}
use Rattle.shx_term.specs.Vocabulary.{vocabulary}
use Rattle.graph_view.specs.Graph.{Graph}
use Rattle.ttl_meaning.specs.declared.document.Document.{Document}
use Rattle.ttl_meaning.specs.State.{State}
use Rattle.shape_decl.specs.Declarations.{declarations}
use Rattle.shape_compile.specs.Patterns.{AreAdmitted as MayAllBeBuilt}
use Rattle.shape_text.specs.TextReadings.{States, IsReadAs, numbered_from, stated_graph}
use Rattle.script_lines.specs.declared.command.Command.{Command}
use Rattle.script_lines.specs.declared.command.Command.TheVariants.{Shapes}
use Rattle.script_lines.specs.Lines.{IsLineRead}
use Rattle.script_run.specs.Loaded.{Library}

-- one of the lines loads the text of this name, whatever data text stands before it
pub record LoadsText (limits : Limits) (lines : List (List ℕ)) (name : List ℕ) : Type 0 where
  pub line : List ℕ
  pub stands : Contains lines line
  pub document : Document
  pub read : IsLineRead limits document line (Ok (Shapes name))

-- where the lines are not told, each text may be loaded
abbrev pub MayLoad : Limits → Option (List (List ℕ)) → List ℕ → Type 0
MayLoad limits None name = Unit {0}
MayLoad limits (Some lines) name = LoadsText limits lines name

-- each pattern of a text may be built with the flags of its shape, whatever terms were held before it; where
-- the text is not told, each pattern may be
abbrev pub MayBeBuilt : Limits → List ℕ → (Flags → List ℕ → Type 0) → Option (List ℕ) → Type 0
MayBeBuilt limits base builds None = (flags : Flags) (text : List ℕ) → builds flags text
MayBeBuilt limits base builds (Some bytes) =
    (document : Graph) (end : State)
    → IsReadAs limits base of_shapes vocabulary bytes (States document end)
    → (held : List Term)
    → MayAllBeBuilt builds (numbered_from held end.triples).terms
    (declarations limits (stated_graph (numbered_from held end.triples)))

-- a text may be opened, and its patterns built
pub record IsAdmitted (limits : Limits) (library : Library) (opens : List ℕ → Type 0)
    (builds : Flags → List ℕ → Type 0) (name : List ℕ) : Type 0 where
  pub opened : opens name
  pub built : MayBeBuilt limits library.base builds (library.text name)

-- and so may each that the lines may load
abbrev pub AreAdmitted : Limits → Library → (List ℕ → Type 0) → (Flags → List ℕ → Type 0)
    → Option (List (List ℕ)) → Type 0
AreAdmitted limits library opens builds lines =
    (name : List ℕ) → MayLoad limits lines name → IsAdmitted limits library opens builds name

-- ... or that a command loads
abbrev pub IsCommandAdmitted : Limits → Library → (List ℕ → Type 0) → (Flags → List ℕ → Type 0) → Command
    → Type 0
IsCommandAdmitted limits library opens builds (Shapes name) = IsAdmitted limits library opens builds name
IsCommandAdmitted limits library opens builds command = Unit {0}
