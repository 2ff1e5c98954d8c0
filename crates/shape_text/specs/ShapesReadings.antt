-- What the shapes of a text come to, as the text is read.
use Rattle.std.specs.Prelude.{◌≡◌, ℕ, false, List, Option, None, Some, IfSome}
use Rattle.shx_outside.specs.declared.flags.Flags.{Flags}
use Rattle.shx_outside.specs.Outside.{FlaggedText}
use Rattle.shx_term.specs.declared.limits.Limits.{Limits}
use Rattle.shx_term.specs.declared.term.Scope.TheVariants.{Shapes}
use Rattle.shx_term.specs.Vocabulary.{vocabulary}
use Rattle.graph_view.specs.Graph.{Graph}
use Rattle.ttl_meaning.specs.State.{State}
use Rattle.shape_decl.specs.Declarations.{declarations}
use Rattle.shape_compile.specs.Patterns.{AreAdmitted}
use Rattle.shape_text.specs.TextReadings.{TextReading, States, Faulty, Long, IsReadAs, stated_graph}
use Rattle.shape_text.specs.Verdict.{Verdict, IsRefusedAt, IsVerdict, plans, refuses_pattern, stops}

-- the shapes text, where it is told, is read so
abbrev pub ShapesAreRead : Limits → List ℕ → TextReading → Option (List ℕ) → Type 0
ShapesAreRead limits base reading text =
    IfSome text (λ bytes. IsReadAs limits base Shapes vocabulary bytes reading)

-- the shapes that are stated come to this; where none are, no pattern is refused
abbrev pub ComeTo : Limits → TextReading → Verdict → Type 0
ComeTo limits (States document end) verdict = IsVerdict limits (stated_graph document) verdict
ComeTo limits (Faulty code at) verdict = refuses_pattern verdict ≡ false
ComeTo limits Long verdict = refuses_pattern verdict ≡ false

-- and so do those of a text, where it is told
abbrev pub AreJudged : Limits → TextReading → Option (List ℕ) → Verdict → Type 0
AreJudged limits reading text verdict = IfSome text (λ bytes. ComeTo limits reading verdict)

-- they have a plan
abbrev pub HavePlan : TextReading → Verdict → Type 0
HavePlan (States document end) (plans plan) = Unit {0}
HavePlan reading verdict = ⊥

-- where a pattern of them was refused, it is the one that the host refused last
abbrev pub IsRefusedIn : Limits → TextReading → Verdict → Option FlaggedText → Type 0
IsRefusedIn limits (States document end) (stops obstacle) last =
    IsRefusedAt limits (stated_graph document) obstacle last
IsRefusedIn limits reading verdict last = Unit {0}

-- each pattern of the shapes text may be built with the flags of its shape; where the text is not told, each
-- text may be
abbrev pub PatternsAreAdmitted : Limits → List ℕ → Option (List ℕ) → (Flags → List ℕ → Type 0) → Type 0
PatternsAreAdmitted limits base None admits = (flags : Flags) (text : List ℕ) → admits flags text
PatternsAreAdmitted limits base (Some bytes) admits =
    (document : Graph) (end : State)
    → IsReadAs limits base Shapes vocabulary bytes (States document end)
    → AreAdmitted admits document.terms (declarations limits (stated_graph document))
