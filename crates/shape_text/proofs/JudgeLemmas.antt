-- Why a shapes text is refused whose shapes make no plan.
use Rattle.std.proofs.Common.{◌≡◌, ℕ, List}
use Rattle.shx_outside.specs.Outside.{PatternState}
use Rattle.shx_term.specs.declared.limits.Limits.{Limits}
use Rattle.shx_term.specs.declared.term.Scope.TheVariants.{Shapes}
use Rattle.shx_term.specs.Pool.{Pooled}
use Rattle.shx_term.specs.Vocabulary.{vocabulary}
use Rattle.graph_view.specs.Graph.{Graph}
use Rattle.graph_view.specs.SameGraph.{SameGraph}
use Rattle.ttl_meaning.specs.State.{State}
use Rattle.shape_text.specs.declared.refusal.Refusal.{Refusal}
use Rattle.shape_text.specs.declared.refusal.Refusal.TheVariants.{Text, Cut}
use Rattle.shape_text.specs.Judging.{IsUnplanned, RefusesShapes}
use Rattle.shape_text.specs.Unopened.{beside}
use Rattle.shape_text.specs.TextReadings.{States, IsReadAs, stated_graph}
use Rattle.shape_text.proofs.VerdictLemmas.{StopsAs-same}

module _ (limits : Limits) (base text : List ℕ) (pool : Pooled) where
  -- its shapes make no plan
  pub shapes_unplanned : (before after : PatternState) (refusal : Refusal) (document g : Graph) (end : State)
      → IsReadAs limits base Shapes vocabulary text (States document end) → pool.terms ≡ document.terms
      → SameGraph (stated_graph document) g → IsUnplanned limits g before after refusal
      → RefusesShapes limits base text before after (beside pool refusal)
  shapes_unplanned before after (Text answer) document g end read terms same unplanned = (
    States document end,
    read,
    (terms, StopsAs-same limits (stated_graph document) g same before after answer unplanned),
  )
  shapes_unplanned before after (Cut stop) document g end read terms same unplanned = tt
