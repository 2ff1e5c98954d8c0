-- What is noted of a constraint that is checked behind others.
use Rattle.std.specs.Prelude.{◌≡◌, ◌⊎◌, ℕ, Bool, true, List}
use Rattle.graph_view.specs.declared.key.Key.{Key}
use Rattle.graph_view.specs.Graph.{Graph}
use Rattle.comp_core.specs.declared.pair.At.{At}
use Rattle.comp_core.specs.declared.pair.Pair.{Pair}
use Rattle.value_components.specs.Class.{class_reads}
use Rattle.shape_eval.specs.declared.constraint.Constraint.{Constraint}
use Rattle.shape_eval.specs.Constraint.{constraint_reads}

-- a constraint reads at value nodes what any parameter of sh:class reads there
pub record ReadsAsClass (g : Graph) (c : Constraint) : Type 0 where
  pub each : (r : Pair → List Key) (at : At) (vs : List ℕ) → constraint_reads c g r at vs ≡ class_reads g vs

-- the keys are noted; or nothing more is, since they are those of classes, which were noted before
abbrev pub NotesUnlessClass : {N : Type 0} → (N → N → List Key → Type 0) → N → N → Bool → List Key
    → List Key → Type 0
NotesUnlessClass notes old new noted keys class_keys =
    notes old new keys ⊎ ((noted ≡ true) × ((new ≡ old) × (keys ≡ class_keys)))
