-- The parts of a renewal, and what each step of gathering them does.
use Rattle.std.specs.Prelude.{◌≡◌, ℕ, nat_eq, not, List, [], ◌∷◌, ◌++◌, map, filter, flat_map, All, Contains}
use Rattle.std.specs.Prelude.{MatchOption, None, Option, Some}
use Rattle.std.specs.List.{IsDistinct}
use Rattle.std.specs.Option.{option_to_list}
use Rattle.shx_term.specs.Members.{Adds, SameMembers}
use Rattle.graph_view.specs.declared.key.Key.{Key}
use Rattle.graph_view.specs.Graph.{Graph}
use Rattle.comp_core.specs.declared.pair.Pair.{Pair}
use Rattle.comp_core.specs.Pairs.{same_pair}
use Rattle.shape_eval.specs.declared.shape.PlanShape.{PlanShape}
use Rattle.shape_eval.specs.Report.{at_shape}
use Rattle.shape_eval.specs.Targets.{target_nodes, target_reads}
use Rattle.read_records.specs.declared.reader.Reader.{Reader}
use Rattle.read_records.specs.declared.reader.Reader.TheVariants.{OfPair, OfTarget}
use Rattle.edit_engine.specs.declared.renewal.Evaluated.{Evaluated}
use Rattle.edit_engine.specs.declared.renewal.Renewal.{Renewal}
use Rattle.edit_engine.specs.declared.renewal.TargetReads.{TargetReads}
use Rattle.edit_engine.specs.Pairs.{pairs_of}
use Rattle.edit_engine.specs.Renewal.{IsDifference, IsReadNow, IsRight, pairs_evaluated, shapes_renewed}
use Rattle.edit_engine.specs.Touched.{is_among_pairs}

-- ---- readers

abbrev pub reader_pairs : Reader → List Pair
reader_pairs (OfTarget n) = []
reader_pairs (OfPair p) = p ∷ []

abbrev pub reader_targets : Reader → List ℕ
reader_targets (OfTarget n) = n ∷ []
reader_targets (OfPair p) = []

-- the pairs among some readers that are not leaving
abbrev pub pairs_staying : List Reader → List Pair → List Pair
pairs_staying readers leaving = filter (λ p. not (is_among_pairs leaving p)) (flat_map reader_pairs readers)

abbrev pub targets_among : List Reader → List ℕ
targets_among readers = flat_map reader_targets readers

abbrev pub reads_renewed : ℕ → Option (List Key) → Option TargetReads
reads_renewed n None = None
reads_renewed n (Some keys) = Some (record { shape = n; reads = keys })

-- ---- steps

-- nothing is to be kept
pub record IsEmptyRenewal (renewal : Renewal) : Type 0 where
  pub targets : renewal.targets.items ≡ []
  pub entering : renewal.entering.items ≡ []
  pub leaving : renewal.leaving.keys ≡ []
  pub evaluated : renewal.evaluated.items ≡ []

-- nothing changed but what was evaluated
pub record SameTargets (old new : Renewal) : Type 0 where
  pub targets : new.targets.items ≡ old.targets.items
  pub entering : new.entering.items ≡ old.entering.items
  pub leaving : new.leaving.keys ≡ old.leaving.keys

-- nothing changed but what enters
pub record OnlyEnters (old new : Renewal) : Type 0 where
  pub targets : new.targets.items ≡ old.targets.items
  pub leaving : new.leaving.keys ≡ old.leaving.keys
  pub evaluated : new.evaluated.items ≡ old.evaluated.items

-- nothing changed but what leaves
pub record OnlyLeaves (old new : Renewal) : Type 0 where
  pub targets : new.targets.items ≡ old.targets.items
  pub entering : new.entering.items ≡ old.entering.items
  pub evaluated : new.evaluated.items ≡ old.evaluated.items

-- nothing changed but what is read for targets
pub record OnlyRenews (old new : Renewal) : Type 0 where
  pub entering : new.entering.items ≡ old.entering.items
  pub leaving : new.leaving.keys ≡ old.leaving.keys
  pub evaluated : new.evaluated.items ≡ old.evaluated.items

-- these pairs leave beside those before, each once
pub record AlsoLeave (ps : List Pair) (old new : List Pair) : Type 0 where
  pub adds : Adds old new ps
  pub once : IsDistinct same_pair old → IsDistinct same_pair new

-- these pairs were evaluated beside those before, in turn
pub record Evaluates (shapes : List PlanShape) (g : Graph) (old new : List Evaluated)
    (ps : List Pair) : Type 0 where
  pub more : List Evaluated
  pub new_is : new ≡ old ++ more
  pub pairs : pairs_evaluated more ≡ ps
  pub right : All (IsRight shapes g) more

-- these targets, all of whose nodes enter, and nothing else
pub record OpensTargets (shapes : List PlanShape) (g : Graph) (ns : List ℕ) (renewal : Renewal) : Type 0 where
  pub targets : shapes_renewed renewal.targets.items ≡ ns
  pub reads : All (IsReadNow shapes g) renewal.targets.items
  pub entering : renewal.entering.items ≡ pairs_of shapes ns g
  pub leaving : renewal.leaving.keys ≡ []
  pub evaluated : renewal.evaluated.items ≡ []

-- one target more, all of whose nodes enter
pub record OpensTarget (shapes : List PlanShape) (g : Graph) (n : ℕ) (old new : Renewal) : Type 0 where
  pub opened : TargetReads
  pub shape : opened.shape ≡ n
  pub right : IsReadNow shapes g opened
  pub targets : new.targets.items ≡ old.targets.items ++ opened ∷ []
  pub entering : new.entering.items ≡ old.entering.items ++ map (at_shape n) (target_nodes shapes g n)
  pub leaving : new.leaving.keys ≡ old.leaving.keys
  pub evaluated : new.evaluated.items ≡ old.evaluated.items

-- one target more, from one graph to another: what it reads now, or it reads the same
pub record RenewsRead (shapes : List PlanShape) (g h : Graph) (n : ℕ) (old new : List TargetReads)
    : Type 0 where
  pub renewed : Option TargetReads
  pub new_is : new ≡ old ++ option_to_list renewed
  pub right : MatchOption renewed (SameMembers (target_reads shapes g n) (target_reads shapes h n))
      (λ target. (target.shape ≡ n) × IsReadNow shapes h target)

-- and what enters it, and what leaves it
pub record RenewsTarget (shapes : List PlanShape) (g h : Graph) (n : ℕ) (old new : Renewal) : Type 0 where
  pub reads : RenewsRead shapes g h n old.targets.items new.targets.items
  pub entered : List ℕ
  pub enters : IsDifference nat_eq (target_nodes shapes h n) (target_nodes shapes g n) entered
  pub entering : new.entering.items ≡ old.entering.items ++ map (at_shape n) entered
  pub left : List ℕ
  pub leaves : IsDifference nat_eq (target_nodes shapes g n) (target_nodes shapes h n) left
  pub leaving : AlsoLeave (map (at_shape n) left) old.leaving.keys new.leaving.keys

-- of these targets some are renewed, each once, and the others read the same
pub record RenewsReads (shapes : List PlanShape) (g h : Graph) (ns : List ℕ)
    (targets : List TargetReads) : Type 0 where
  pub among : All (Contains ns) (shapes_renewed targets)
  pub once : IsDistinct nat_eq (shapes_renewed targets)
  pub now : All (IsReadNow shapes h) targets
  pub others : (n : ℕ) → Contains ns n → (Contains (shapes_renewed targets) n → ⊥)
      → SameMembers (target_reads shapes g n) (target_reads shapes h n)

-- the renewal of these targets, from one graph to another
pub record RenewsTargets (shapes : List PlanShape) (g h : Graph) (ns : List ℕ)
    (renewal : Renewal) : Type 0 where
  pub reads : RenewsReads shapes g h ns renewal.targets.items
  pub entering : IsDifference same_pair (pairs_of shapes ns h) (pairs_of shapes ns g) renewal.entering.items
  pub leaving : IsDifference same_pair (pairs_of shapes ns g) (pairs_of shapes ns h) renewal.leaving.keys
