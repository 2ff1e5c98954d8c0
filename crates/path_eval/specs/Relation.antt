-- Which nodes a path relates (SHACL, section 2.3.1; SPARQL 1.1, sections 9.3 and 9.4), and what is read to
-- find them.
use Rattle.std.specs.Prelude.{◌≡◌, ℕ, List, Contains, ◌⊎◌}
use Rattle.shx_term.specs.Chains.{Chain, Longer}
use Rattle.shx_term.specs.declared.triple.Triple.{Triple}
use Rattle.graph_view.specs.declared.key.Key.{Key}
use Rattle.graph_view.specs.declared.key.Key.TheVariants.{Out, In}
use Rattle.path_eval.specs.declared.direction.Direction.{Direction}
use Rattle.path_eval.specs.declared.direction.Direction.TheVariants.{Forward, Backward}
use Rattle.path_eval.specs.Route.{Route, along, here, first_then, none, one_or_other, turned, any_times}
use Rattle.path_eval.specs.Route.{some_times, perhaps}

-- ---- what a path relates

abbrev pub PathRelates : List Triple → Route → ℕ → ℕ → Type 0
PathRelates ts (along p) x y = Contains ts (record { s = x; p = p; o = y })
PathRelates ts here x y = x ≡ y
PathRelates ts (first_then a b) x y = (z : ℕ) × PathRelates ts a x z × PathRelates ts b z y
PathRelates ts none x y = ⊥
PathRelates ts (one_or_other a b) x y = PathRelates ts a x y ⊎ PathRelates ts b x y
PathRelates ts (turned a) x y = PathRelates ts a y x
PathRelates ts (any_times a) x y = Chain (PathRelates ts a) x y
PathRelates ts (some_times a) x y = Longer (PathRelates ts a) x y
PathRelates ts (perhaps a) x y = (x ≡ y) ⊎ PathRelates ts a x y

-- ---- in a direction

abbrev pub opposite : Direction → Direction
opposite Forward = Backward
opposite Backward = Forward

-- the first forward, the second backward
abbrev pub pick {ℓ} : {X : Type ℓ} → Direction → X → X → X
pick Forward a b = a
pick Backward a b = b

-- y is reached from x: as the relation has it, or from its end
abbrev pub Reaches : Direction → (ℕ → ℕ → Type 0) → ℕ → ℕ → Type 0
Reaches Forward R x y = R x y
Reaches Backward R x y = R y x

-- the key of a step
abbrev pub step_key : Direction → ℕ → ℕ → Key
step_key Forward p x = Out x p
step_key Backward p x = In p x

-- ---- what is read

-- following the path from x reads the key: of a sequence, its parts from wherever the parts before lead; of
-- a closure, its path from wherever it leads in no step or more
abbrev pub PathReads : List Triple → Direction → Route → ℕ → Key → Type 0
PathReads ts d (along p) x k = k ≡ step_key d p x
PathReads ts d here x k = ⊥
PathReads ts d (first_then a b) x k =
    pick d
    (PathReads ts d a x k ⊎ ((z : ℕ) × PathRelates ts a x z × PathReads ts d b z k))
    (PathReads ts d b x k ⊎ ((z : ℕ) × PathRelates ts b z x × PathReads ts d a z k))
PathReads ts d none x k = ⊥
PathReads ts d (one_or_other a b) x k = PathReads ts d a x k ⊎ PathReads ts d b x k
PathReads ts d (turned a) x k = PathReads ts (opposite d) a x k
PathReads ts d (any_times a) x k = (z : ℕ) × Reaches d (Chain (PathRelates ts a)) x z × PathReads ts d a z k
PathReads ts d (some_times a) x k = (z : ℕ) × Reaches d (Chain (PathRelates ts a)) x z × PathReads ts d a z k
PathReads ts d (perhaps a) x k = PathReads ts d a x k
