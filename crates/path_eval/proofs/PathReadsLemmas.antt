-- What is read for a path is what its reads are as a relation.
use Rattle.std.specs.Prelude.{ℕ, [], flat_map, length, Contains, ◌↔◌, ◌⊎◌}
use Rattle.shx_term.proofs.MemberLemmas.{none_in_empty, Contains-one}
use Rattle.graph_view.specs.declared.key.Key.{Key}
use Rattle.graph_view.specs.Graph.{Graph, AllKnown}
use Rattle.path_eval.specs.declared.direction.Direction.{Direction}
use Rattle.path_eval.specs.declared.direction.Direction.TheVariants.{Forward, Backward}
use Rattle.shx_term.specs.Chains.{Chain}
use Rattle.path_eval.specs.Relation.{PathRelates, PathReads, Reaches, opposite, step_key}
use Rattle.path_eval.specs.Route.{Route, along, here, first_then, none, one_or_other, turned, any_times}
use Rattle.path_eval.specs.Route.{some_times, perhaps}
use Rattle.path_eval.specs.Values.{path_reads}
use Rattle.path_eval.specs.Way.{Way, way, then_by, closed}
use Rattle.path_eval.proofs.FlatMapLemmas.{append_told, flat_map_told}
use Rattle.path_eval.proofs.MeetsLemmas.{Meets, path_meets, closed_reaches}

none_read : (k : Key) → Contains [] k ↔ ⊥
none_read k = (λ c. none_in_empty k c, λ h. absurd h)

-- of one way and then another, where the first leads as R
read_then : (count : ℕ) (R : ℕ → ℕ → Type 0) (a b : Way) (P : Type 0) (Q : ℕ → Type 0) (x : ℕ) (k : Key)
    → Meets count a R → Contains (a.reads x) k ↔ P → ((z : ℕ) → Contains (b.reads z) k ↔ Q z)
    → Contains ((then_by a b).reads x) k ↔ (P ⊎ ((z : ℕ) × R x z × Q z))
read_then count R a b P Q x k meets first second =
    append_told (a.reads x) (flat_map b.reads (a.to x)) k first
    (flat_map_told b.reads (a.to x) k (meets.leads x) second)

module _ (g : Graph) (known : AllKnown g) where
  -- of a way that is repeated: its reads at each node that it leads to, the start with them
  read_repeated : (d : Direction) (a : Route) (Q : ℕ → Type 0) (x : ℕ) (k : Key)
      → ((z : ℕ) → Contains ((way g d a).reads z) k ↔ Q z)
      → Contains ((closed (length g.terms) (way g d a)).reads x) k
      ↔ ((z : ℕ) × Reaches d (Chain (PathRelates g.triples a)) x z × Q z)
  read_repeated d a Q x k each =
      let inner = way g d a in
      let chains =
      closed_reaches (length g.terms) (PathRelates g.triples a) d inner (path_meets g known d a) in
      flat_map_told inner.reads ((closed (length g.terms) inner).to x) k (chains.leads x) each

  pub path_reads_are : (d : Direction) (route : Route) (x : ℕ) (k : Key)
      → Contains (path_reads g d route x) k ↔ PathReads g.triples d route x k
  path_reads_are d (along p) x k = Contains-one (step_key d p x) k
  path_reads_are d here x k = none_read k
  path_reads_are Forward (first_then a b) x k =
      read_then (length g.terms) (PathRelates g.triples a) (way g Forward a) (way g Forward b)
      (PathReads g.triples Forward a x k) (λ z. PathReads g.triples Forward b z k) x k
      (path_meets g known Forward a) (path_reads_are Forward a x k) (λ z. path_reads_are Forward b z k)
  path_reads_are Backward (first_then a b) x k =
      read_then (length g.terms) (λ u v. PathRelates g.triples b v u) (way g Backward b) (way g Backward a)
      (PathReads g.triples Backward b x k) (λ z. PathReads g.triples Backward a z k) x k
      (path_meets g known Backward b) (path_reads_are Backward b x k) (λ z. path_reads_are Backward a z k)
  path_reads_are d none x k = none_read k
  path_reads_are d (one_or_other a b) x k =
      append_told ((way g d a).reads x) ((way g d b).reads x) k
      (path_reads_are d a x k) (path_reads_are d b x k)
  path_reads_are d (turned a) x k = path_reads_are (opposite d) a x k
  path_reads_are d (any_times a) x k =
      read_repeated d a (λ z. PathReads g.triples d a z k) x k (λ z. path_reads_are d a z k)
  path_reads_are d (some_times a) x k =
      read_repeated d a (λ z. PathReads g.triples d a z k) x k (λ z. path_reads_are d a z k)
  path_reads_are d (perhaps a) x k = path_reads_are d a x k
