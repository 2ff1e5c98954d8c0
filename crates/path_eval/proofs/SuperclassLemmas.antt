-- The classes of a node are its types and the classes above each of them, and so is what is read for them.
use Rattle.std.specs.Prelude.{◌≡◌, ℕ, nat_eq, Bool, true, false, ◌||◌, ◌+◌, ◌<◌, if◌then◌else◌, List, [], ◌∷◌}
use Rattle.std.specs.Prelude.{◌++◌, flat_map, length, take, All, Contains, Some}
use Rattle.std.specs.Cmp.{nat_eq_equiv}
use Rattle.std.specs.List.{list_any}
use Rattle.std.specs.Map.{lookup}
use Rattle.std.proofs.Common.{refl, sym, ap, subst, ◌∙◌, inl, inr, get_or, append-nil}
use Rattle.std.proofs.lemmas.Bool.{eqb-true}
use Rattle.std.proofs.lemmas.Bool.Decides.{Decides-like, same_from_decides}
use Rattle.std.proofs.lemmas.List.Elements.{All-cons, All-head, All-tail, All-nil, All-contains}
use Rattle.std.proofs.lemmas.List.Folds.{list_any-append}
use Rattle.std.proofs.lemmas.Map.Views.{Contains-from_lookup}
use Rattle.indexmap.specs.IndexMap.{insert_entry}
use Rattle.shx_term.specs.Members.{Adds, SameMembers}
use Rattle.shx_term.specs.declared.vocabulary.TheConstants.{RDF_TYPE}
use Rattle.shx_term.proofs.IdOrderLemmas.{in_term_order_lists}
use Rattle.shx_term.proofs.MemberLemmas.{Contains-test, flat_map_agree, none_in_empty}
use Rattle.shx_term.proofs.SetLemmas.{Adds-same, Adds-then, SameMembers-is, SameMembers-parts}
use Rattle.shx_term.proofs.SetLemmas.{SameMembers-sym, SameMembers-then}
use Rattle.graph_view.specs.declared.key.Key.{Key}
use Rattle.graph_view.specs.Graph.{Graph}
use Rattle.path_eval.specs.declared.direction.Direction.TheVariants.{Forward}
use Rattle.path_eval.specs.declared.wider.Wider.{Wider}
use Rattle.path_eval.specs.Instances.{instance_route, is_instance}
use Rattle.path_eval.specs.Relation.{step_key}
use Rattle.path_eval.specs.Superclasses.{AreAllWider, AreClassesOf, AreWider, superclass_route}
use Rattle.path_eval.specs.Values.{nodes_reached, path_reads}
use Rattle.path_eval.specs.Way.{stay, step_to, way}
use Rattle.path_eval.specs.inner.Reached.{Joins}
use Rattle.path_eval.proofs.JoinLemmas.{flat_map-more}

-- what is added to nothing
pub SameMembers-added : {X : Type 0} (new more : List X) → Adds [] new more → SameMembers new more
SameMembers-added new more adds = record {
  each = λ x. (
    λ c. elim ((adds.each x).0 c) [ inl none ↦ absurd (none_in_empty x none) | inr added ↦ added ],
    λ c. (adds.each x).1 (inr c),
  );
}

-- what joins others adds what has their members
pub Joins-adds : {X : Type 0} (xs ys : List X) → SameMembers xs ys → {old new : List X} → Joins old xs new
    → Adds old new ys
Joins-adds xs ys same joins = Adds-same xs ys same (record { each = joins.each })

-- ---- entries of a map

module _ {W : Type 0} (P : ℕ × W → Type 0) where
  pub All-inserted : (es : List (ℕ × W)) (k : ℕ) (v : W) → All P es → P (k, v)
      → All P (insert_entry nat_eq es k v)
  All-inserted [] k v all new = All-cons P (k, v) [] new (All-nil P)
  All-inserted (e ∷ es) k v all new =
      let rest = All-tail P e es all in
      elim (nat_eq k e.0) as (λ b. nat_eq k e.0 ≡ b
      → All P (if b then (e.0, v) ∷ es else e ∷ insert_entry nat_eq es k v)) [
        | true ↦ λ same. All-cons P (e.0, v) es (subst (λ n. P (n, v)) (eqb-true k e.0 same) new) rest
        | false ↦ λ other.
            All-cons P e (insert_entry nat_eq es k v) (All-head P e es all) (All-inserted es k v rest new)
      ] refl

  All-found : (es : List (ℕ × W)) (k : ℕ) (v : W) → All P es → lookup (nat_eq k) es ≡ Some v → P (k, v)
  All-found es k v all found = All-contains P es (k, v) all (Contains-from_lookup eqb-true k v es found)

-- an entry is right of a graph
abbrev pub IsRight : Graph → ℕ × Wider → Type 0
IsRight g entry = AreWider g entry.0 entry.1

pub found_wider : (g : Graph) (es : List (ℕ × Wider)) → AreAllWider g es → (class : ℕ) (wider : Wider)
    → lookup (nat_eq class) es ≡ Some wider → AreWider g class wider
found_wider g es right class wider found = All-found (IsRight g) es class wider right found

-- ---- tests of members

-- the same members, the same test
pub any_alike : (x : ℕ) (xs ys : List ℕ) → SameMembers xs ys → list_any (nat_eq x) xs ≡ list_any (nat_eq x) ys
any_alike x xs ys same =
    let held = λ (zs : List ℕ). Contains-test nat_eq nat_eq_equiv eqb-true zs x in
    same_from_decides {P = Contains ys x} (list_any (nat_eq x) xs) (list_any (nat_eq x) ys)
    (Decides-like (list_any (nat_eq x) xs) (same.each x).0 (same.each x).1 (held xs)) (held ys)

-- a step of a loop over lists of numbers
pub any_more : {A : Type 0} (x : ℕ) (f : A → List ℕ) (xs : List A) (i : ℕ) (d : A) → i < length xs
    → (before here : Bool) → before ≡ list_any (nat_eq x) (flat_map f (take i xs))
    → here ≡ list_any (nat_eq x) (f (get_or xs i d))
    → (before || here) ≡ list_any (nat_eq x) (flat_map f (take (i + 1) xs))
any_more x f xs i d inside before here first second =
    (λ j. first j || second j)
    ∙ sym (list_any-append (nat_eq x) (flat_map f (take i xs)) (f (get_or xs i d)))
    ∙ ap (list_any (nat_eq x)) (sym (flat_map-more f xs i d inside))

-- ---- to stay leads nowhere else, and reads nothing

stays : (xs : List ℕ) → flat_map stay.to xs ≡ xs
stays [] = refl
stays (x ∷ xs) = ap (λ ys. x ∷ ys) (stays xs)

reads_nothing : (xs : List ℕ) → flat_map stay.reads xs ≡ []
reads_nothing [] = refl
reads_nothing (x ∷ xs) = reads_nothing xs

-- ---- the two parts of the way to the classes of a node

module _ (g : Graph) (node : ℕ) where
  abbrev above : ℕ → List ℕ
  above class = nodes_reached g Forward superclass_route class

  abbrev reads_above : ℕ → List Key
  reads_above class = path_reads g Forward superclass_route class

  abbrev whole : ℕ → List ℕ
  whole class = flat_map stay.to ((way g Forward superclass_route).to class)

  above_whole : (class : ℕ) → SameMembers (above class) (whole class)
  above_whole class =
      let reached = (way g Forward superclass_route).to class in
      SameMembers-then (record { each = (in_term_order_lists g.terms reached).each })
      (SameMembers-is reached (whole class) (sym (stays reached)))

  module _ (types : List ℕ) (are : types ≡ step_to g Forward RDF_TYPE node) where
    pub instance_reads : step_key Forward RDF_TYPE node ∷ flat_map reads_above types
        ≡ path_reads g Forward instance_route node
    instance_reads =
        let reached = (way g Forward superclass_route).to in
        let both = λ (z : ℕ). reads_above z ++ flat_map stay.reads (reached z) in
        ap (λ keys. step_key Forward RDF_TYPE node ∷ keys)
        (flat_map_agree reads_above both types (λ z c.
        sym (ap (λ keys. reads_above z ++ keys) (reads_nothing (reached z)) ∙ append-nil (reads_above z)))
        ∙ ap (flat_map both) are)

    pub instance_classes : SameMembers (flat_map above types) (nodes_reached g Forward instance_route node)
    instance_classes =
        let there = in_term_order_lists g.terms (flat_map whole (step_to g Forward RDF_TYPE node)) in
        SameMembers-then (SameMembers-parts above whole types (λ z c. above_whole z))
        (SameMembers-then
        (SameMembers-is (flat_map whole types) (flat_map whole (step_to g Forward RDF_TYPE node))
        (ap (flat_map whole) are))
        (SameMembers-sym (record { each = there.each })))

    pub instance_any : (class : ℕ) → list_any (nat_eq class) (flat_map above types) ≡ is_instance g node class
    instance_any class =
        any_alike class (flat_map above types) (nodes_reached g Forward instance_route node) instance_classes

    -- what is gathered from the types of a node are its classes
    pub gathered : (all : Wider) (first : List Key) → Adds [] first (step_key Forward RDF_TYPE node ∷ [])
        → Adds [] all.classes.keys (flat_map above types) → Adds first all.reads (flat_map reads_above types)
        → AreClassesOf g node all
    gathered all first key classes keys = record {
      classes = SameMembers-then (SameMembers-added all.classes.keys (flat_map above types) classes)
          instance_classes;
      keys =
          SameMembers-then
          (SameMembers-added all.reads (step_key Forward RDF_TYPE node ∷ flat_map reads_above types)
          (Adds-then (step_key Forward RDF_TYPE node ∷ []) (flat_map reads_above types) key keys))
          (SameMembers-is (step_key Forward RDF_TYPE node ∷ flat_map reads_above types)
          (path_reads g Forward instance_route node) instance_reads);
    }
