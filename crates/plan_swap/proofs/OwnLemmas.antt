-- What alike shapes read for themselves at a node is the same, but for the numbers of shapes in it.
use Rattle.std.specs.Prelude.{◌≡◌, ℕ, zero, suc, List, [], ◌∷◌, length, map, Contains}
use Rattle.std.proofs.Common.{refl, sym, ap, ◌∙◌, subst, inl, inr, true≢false}
use Rattle.std.proofs.lemmas.List.{map-id}
use Rattle.shx_term.specs.Members.{Adds, SameMembers}
use Rattle.shx_term.proofs.MemberLemmas.{Contains-from_map, Contains-map, each_of_All, map_agree}
use Rattle.graph_view.specs.declared.key.Key.{Key}
use Rattle.graph_view.specs.declared.key.Key.TheVariants.{Answer, In, Out, Predicate, Subject}
use Rattle.graph_view.specs.Graph.{Graph}
use Rattle.graph_view.specs.Key.{is_answer}
use Rattle.comp_core.specs.declared.pair.Pair.{Pair}
use Rattle.comp_core.specs.Pairs.{answer_key}
use Rattle.shape_eval.specs.declared.shape.PlanShape.{PlanShape}
use Rattle.shape_eval.specs.Nested.{pairs_below}
use Rattle.shape_eval.specs.Own.{own_reads}
use Rattle.shape_eval.specs.Plan.{IsNumbered, nodes_of}
use Rattle.shape_eval.specs.Report.{at_shape}
use Rattle.shape_eval.specs.Results.{results_within, shape_reads}
use Rattle.shape_eval.proofs.OwnLemmas.{AreParts, IsPart, graph_reads, graph_reads_are_parts, own_adds}
use Rattle.shape_eval.proofs.OwnLemmas.{unasked}
use Rattle.plan_swap.specs.Alike.{AreAlikeWithin, IsAlike}
use Rattle.plan_swap.specs.Renumbered.{AlikeShapesFindAlike, key_renumbered, new_number, pair_renumbered}
use Rattle.plan_swap.proofs.LevelLemmas.{demands_alike, finds_alike, number_is, within_both}
use Rattle.plan_swap.proofs.NestLemmas.{below_same}
use Rattle.plan_swap.proofs.ShapeLemmas.{shape_reads_same}

-- ---- what is added, as sets

-- images of what is added are added to images
Adds-map : {X Y : Type 0} (f : X → Y) (old new more : List X) → Adds old new more
    → Adds (map f old) (map f new) (map f more)
Adds-map f old new more adds = record {
  each = λ y. (
    λ c.
        let at = Contains-from_map f new y c in
        elim ((adds.each at.0).0 at.1) [
          | inl here ↦ inl (subst (Contains (map f old)) (sym at.2) (Contains-map f old at.0 here))
          | inr here ↦ inr (subst (Contains (map f more)) (sym at.2) (Contains-map f more at.0 here))
        ],
    λ h. elim h [
      | inl c ↦
          let at = Contains-from_map f old y c in
          subst (Contains (map f new)) (sym at.2)
          (Contains-map f new at.0 ((adds.each at.0).1 (inl at.1)))
      | inr c ↦
          let at = Contains-from_map f more y c in
          subst (Contains (map f new)) (sym at.2)
          (Contains-map f new at.0 ((adds.each at.0).1 (inr at.1)))
    ],
  );
}

-- where the same is added to the same, the same comes of it
Adds-alike : {X : Type 0} {old new other more : List X} → Adds old new more → Adds old other more
    → SameMembers new other
Adds-alike a b = record {
  each = λ x. (λ c. (b.each x).1 ((a.each x).0 c), λ c. (a.each x).1 ((b.each x).0 c));
}

-- ---- keys under new numbers

module _ (f : ℕ → ℕ) where
  -- what is no answer has no number of a shape
  pub unless_answer : (key : Key) → ((shape node : ℕ) → key ≡ Answer shape node → ⊥)
      → key_renumbered f key ≡ key
  unless_answer (Out s p) other = refl
  unless_answer (In p o) other = refl
  unless_answer (Subject s) other = refl
  unless_answer (Predicate p) other = refl
  unless_answer (Answer shape node) other = absurd (other shape node refl)

  parts_kept : (keys : List Key) → AreParts keys → map (key_renumbered f) keys ≡ keys
  parts_kept keys parts =
      map_agree (key_renumbered f) (λ key. key) keys
      (λ key c. unless_answer key (λ shape node is.
      true≢false (sym (ap is_answer is) ∙ each_of_All IsPart keys parts key c)))
      ∙ map-id keys

  answers_renumbered : (ds : List Pair)
      → map answer_key (map (pair_renumbered f) ds) ≡ map (key_renumbered f) (map answer_key ds)
  answers_renumbered [] = refl
  answers_renumbered (d ∷ ds) = ap (λ keys. Answer (f d.shape) d.node ∷ keys) (answers_renumbered ds)

-- ---- what is read for a pair itself

module _ (old new : List PlanShape) (numbered : IsNumbered old) (renumbered : IsNumbered new) (g : Graph)
  where
    module _ (k m n : ℕ) (alike : IsAlike (AreAlikeWithin k old new) old new m n) (node : ℕ) where
      abbrev was : Pair
      was = at_shape m node

      abbrev now : Pair
      now = at_shape n node

      -- the same parts of the graph
      parts_same : graph_reads new g now ≡ graph_reads old g was
      parts_same =
          ap (λ o. shape_reads g unasked o now) alike.new_is
          ∙ shape_reads_same (new_number old new) (results_within zero old g) (results_within zero new g)
          unasked unasked (nodes_of old) (nodes_of new) g alike.before alike.after alike.same
          (demands_alike old new numbered renumbered g k zero zero m n alike
          (λ a b low lower both. record { rows = λ v. refl; reads = λ v. refl }))
          m n node (number_is old new numbered renumbered (suc k) m n alike)
          ∙ ap (λ o. shape_reads g unasked o was) (sym alike.old_is)

      own_same : SameMembers (own_reads new g now)
          (map (key_renumbered (new_number old new)) (own_reads old g was))
      own_same =
          let kept = key_renumbered (new_number old new) in
          let parts = graph_reads old g was in
          let answers = map answer_key (pairs_below old g was) in
          let here : map answer_key (pairs_below new g now) ≡ map kept answers =
          ap (map answer_key) (below_same old new numbered renumbered k m n alike g node)
          ∙ answers_renumbered (new_number old new) (pairs_below old g was) in
          let still : map kept parts ≡ parts =
          parts_kept (new_number old new) parts (graph_reads_are_parts old g was) in
          Adds-alike
          (subst (Adds parts (own_reads new g now)) here
          (subst (λ keys. Adds keys (own_reads new g now) (map answer_key (pairs_below new g now))) parts_same
          (own_adds new g now)))
          (subst (λ keys. Adds keys (map kept (own_reads old g was)) (map kept answers)) still
          (Adds-map kept parts (own_reads old g was) answers (own_adds old g was)))

    own_alike : (k m n : ℕ) → AreAlikeWithin k old new m n → (node : ℕ)
        → SameMembers (own_reads new g (at_shape n node))
        (map (key_renumbered (new_number old new)) (own_reads old g (at_shape m node)))
    own_alike zero m n alike node = absurd alike
    own_alike (suc k) m n alike node = own_same k m n alike node

-- ---- and all that is found

pub alike_shapes : AlikeShapesFindAlike
alike_shapes old new numbered renumbered g m n alike node =
    let within = within_both old new (length new) m n alike in
    let both = finds_alike old new numbered renumbered g (length new) (length old) (length new) m n within.0
    within.1 alike in
    record {
      rows = both.rows node;
      reads = both.reads node;
      own = own_alike old new numbered renumbered g (length new) m n alike node;
    }
