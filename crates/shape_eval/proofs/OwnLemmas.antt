-- What is read for a pair itself: parts of the graph, and the answers of the pairs right below it.
use Rattle.std.specs.Prelude.{◌≡◌, ℕ, Bool, true, false, List, [], ◌∷◌, ◌++◌, Option, Some, None, map, filter}
use Rattle.std.specs.Prelude.{flat_map, length, slice_get, if◌then◌else◌, All, Contains, ◌↔◌}
use Rattle.std.proofs.Common.{refl, sym, ap, ◌∙◌, subst, inl, inr, true≢false}
use Rattle.std.proofs.lemmas.Grind.{flat_map-append}
use Rattle.std.proofs.lemmas.List.Elements.{All-append, All-cons, All-nil, Contains-append_cases}
use Rattle.std.proofs.lemmas.List.Elements.{Contains-append_left, Contains-append_right}
use Rattle.shx_term.specs.Members.{Adds}
use Rattle.shx_term.specs.TermKinds.{is_node}
use Rattle.shx_term.proofs.MemberLemmas.{Contains-filter, Contains-flat_map, Contains-from_filter}
use Rattle.shx_term.proofs.MemberLemmas.{Contains-from_flat_map, Contains-from_map, Contains-map}
use Rattle.shx_term.proofs.MemberLemmas.{each_of_All, none_in_empty}
use Rattle.shx_term.proofs.SetLemmas.{Adds-none, SameMembers-itself}
use Rattle.graph_view.specs.declared.key.Key.{Key}
use Rattle.graph_view.specs.declared.key.Key.TheVariants.{Out, Subject}
use Rattle.graph_view.specs.Graph.{Graph}
use Rattle.graph_view.specs.Key.{is_answer, key_first, key_second}
use Rattle.path_eval.specs.declared.direction.Direction.{Direction}
use Rattle.path_eval.specs.declared.direction.Direction.TheVariants.{Backward, Forward}
use Rattle.path_eval.specs.declared.path.Path.{Path}
use Rattle.path_eval.specs.Instances.{instance_route}
use Rattle.path_eval.specs.Relation.{opposite, step_key}
use Rattle.path_eval.specs.Route.{Route, along, any_times, first_then, here, none, one_or_other, perhaps}
use Rattle.path_eval.specs.Route.{route_of, some_times, turned}
use Rattle.path_eval.specs.Values.{path_reads}
use Rattle.path_eval.specs.Way.{Way, then_by, way}
use Rattle.comp_core.specs.declared.pair.At.{At}
use Rattle.comp_core.specs.declared.pair.Pair.{Pair}
use Rattle.comp_core.specs.Asking.{asked_keys, pairs_asked, pairs_at}
use Rattle.comp_core.specs.Pairs.{answer_key}
use Rattle.value_components.specs.Class.{class_reads_at}
use Rattle.shape_eval.specs.declared.constraint.Constraint.{Constraint}
use Rattle.shape_eval.specs.declared.constraint.Constraint.TheVariants as any
use Rattle.shape_eval.specs.declared.shape.PlanShape.{PlanShape}
use Rattle.shape_eval.specs.Constraint.{constraint_asks, constraint_reads}
use Rattle.shape_eval.specs.Laws.{OwnReadsDependOnThemselves, ReadsAreOwnOrBelow}
use Rattle.shape_eval.specs.Nested.{asked_at_node, asked_pairs, is_evaluated_at, pairs_below}
use Rattle.shape_eval.specs.Own.{asked_key, own_reads}
use Rattle.shape_eval.specs.Results.{at_of, pair_reads, reads_of_each, shape_reads, value_nodes, value_reads}
use Rattle.shape_eval.proofs.ConstraintLemmas.{AgreesAt, AsksValuesAt}
use Rattle.shape_eval.proofs.LevelLemmas.{numbers_known, reads_unfold}
use Rattle.shape_eval.proofs.PartLemmas.{All_of_parts}
use Rattle.shape_eval.proofs.ShapeLemmas.{PathsAgree, shape_alike}
use Rattle.shape_eval.proofs.ToldLemmas.{off_within}

-- ---- what is added, part by part

module _ {A B : Type 0} where
  -- what is added to each part is added to all
  Adds_parts : (f g more : A → List B) (xs : List A)
      → ((x : A) → Contains xs x → Adds (f x) (g x) (more x))
      → Adds (flat_map f xs) (flat_map g xs) (flat_map more xs)
  Adds_parts f g more xs each = record {
    each = λ y. (
      λ c.
          let at = Contains-from_flat_map g xs y c in
          elim (((each at.0 at.1).each y).0 at.2) [
            | inl old ↦ inl (Contains-flat_map f xs at.0 y at.1 old)
            | inr new ↦ inr (Contains-flat_map more xs at.0 y at.1 new)
          ],
      λ h. elim h [
        | inl old ↦
            let at = Contains-from_flat_map f xs y old in
            Contains-flat_map g xs at.0 y at.1 (((each at.0 at.1).each y).1 (inl at.2))
        | inr new ↦
            let at = Contains-from_flat_map more xs y new in
            Contains-flat_map g xs at.0 y at.1 (((each at.0 at.1).each y).1 (inr at.2))
      ],
    );
  }

  pub flat_map-flat_map : {C : Type 0} (f : A → List C) (h : C → List B) (xs : List A)
      → flat_map h (flat_map f xs) ≡ flat_map (λ x. flat_map h (f x)) xs
  flat_map-flat_map f h [] = refl
  flat_map-flat_map f h (x ∷ xs) =
      flat_map-append h (f x) (flat_map f xs)
      ∙ ap (λ rest. flat_map h (f x) ++ rest) (flat_map-flat_map f h xs)

module _ {X : Type 0} where
  Adds-all : (xs : List X) → Adds [] xs xs
  Adds-all xs = record {
    each = λ x. (λ c. inr c, λ h. elim h [ inl c ↦ absurd (none_in_empty x c) | inr c ↦ c ]);
  }

  -- behind a list to which nothing is added
  Adds_behind : (xs old new more : List X) → Adds old new more → Adds (xs ++ old) (xs ++ new) more
  Adds_behind xs old new more adds = record {
    each = λ x. (
      λ c. elim (Contains-append_cases xs new x c) [
        | inl d ↦ inl (Contains-append_left xs old x d)
        | inr d ↦ elim ((adds.each x).0 d) [
          | inl e ↦ inl (Contains-append_right xs old x e)
          | inr e ↦ inr e
        ]
      ],
      λ h. elim h [
        | inl c ↦ elim (Contains-append_cases xs old x c) [
          | inl d ↦ Contains-append_left xs new x d
          | inr d ↦ Contains-append_right xs new x ((adds.each x).1 (inl d))
        ]
        | inr d ↦ Contains-append_right xs new x ((adds.each x).1 (inr d))
      ],
    );
  }

-- ---- what a shape reads is what it reads of the graph, and what is read for the pairs that it asks

-- of no pair that is asked anything is read
abbrev pub unasked : Pair → List Key
unasked d = []

asked_added : (r : Pair → List Key) (shapes vs : List ℕ)
    → Adds (asked_keys unasked shapes vs) (asked_keys r shapes vs) (flat_map r (pairs_asked shapes vs))
asked_added r shapes vs =
    let part = λ (v : ℕ). flat_map r (pairs_at shapes v) in
    subst (Adds (asked_keys unasked shapes vs) (asked_keys r shapes vs))
    (sym (flat_map-flat_map (pairs_at shapes) r vs))
    (Adds_parts (λ v. flat_map unasked (pairs_at shapes v)) part part vs
    (λ v i. Adds_parts unasked r r (pairs_at shapes v) (λ d j. Adds-all (r d))))

-- of a constraint
abbrev pub AddsAsked : Constraint → Type 0
AddsAsked c =
    (g : Graph) (r : Pair → List Key) (at : At) (vs : List ℕ)
    → Adds (constraint_reads c g unasked at vs) (constraint_reads c g r at vs)
    (flat_map r (constraint_asks c vs))

pub constraint_adds : (c : Constraint) → AddsAsked c
constraint_adds (any.Not c) g r at vs = asked_added r (c.shape ∷ []) vs
constraint_adds (any.And c) g r at vs = asked_added r c.shapes.items vs
constraint_adds (any.Or c) g r at vs = asked_added r c.shapes.items vs
constraint_adds (any.Xone c) g r at vs = asked_added r c.shapes.items vs
constraint_adds (any.Node c) g r at vs = asked_added r (c.shape ∷ []) vs
constraint_adds (any.Property c) g r at vs = asked_added r (c.shape ∷ []) vs
constraint_adds (any.QualifiedMinCount c) g r at vs = asked_added r (c.shape ∷ c.siblings.items) vs
constraint_adds (any.QualifiedMaxCount c) g r at vs = asked_added r (c.shape ∷ c.siblings.items) vs
constraint_adds c g r at vs = Adds-none (constraint_reads c g r at vs)

-- of a shape
pub shape_adds : (g : Graph) (r : Pair → List Key) (o : Option PlanShape) (p : Pair)
    → Adds (shape_reads g unasked o p) (shape_reads g r o p) (flat_map r (asked_at_node g o p.node))
shape_adds g r None p = Adds-none []
shape_adds g r (Some sh) p = by sh.deactivated
  where
    cs : List Constraint
    cs = sh.constraints.items

    vs : List ℕ
    vs = value_nodes g sh.path p.node

    each : Adds (reads_of_each g unasked cs (at_of p) vs) (reads_of_each g r cs (at_of p) vs)
        (flat_map r (asked_pairs cs vs))
    each =
        subst (Adds (reads_of_each g unasked cs (at_of p) vs) (reads_of_each g r cs (at_of p) vs))
        (sym (flat_map-flat_map (λ c. constraint_asks c vs) r cs))
        (Adds_parts (λ c. constraint_reads c g unasked (at_of p) vs)
        (λ c. constraint_reads c g r (at_of p) vs) (λ c. flat_map r (constraint_asks c vs)) cs
        (λ c i. constraint_adds c g r (at_of p) vs))

    by : (off : Bool)
        → Adds (if off then [] else value_reads g sh.path p.node ++ reads_of_each g unasked cs (at_of p) vs)
        (if off then [] else value_reads g sh.path p.node ++ reads_of_each g r cs (at_of p) vs)
        (flat_map r (if off then [] else asked_pairs cs vs))
    by true = Adds-none []
    by false =
        Adds_behind (value_reads g sh.path p.node) (reads_of_each g unasked cs (at_of p) vs)
        (reads_of_each g r cs (at_of p) vs) (flat_map r (asked_pairs cs vs)) each

-- ---- of the graph parts are read, and no answers

abbrev pub IsPart : Key → Type 0
IsPart key = is_answer key ≡ false

abbrev pub AreParts : List Key → Type 0
AreParts keys = All IsPart keys

no_parts : AreParts []
no_parts = All-nil IsPart

one_part : (key : Key) → IsPart key → AreParts (key ∷ [])
one_part key is = All-cons IsPart key [] is no_parts

module _ (g : Graph) where
  abbrev ReadsParts : Way → Type 0
  ReadsParts a = (x : ℕ) → AreParts (a.reads x)

  step_part : (d : Direction) (p x : ℕ) → IsPart (step_key d p x)
  step_part Forward p x = refl
  step_part Backward p x = refl

  then_parts : (a b : Way) → ReadsParts a → ReadsParts b → ReadsParts (then_by a b)
  then_parts a b first second x =
      All-append IsPart (a.reads x) (flat_map b.reads (a.to x)) (first x)
      (All_of_parts IsPart b.reads (a.to x) (λ y c. second y))

  in_turn : (d : Direction) (a b : Route) → ReadsParts (way g d a) → ReadsParts (way g d b)
      → ReadsParts (way g d (first_then a b))
  in_turn Forward a b first second = then_parts (way g Forward a) (way g Forward b) first second
  in_turn Backward a b first second = then_parts (way g Backward b) (way g Backward a) second first

  again_parts : (d : Direction) (a : Route) → ReadsParts (way g d a) → ReadsParts (way g d (some_times a))
  again_parts d a once x =
      All_of_parts IsPart (way g d a).reads (x ∷ (way g d (some_times a)).to x) (λ y c. once y)

  route_parts : (d : Direction) (route : Route) (x : ℕ) → AreParts (path_reads g d route x)
  route_parts d (along p) x = one_part (step_key d p x) (step_part d p x)
  route_parts d here x = no_parts
  route_parts d (first_then a b) x = in_turn d a b (route_parts d a) (route_parts d b) x
  route_parts d none x = no_parts
  route_parts d (one_or_other a b) x =
      All-append IsPart (path_reads g d a x) (path_reads g d b x) (route_parts d a x) (route_parts d b x)
  route_parts d (turned a) x = route_parts (opposite d) a x
  route_parts d (any_times a) x = again_parts d a (route_parts d a) x
  route_parts d (some_times a) x = again_parts d a (route_parts d a) x
  route_parts d (perhaps a) x = route_parts d a x

  value_parts : (path : Option Path) (node : ℕ) → AreParts (value_reads g path node)
  value_parts None node = no_parts
  value_parts (Some path) node = route_parts Forward (route_of path) node

  unless_literal : (b : Bool) (v : ℕ)
      → AreParts (if b then path_reads g Forward instance_route v else [])
  unless_literal true v = route_parts Forward instance_route v
  unless_literal false v = no_parts

  asked_parts : (shapes vs : List ℕ) → AreParts (asked_keys unasked shapes vs)
  asked_parts shapes vs =
      All_of_parts IsPart (λ v. flat_map unasked (pairs_at shapes v)) vs
      (λ v c. All_of_parts IsPart unasked (pairs_at shapes v) (λ d i. no_parts))

  constraint_parts : (c : Constraint) (at : At) (vs : List ℕ) → AreParts (constraint_reads c g unasked at vs)
  constraint_parts (any.Class c) at vs =
      All_of_parts IsPart (class_reads_at g) vs (λ v i. unless_literal (is_node g.terms v) v)
  constraint_parts (any.Equals c) at vs = one_part (Out at.focus c.value) refl
  constraint_parts (any.Disjoint c) at vs = one_part (Out at.focus c.value) refl
  constraint_parts (any.LessThan c) at vs = one_part (Out at.focus c.value) refl
  constraint_parts (any.LessThanOrEquals c) at vs = one_part (Out at.focus c.value) refl
  constraint_parts (any.Not c) at vs = asked_parts (c.shape ∷ []) vs
  constraint_parts (any.And c) at vs = asked_parts c.shapes.items vs
  constraint_parts (any.Or c) at vs = asked_parts c.shapes.items vs
  constraint_parts (any.Xone c) at vs = asked_parts c.shapes.items vs
  constraint_parts (any.Node c) at vs = asked_parts (c.shape ∷ []) vs
  constraint_parts (any.Property c) at vs = asked_parts (c.shape ∷ []) vs
  constraint_parts (any.QualifiedMinCount c) at vs = asked_parts (c.shape ∷ c.siblings.items) vs
  constraint_parts (any.QualifiedMaxCount c) at vs = asked_parts (c.shape ∷ c.siblings.items) vs
  constraint_parts (any.Closed c) at vs =
      All_of_parts IsPart (λ v. Subject v ∷ []) vs (λ v i. one_part (Subject v) refl)
  constraint_parts c at vs = no_parts

  shape_parts : (o : Option PlanShape) (p : Pair) → AreParts (shape_reads g unasked o p)
  shape_parts None p = no_parts
  shape_parts (Some sh) p = by sh.deactivated
    where
      vs : List ℕ
      vs = value_nodes g sh.path p.node

      by : (off : Bool) → AreParts (if off then []
          else value_reads g sh.path p.node ++ reads_of_each g unasked sh.constraints.items (at_of p) vs)
      by true = no_parts
      by false =
          All-append IsPart (value_reads g sh.path p.node)
          (reads_of_each g unasked sh.constraints.items (at_of p) vs) (value_parts sh.path p.node)
          (All_of_parts IsPart (λ c. constraint_reads c g unasked (at_of p) vs) sh.constraints.items
          (λ c i. constraint_parts c (at_of p) vs))

-- ---- a pair itself

-- the answers of two pairs are two
pub answer_key_exact : (p d : Pair) → answer_key p ≡ answer_key d → p ≡ d
answer_key_exact p d e = λ i. record { shape = ap key_first e i; node = ap key_second e i }

-- the answers that are read are those of the pairs right below
keys_below : (shapes : List PlanShape) (asked : List Pair)
    → flat_map (asked_key shapes) asked ≡ map answer_key (filter (is_evaluated_at shapes) asked)
keys_below shapes [] = refl
keys_below shapes (d ∷ ds) = by (keys_below shapes ds) (is_evaluated_at shapes d)
  where
    kept : List Pair
    kept = filter (is_evaluated_at shapes) ds

    by : flat_map (asked_key shapes) ds ≡ map answer_key kept → (on : Bool)
        → (if on then answer_key d ∷ [] else []) ++ flat_map (asked_key shapes) ds
        ≡ map answer_key (if on then d ∷ kept else kept)
    by rest true = ap (λ ks. answer_key d ∷ ks) rest
    by rest false = rest

module _ (shapes : List PlanShape) (g : Graph) (p : Pair) where
  -- what is read of the graph for the pair itself
  abbrev pub graph_reads : List Key
  graph_reads = shape_reads g unasked (slice_get shapes p.shape) p

  pub graph_reads_are_parts : AreParts graph_reads
  graph_reads_are_parts = shape_parts g (slice_get shapes p.shape) p

  -- beside it the answers of the pairs right below
  pub own_adds : Adds graph_reads (own_reads shapes g p) (map answer_key (pairs_below shapes g p))
  own_adds =
      let o = slice_get shapes p.shape in
      subst (Adds graph_reads (own_reads shapes g p)) (keys_below shapes (asked_at_node g o p.node))
      (shape_adds g (asked_key shapes) o p)

  -- a key that is read for the pair itself and is no answer is of the graph
  pub own_part : (key : Key) → Contains (own_reads shapes g p) key → IsPart key → Contains graph_reads key
  own_part key own is = elim ((own_adds.each key).0 own) [
    | inl part ↦ part
    | inr answer ↦
        let from = Contains-from_map answer_key (pairs_below shapes g p) key answer in
        absurd (true≢false (ap is_answer (sym from.2) ∙ is))
  ]

  -- and an answer is of a pair right below
  pub own_answer : (d : Pair)
      → Contains (own_reads shapes g p) (answer_key d) ↔ Contains (pairs_below shapes g p) d
  own_answer d = (
    λ c. elim ((own_adds.each (answer_key d)).0 c) [
      | inl part ↦
          absurd (true≢false (each_of_All IsPart graph_reads graph_reads_are_parts (answer_key d) part))
      | inr answer ↦
          let from = Contains-from_map answer_key (pairs_below shapes g p) (answer_key d) answer in
          subst (Contains (pairs_below shapes g p)) (sym (answer_key_exact d from.0 from.2)) from.1
    ],
    λ c. (own_adds.each (answer_key d)).1 (inr (Contains-map answer_key (pairs_below shapes g p) d c)),
  )

-- ---- what is read for a pair is read for it itself, or for one right below

-- a pair for which anything is read is of a shape that is evaluated
read_on : (shapes : List PlanShape) (g : Graph) (d : Pair) (key : Key) → Contains (pair_reads shapes g d) key
    → is_evaluated_at shapes d ≡ true
read_on shapes g d key c = by (is_evaluated_at shapes d) refl
  where
    by : (b : Bool) → is_evaluated_at shapes d ≡ b → is_evaluated_at shapes d ≡ true
    by true on = on
    by false off =
        absurd (none_in_empty key
        (subst (λ ks. Contains ks key) (off_within (length shapes) shapes g d off).1 c))

module _ (paths_agree : PathsAgree) (agrees : (c : Constraint) → AgreesAt c) where
  pub reads_own_or_below : ((c : Constraint) → AsksValuesAt c) → ReadsAreOwnOrBelow
  reads_own_or_below asks_values shapes lower g known plan p inside key =
      let r = pair_reads shapes g in
      let o = slice_get shapes p.shape in
      let asked = asked_at_node g o p.node in
      let own = own_adds shapes g p in
      let unfolded =
      (reads_unfold paths_agree agrees asks_values shapes lower g known plan p inside).each key in
      let adds = (shape_adds g r o p).each key in (
        λ c. elim (adds.0 (unfolded.0 c)) [
          | inl part ↦ inl (
            (own.each key).1 (inl part),
            each_of_All IsPart (graph_reads shapes g p) (graph_reads_are_parts shapes g p) key part,
          )
          | inr deeper ↦
              let at = Contains-from_flat_map r asked key deeper in
              inr (record {
                below = at.0;
                stands = Contains-filter (is_evaluated_at shapes) asked at.0 at.1
                    (read_on shapes g at.0 key at.2);
                read = at.2;
              })
        ],
        λ h. unfolded.1 (adds.1 (elim h [
          | inl itself ↦ inl (own_part shapes g p key itself.0 itself.1)
          | inr through ↦
              let d = through.below in
              inr (Contains-flat_map r asked d key
              (Contains-from_filter (is_evaluated_at shapes) asked d through.stands).0 through.read)
        ])),
      )

  -- nothing but what is read for a pair itself matters to that, whatever is found of the pairs below
  pub own_reads_depend : OwnReadsDependOnThemselves
  own_reads_depend shapes lower g h known known' plan p inside agree =
      let keys = asked_key shapes in
      (shape_alike paths_agree agrees g h known known' (λ d. []) (λ d. []) keys keys p inside
      (slice_get shapes p.shape) (λ sh e. numbers_known g shapes plan p.shape sh e)
      (λ sh e c i d j on. record { rows = refl; reads = SameMembers-itself (keys d) }) agree).reads
