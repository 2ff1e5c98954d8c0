-- What a ready declaration states is said in order, and of what has terms and is referred to.
use Rattle.std.specs.Prelude.{◌≡◌, ℕ, ◌==◌, ◌<◌, ◌≤◌, suc, List, [], ◌∷◌, length, map, flat_map, filter}
use Rattle.std.specs.Prelude.{Option, Some, Contains}
use Rattle.std.specs.List.{AllPairs}
use Rattle.std.specs.declared.cmp.Ordering.TheVariants.{Less}
use Rattle.std.proofs.Common.{refl, sym, ap, subst, arith, inl, inr}
use Rattle.std.proofs.lemmas.List.{append-nil, length-map}
use Rattle.std.proofs.lemmas.List.Elements.{All-append, All-nil, Contains-append_left}
use Rattle.std.proofs.lemmas.List.Elements.{Contains-append_right}
use Rattle.std.proofs.lemmas.List.Kept.{AllPairs-filter}
use Rattle.shx_term.specs.IdOrder.{id_cmp}
use Rattle.shx_term.specs.declared.limits.Limits.{Limits}
use Rattle.shx_term.specs.declared.term.Term.{Term}
use Rattle.shx_term.specs.declared.vocabulary.TheConstants.{VOCABULARY_LEN, SH_PROPERTY, SH_CLOSED}
use Rattle.shx_term.specs.declared.vocabulary.TheConstants.{SH_CLASS, SH_DATATYPE, SH_NODE_KIND, SH_NODE}
use Rattle.shx_term.specs.declared.vocabulary.TheConstants.{SH_MIN_COUNT, SH_MAX_COUNT, SH_MIN_EXCLUSIVE}
use Rattle.shx_term.specs.declared.vocabulary.TheConstants.{SH_MIN_INCLUSIVE, SH_MAX_EXCLUSIVE}
use Rattle.shx_term.specs.declared.vocabulary.TheConstants.{SH_MAX_INCLUSIVE, SH_MIN_LENGTH, SH_MAX_LENGTH}
use Rattle.shx_term.specs.declared.vocabulary.TheConstants.{SH_PATTERN, SH_LANGUAGE_IN, SH_UNIQUE_LANG}
use Rattle.shx_term.specs.declared.vocabulary.TheConstants.{SH_EQUALS, SH_DISJOINT, SH_LESS_THAN}
use Rattle.shx_term.specs.declared.vocabulary.TheConstants.{SH_LESS_THAN_OR_EQUALS, SH_NOT, SH_AND, SH_OR}
use Rattle.shx_term.specs.declared.vocabulary.TheConstants.{SH_XONE, SH_QUALIFIED_VALUE_SHAPE}
use Rattle.shx_term.specs.declared.vocabulary.TheConstants.{SH_QUALIFIED_MIN_COUNT, SH_QUALIFIED_MAX_COUNT}
use Rattle.shx_term.specs.declared.vocabulary.TheConstants.{SH_HAS_VALUE, SH_IGNORED_PROPERTIES, SH_IN}
use Rattle.shx_term.proofs.MemberLemmas.{Contains-cases, Contains-flat_map, Contains-from_filter}
use Rattle.shx_term.proofs.MemberLemmas.{All_of_each, Contains-map}
use Rattle.shx_term.proofs.MemberLemmas.{Contains-from_flat_map, Contains-from_map, Contains-one, each_of_All}
use Rattle.shx_term.proofs.MemberLemmas.{none_in_empty}
use Rattle.comp_core.specs.declared.kinds.TheConstants.{IN, PATTERN, PROPERTY, OR, CLASS, DATATYPE}
use Rattle.comp_core.specs.declared.kinds.TheConstants.{NODE_KIND, NODE, MIN_COUNT, MAX_COUNT}
use Rattle.comp_core.specs.declared.kinds.TheConstants.{MIN_EXCLUSIVE, MIN_INCLUSIVE, MAX_EXCLUSIVE}
use Rattle.comp_core.specs.declared.kinds.TheConstants.{MAX_INCLUSIVE, MIN_LENGTH, MAX_LENGTH, LANGUAGE_IN}
use Rattle.comp_core.specs.declared.kinds.TheConstants.{UNIQUE_LANG, EQUALS, DISJOINT, LESS_THAN}
use Rattle.comp_core.specs.declared.kinds.TheConstants.{LESS_THAN_OR_EQUALS, NOT, AND, XONE}
use Rattle.comp_core.specs.declared.kinds.TheConstants.{QUALIFIED_MIN_COUNT, QUALIFIED_MAX_COUNT, CLOSED}
use Rattle.comp_core.specs.declared.kinds.TheConstants.{HAS_VALUE}
use Rattle.path_eval.specs.Route.{Route, along}
use Rattle.shape_decl.specs.Declarations.{Declaration, ListReading, lists_under, values_under}
use Rattle.shape_decl.specs.PathReadings.{Read, RouteReading}
use Rattle.shape_decl.specs.Shapes.{members_or_none}
use Rattle.shape_decl.specs.Tables.{list_predicates, shape_list_predicates, shape_predicates}
use Rattle.shape_refs.specs.References.{declared_at, members_under, named_by, references_of}
use Rattle.shape_refs.specs.References.{siblings_of}
use Rattle.shape_refs.specs.Truth.{is_true}
use Rattle.shape_eval.specs.Content.{Content, Nothing, Matches, Members, Names}
use Rattle.shape_compile.specs.Constraints.{Saying, says}
use Rattle.shape_compile.specs.Constraints.{predicate_of, permitted_by}
use Rattle.shape_compile.specs.Constraints.{closes, constraints_stated, each_count, each_list, each_pattern}
use Rattle.shape_compile.specs.Constraints.{each_shape, each_shape_list, each_true, each_value}
use Rattle.shape_compile.specs.Constraints.{count_constraints, other_constraints, pair_constraints}
use Rattle.shape_compile.specs.Constraints.{shape_constraints, text_constraints, value_constraints}
use Rattle.shape_compile.specs.Patterns.{flags_of, text_at}
use Rattle.shape_compile.specs.inner.Ready.{AreKnown, IsPathWithin, IsReady}
use Rattle.shape_compile.proofs.ContentLemmas.{members_in, names_in}
use Rattle.shape_compile.proofs.OrderedLemmas.{AllPairs-from_map, AllPairs-short, AreSaid, AreSaid-append}
use Rattle.shape_compile.proofs.OrderedLemmas.{AreSaid-mapped, AreSaid-one, Precedes, each_Less}

-- its numbers have terms, and the nodes that it names are among those that are referred to
pub record IsSound (terms : List Term) (refs : List ℕ) (s : Saying) : Type 0 where
  pub parameter : s.parameter < length terms
  pub members : AreKnown terms (members_in s.content)
  pub names : (o : Option ℕ) → Contains (names_in s.content) o → (n : ℕ) × (o ≡ Some n) × Contains refs n

module _ (limits : Limits) (terms : List Term) (ds : List Declaration) (d : Declaration)
    (all_ready : (e : Declaration) → Contains ds e → IsReady limits terms e)
    (is_declared : Contains ds d) where
  ready : IsReady limits terms d
  ready = all_ready d is_declared

  abbrev refs : List ℕ
  refs = references_of terms ds d

  abbrev IsHere : Saying → Type 0
  IsHere s = IsSound terms refs s

  abbrev AreHere : ℕ → ℕ → List Saying → Type 0
  AreHere low high ss = AreSaid terms IsHere low high ss

  value_known : (p : ℕ) → p < VOCABULARY_LEN → (v : ℕ) → Contains (values_under d p) v → v < length terms
  value_known p in_range v c =
      each_of_All (λ id. id < length terms) (values_under d p) (ready.values p in_range).known v c

  values_rise : (p : ℕ) → p < VOCABULARY_LEN
      → AllPairs (λ a b. id_cmp terms a b ≡ Less) (values_under d p)
  values_rise p in_range = each_Less terms (values_under d p) (ready.values p in_range).sorted

  none_known : AreKnown terms []
  none_known = All-nil (λ id. id < length terms)

  -- what names no shape
  plain : (kind v : ℕ) (content : Content) → AreKnown terms (members_in content) → names_in content ≡ []
      → v < length terms → IsHere (says kind content v)
  plain kind v content members no_names known = record {
    parameter = known;
    members = members;
    names = λ o c. absurd (none_in_empty o (subst (λ os. Contains os o) no_names c));
  }

  -- ---- values

  stated : (kind p : ℕ) → p < VOCABULARY_LEN → AreHere kind (suc kind) (each_value kind (values_under d p))
  stated kind p in_range =
      AreSaid-mapped terms (says kind Nothing) kind (values_under d p) (λ v. refl) (values_rise p in_range)
      (λ v c. plain kind v Nothing none_known refl (value_known p in_range v c))

  stated_true : (kind p : ℕ) (content : Content) → AreKnown terms (members_in content)
      → names_in content ≡ [] → p < VOCABULARY_LEN
      → AreHere kind (suc kind) (each_true terms kind content (values_under d p))
  stated_true kind p content members no_names in_range =
      AreSaid-mapped terms (says kind content) kind (filter (is_true terms) (values_under d p)) (λ v. refl)
      (AllPairs-filter (λ a b. id_cmp terms a b ≡ Less) (is_true terms) (values_under d p)
      (values_rise p in_range))
      (λ v c. plain kind v content members no_names
      (value_known p in_range v (Contains-from_filter (is_true terms) (values_under d p) v c).0))

  stated_pattern : AreHere PATTERN (suc PATTERN)
      (each_pattern terms (flags_of terms d) (values_under d SH_PATTERN))
  stated_pattern =
      AreSaid-mapped terms (λ v. says PATTERN (Matches (text_at terms v) (flags_of terms d)) v) PATTERN
      (values_under d SH_PATTERN) (λ v. refl) (values_rise SH_PATTERN (omega arith))
      (λ v c. plain PATTERN v (Matches (text_at terms v) (flags_of terms d)) none_known refl
      (value_known SH_PATTERN (omega arith) v c))

  -- ---- lists

  abbrev members_of : ListReading → List ℕ
  members_of list = members_or_none list.members

  heads_rise : (p : ℕ) → p < VOCABULARY_LEN → Contains list_predicates p
      → AllPairs (λ a b. id_cmp terms a.head b.head ≡ Less) (lists_under d p)
  heads_rise p in_range is_list =
      AllPairs-from_map (λ a b. id_cmp terms a b ≡ Less) (λ (list : ListReading). list.head) (lists_under d p)
      (subst (AllPairs (λ a b. id_cmp terms a b ≡ Less)) (sym (ready.lists p is_list).heads_are)
      (values_rise p in_range))

  head_known : (p : ℕ) → p < VOCABULARY_LEN → Contains list_predicates p → (list : ListReading)
      → Contains (lists_under d p) list → list.head < length terms
  head_known p in_range is_list list c =
      value_known p in_range list.head
      (subst (λ heads. Contains heads list.head) (ready.lists p is_list).heads_are
      (Contains-map (λ (l : ListReading). l.head) (lists_under d p) list c))

  stated_list : (kind p : ℕ) → p < VOCABULARY_LEN → Contains list_predicates p
      → AreHere kind (suc kind) (each_list kind (lists_under d p))
  stated_list kind p in_range is_list =
      AreSaid-mapped terms (λ list. says kind (Members (members_of list)) list.head) kind
      (lists_under d p) (λ list. refl) (heads_rise p in_range is_list) (λ list c. record {
        parameter = head_known p in_range is_list list c;
        members = (ready.lists p is_list).members list c;
        names = λ o i. absurd (none_in_empty o i);
      })

  -- ---- shapes

  -- the nodes that are referred to, as a constraint names them
  named : (os : List ℕ) → ((n : ℕ) → Contains os n → Contains refs n) → (o : Option ℕ)
      → Contains (map Some os) o → (n : ℕ) × (o ≡ Some n) × Contains refs n
  named os each o c = let from = Contains-from_map Some os o c in (from.0, from.2, each from.0 from.1)

  of_shape : (p n : ℕ) → Contains shape_predicates p → Contains (values_under d p) n → Contains refs n
  of_shape p n is_shape c =
      Contains-append_left (named_by d) (siblings_of terms ds d) n
      (Contains-append_left (flat_map (values_under d) shape_predicates)
      (flat_map (members_under d) shape_list_predicates) n
      (Contains-flat_map (values_under d) shape_predicates p n is_shape c))

  of_shape_list : (p n : ℕ) → Contains shape_list_predicates p → Contains (members_under d p) n
      → Contains refs n
  of_shape_list p n is_list c =
      Contains-append_left (named_by d) (siblings_of terms ds d) n
      (Contains-append_right (flat_map (values_under d) shape_predicates)
      (flat_map (members_under d) shape_list_predicates) n
      (Contains-flat_map (members_under d) shape_list_predicates p n is_list c))

  stated_shape : (kind p : ℕ) → p < VOCABULARY_LEN → Contains shape_predicates p
      → AreHere kind (suc kind) (each_shape kind (values_under d p))
  stated_shape kind p in_range is_shape =
      AreSaid-mapped terms (λ v. says kind (Names (Some v ∷ [])) v) kind (values_under d p) (λ v. refl)
      (values_rise p in_range) (λ v c. record {
        parameter = value_known p in_range v c;
        members = All-nil (λ id. id < length terms);
        names = named (v ∷ [])
            (λ n i. subst (Contains refs) (sym ((Contains-one v n).0 i)) (of_shape p v is_shape c));
      })

  stated_shape_list : (kind p : ℕ) → p < VOCABULARY_LEN → Contains list_predicates p
      → Contains shape_list_predicates p → AreHere kind (suc kind) (each_shape_list kind (lists_under d p))
  stated_shape_list kind p in_range is_list is_shape_list =
      AreSaid-mapped terms (λ list. says kind (Names (map Some (members_of list))) list.head) kind
      (lists_under d p) (λ list. refl) (heads_rise p in_range is_list) (λ list c. record {
        parameter = head_known p in_range is_list list c;
        members = All-nil (λ id. id < length terms);
        names = named (members_of list) (λ n i. of_shape_list p n is_shape_list
            (Contains-flat_map members_of (lists_under d p) list n c i));
      })

  -- ---- counts

  of_sibling : (n : ℕ) → Contains (siblings_of terms ds d) n → Contains refs n
  of_sibling n c = Contains-append_right (named_by d) (siblings_of terms ds d) n c

  abbrev counts : ℕ → ℕ → List Saying
  counts kind p =
      each_count kind (siblings_of terms ds d) (values_under d SH_QUALIFIED_VALUE_SHAPE) (values_under d p)

  abbrev counted : ℕ → ℕ → ℕ → Saying
  counted kind count shape = says kind (Names (Some shape ∷ map Some (siblings_of terms ds d))) count

  count_sound : (kind p count shape : ℕ) → p < VOCABULARY_LEN → Contains (values_under d p) count
      → Contains (values_under d SH_QUALIFIED_VALUE_SHAPE) shape → IsHere (counted kind count shape)
  count_sound kind p count shape in_range c i = record {
    parameter = value_known p in_range count c;
    members = All-nil (λ id. id < length terms);
    names = named (shape ∷ siblings_of terms ds d) (λ n j.
        elim (Contains-cases shape n (siblings_of terms ds d) j) [
          | inl e ↦ subst (Contains refs) (sym e)
              (of_shape SH_QUALIFIED_VALUE_SHAPE shape (3, omega arith, refl) i)
          | inr k ↦ of_sibling n k
        ]);
  }

  count_each : (kind p : ℕ) → p < VOCABULARY_LEN → (s : Saying) → Contains (counts kind p) s
      → (s.kind ≡ kind) × IsHere s
  count_each kind p in_range s c =
      let shapes = values_under d SH_QUALIFIED_VALUE_SHAPE in
      let at = Contains-from_flat_map (λ count. map (counted kind count) shapes) (values_under d p) s c in
      let from = Contains-from_map (counted kind at.0) shapes s at.2 in (
        ap (λ (t : Saying). t.kind) from.2,
        subst IsHere (sym from.2) (count_sound kind p at.0 from.0 in_range at.1 from.1),
      )

  -- of one list, and one made of its only element
  short : {X Y : Type 0} (f : X → List Y) → ((x : X) → length (f x) ≤ 1) → (xs : List X)
      → length xs ≤ 1 → length (flat_map f xs) ≤ 1
  short f each [] few = omega arith
  short f each (x ∷ []) few = rw (append-nil (f x)) (each x)
  short f each (x ∷ y ∷ xs) few = absurd (omega (arith, few))

  stated_count : (kind p : ℕ) → p < VOCABULARY_LEN → length (values_under d p) ≤ 1
      → AreHere kind (suc kind) (counts kind p)
  stated_count kind p in_range few =
      let shapes = values_under d SH_QUALIFIED_VALUE_SHAPE in
      AreSaid-one terms kind (counts kind p)
      (AllPairs-short (Precedes terms) (counts kind p)
      (short (λ count. map (counted kind count) shapes)
      (λ count. subst (λ n. n ≤ 1) (sym (length-map shapes (counted kind count))) ready.qualified)
      (values_under d p) few))
      (count_each kind p in_range)

  -- ---- what a closed shape permits and ignores

  predicate_known : (reading : Option RouteReading)
      → ((route : Route) → reading ≡ Some (Read route) → IsPathWithin terms limits.path_depth route)
      → AreKnown terms (predicate_of reading)
  predicate_known (Some (Read (along p))) within = (within (along p) refl).known
  predicate_known reading within = none_known

  permitted_known : AreKnown terms (permitted_by ds d)
  permitted_known =
      All_of_each (λ id. id < length terms) (permitted_by ds d) (λ id c.
      let of_shapes = λ (node : ℕ).
      flat_map (λ (shape : Declaration). predicate_of shape.path) (declared_at ds node) in
      let at = Contains-from_flat_map of_shapes (values_under d SH_PROPERTY) id c in
      let of = Contains-from_flat_map (λ (shape : Declaration). predicate_of shape.path)
      (declared_at ds at.0) id at.2 in
      let e = of.0 in
      let held = (Contains-from_filter (λ (s : Declaration). s.node == at.0) ds e of.1).0 in
      each_of_All (λ n. n < length terms) (predicate_of e.path)
      (predicate_known e.path (all_ready e held).path) id of.2)

  ignored_known : AreKnown terms (members_under d SH_IGNORED_PROPERTIES)
  ignored_known =
      All_of_each (λ id. id < length terms) (members_under d SH_IGNORED_PROPERTIES) (λ id c.
      let at = Contains-from_flat_map members_of (lists_under d SH_IGNORED_PROPERTIES) id c in
      each_of_All (λ n. n < length terms) (members_of at.0)
      ((ready.lists SH_IGNORED_PROPERTIES (4, omega arith, refl)).members at.0 at.1) id at.2)

  closes_known : AreKnown terms (members_in (closes ds d))
  closes_known =
      All-append (λ id. id < length terms) (permitted_by ds d) (members_under d SH_IGNORED_PROPERTIES)
      permitted_known ignored_known

  -- ---- all of them

  of_values : AreHere 1 12 (value_constraints d)
  of_values =
      AreSaid-append terms (stated CLASS SH_CLASS (omega arith))
      (AreSaid-append terms (stated DATATYPE SH_DATATYPE (omega arith))
      (AreSaid-append terms (stated NODE_KIND SH_NODE_KIND (omega arith))
      (AreSaid-append terms (stated MIN_COUNT SH_MIN_COUNT (omega arith))
      (AreSaid-append terms (stated MAX_COUNT SH_MAX_COUNT (omega arith))
      (AreSaid-append terms (stated MIN_EXCLUSIVE SH_MIN_EXCLUSIVE (omega arith))
      (AreSaid-append terms (stated MIN_INCLUSIVE SH_MIN_INCLUSIVE (omega arith))
      (AreSaid-append terms (stated MAX_EXCLUSIVE SH_MAX_EXCLUSIVE (omega arith))
      (AreSaid-append terms (stated MAX_INCLUSIVE SH_MAX_INCLUSIVE (omega arith))
      (AreSaid-append terms (stated MIN_LENGTH SH_MIN_LENGTH (omega arith))
      (stated MAX_LENGTH SH_MAX_LENGTH (omega arith)))))))))))

  of_texts : AreHere 12 15 (text_constraints terms d)
  of_texts =
      AreSaid-append terms stated_pattern
      (AreSaid-append terms (stated_list LANGUAGE_IN SH_LANGUAGE_IN (omega arith) (0, omega arith, refl))
      (stated_true UNIQUE_LANG SH_UNIQUE_LANG Nothing none_known refl (omega arith)))

  of_pairs : AreHere 15 19 (pair_constraints d)
  of_pairs =
      AreSaid-append terms (stated EQUALS SH_EQUALS (omega arith))
      (AreSaid-append terms (stated DISJOINT SH_DISJOINT (omega arith))
      (AreSaid-append terms (stated LESS_THAN SH_LESS_THAN (omega arith))
      (stated LESS_THAN_OR_EQUALS SH_LESS_THAN_OR_EQUALS (omega arith))))

  of_shapes : AreHere 19 25 (shape_constraints d)
  of_shapes =
      AreSaid-append terms (stated_shape NOT SH_NOT (omega arith) (0, omega arith, refl))
      (AreSaid-append terms (stated_shape_list AND SH_AND (omega arith) (1, omega arith, refl)
      (0, omega arith, refl))
      (AreSaid-append terms (stated_shape_list OR SH_OR (omega arith) (2, omega arith, refl)
      (1, omega arith, refl))
      (AreSaid-append terms (stated_shape_list XONE SH_XONE (omega arith) (3, omega arith, refl)
      (2, omega arith, refl))
      (AreSaid-append terms (stated_shape NODE SH_NODE (omega arith) (1, omega arith, refl))
      (stated_shape PROPERTY SH_PROPERTY (omega arith) (2, omega arith, refl))))))

  of_counts : AreHere 25 27 (count_constraints terms ds d)
  of_counts =
      AreSaid-append terms (stated_count QUALIFIED_MIN_COUNT SH_QUALIFIED_MIN_COUNT (omega arith) ready.least)
      (stated_count QUALIFIED_MAX_COUNT SH_QUALIFIED_MAX_COUNT (omega arith) ready.most)

  of_others : AreHere 27 30 (other_constraints terms ds d)
  of_others =
      AreSaid-append terms (stated_true CLOSED SH_CLOSED (closes ds d) closes_known refl (omega arith))
      (AreSaid-append terms (stated HAS_VALUE SH_HAS_VALUE (omega arith))
      (stated_list IN SH_IN (omega arith) (5, omega arith, refl)))

  pub all_said : AreSaid terms (IsSound terms (references_of terms ds d)) 1 30 (constraints_stated terms ds d)
  all_said =
      AreSaid-append terms of_values
      (AreSaid-append terms of_texts
      (AreSaid-append terms of_pairs
      (AreSaid-append terms of_shapes
      (AreSaid-append terms of_counts of_others))))
