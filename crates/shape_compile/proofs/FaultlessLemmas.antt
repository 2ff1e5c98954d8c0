-- Declarations without a fault are ready to be made a plan of.
use Rattle.std.specs.Prelude.{◌≡◌, ℕ, ◌==◌, ◌+◌, ◌<◌, ◌≤◌, ◌^◌, nat_eq, true, false, List, [], ◌∷◌}
use Rattle.std.specs.Prelude.{if◌then◌else◌, length, map, flat_map, take, drop, Option, Some, None, All}
use Rattle.std.specs.Prelude.{Contains}
use Rattle.std.specs.List.{IsDistinct}
use Rattle.std.specs.List.Sorted.{IsStrictlySortedBy}
use Rattle.std.specs.Option.{option_map}
use Rattle.std.proofs.Common.{refl, sym, ap, ◌∙◌, subst, arith, inl, inr}
use Rattle.std.proofs.lemmas.List.{length-append, length-map, map-id, take-append-drop}
use Rattle.std.proofs.lemmas.List.Elements.{All-append, All-cons, All-from_recursion, All-nil}
use Rattle.std.proofs.lemmas.List.Elements.{Contains-append_cases, Contains-append_left}
use Rattle.std.proofs.lemmas.List.Elements.{Contains-append_right}
use Rattle.std.proofs.lemmas.Simd.{map-map}
use Rattle.shx_term.specs.IdOrder.{id_cmp}
use Rattle.shx_term.specs.Vocabulary.{HasVocabulary, vocabulary}
use Rattle.shx_term.specs.declared.limits.Limits.{Limits}
use Rattle.shx_term.specs.declared.term.Term.{Term}
use Rattle.shx_term.specs.declared.vocabulary.TheConstants.{SH_PATH, SH_PATTERN, SH_QUALIFIED_MAX_COUNT}
use Rattle.shx_term.specs.declared.vocabulary.TheConstants.{SH_QUALIFIED_MIN_COUNT, SH_VIOLATION}
use Rattle.shx_term.specs.declared.vocabulary.TheConstants.{SH_QUALIFIED_VALUE_SHAPE, VOCABULARY_LEN}
use Rattle.shx_term.proofs.IdOrderLemmas.{in_term_order_lists}
use Rattle.shx_term.proofs.MemberLemmas.{Contains-from_flat_map, Contains-from_map}
use Rattle.shx_term.proofs.MemberLemmas.{Contains-head, Contains-tail, each_of_All, none_in_empty}
use Rattle.shx_term.proofs.VocabularyLemmas.{length-vocabulary}
use Rattle.graph_view.specs.Graph.{AllKnown, Graph, objects_of}
use Rattle.path_eval.specs.Route.{Route, along, any_times, first_then, here, none, one_or_other, perhaps}
use Rattle.path_eval.specs.Route.{nesting, predicates_in, some_times, turned}
use Rattle.shape_decl.specs.Declarations.{Declaration, ListReading, Values, declaration_of, declarations}
use Rattle.shape_decl.specs.Declarations.{least, list_reading, lists_among, lists_in, lists_under, path_of}
use Rattle.shape_decl.specs.Declarations.{takes_lists, values_among, values_under}
use Rattle.shape_decl.specs.Laws.{DeclarationsAreOfShapes, ListsStandUnderTheirParameters}
use Rattle.shape_decl.specs.Laws.{NamedMembersAreDeclared, NamedShapesAreDeclared, ShapesAreDistinct}
use Rattle.shape_decl.specs.Laws.{ValuesStandUnderTheirPredicates}
use Rattle.shape_decl.specs.Lists.{list_of}
use Rattle.shape_decl.specs.Nesting.{PathsNestWithinTheirLimit}
use Rattle.shape_decl.specs.Numbers.{AreKnownAlong, DeclaredNumbersHaveTerms}
use Rattle.shape_decl.specs.PathReadings.{Read, path_reading}
use Rattle.shape_decl.specs.Shapes.{ShapesAreListed, members_or_none, shape_nodes}
use Rattle.shape_decl.specs.Tables.{list_predicates, shape_list_predicates, shape_predicates}
use Rattle.shape_order.proofs.SearchLemmas.{few}
use Rattle.shape_check.specs.Faults.{graph_faults}
use Rattle.shape_check.specs.Laws.{AcceptedGraphsAreWellFormed, IsWellFormed}
use Rattle.shape_check.specs.Restrictions.{restriction_of, restrictions}
use Rattle.shape_check.specs.declared.kind.Expected.TheVariants.{Each, Lists}
use Rattle.shape_check.specs.declared.kind.ValueKind.TheVariants as kind
use Rattle.shape_refs.specs.Order.{NameDeclared, nodes_declared}
use Rattle.shape_refs.specs.References.{members_under, named_by}
use Rattle.shape_compile.specs.Accepted.{AreFaultless}
use Rattle.shape_compile.specs.inner.Ready.{AreKnown, AreLists, AreReady, AreValues, IsPathWithin, IsReady}

-- the laws of declarations and of shapes that are accepted
pub record AreLaws : Type 0 where
  pub well_formed : AcceptedGraphsAreWellFormed
  pub of_shapes : DeclarationsAreOfShapes
  pub distinct : ShapesAreDistinct
  pub listed : ShapesAreListed
  pub shapes : NamedShapesAreDeclared
  pub members : NamedMembersAreDeclared
  pub values : ValuesStandUnderTheirPredicates
  pub lists : ListsStandUnderTheirParameters
  pub nest : PathsNestWithinTheirLimit
  pub numbers : DeclaredNumbersHaveTerms

-- ---- what the tables say

-- one value, where the table has one
one_pattern : (restriction_of SH_PATTERN).one ≡ true
unfolding restrictions
one_pattern = refl

one_least : (restriction_of SH_QUALIFIED_MIN_COUNT).one ≡ true
unfolding restrictions
one_least = refl

one_most : (restriction_of SH_QUALIFIED_MAX_COUNT).one ≡ true
unfolding restrictions
one_most = refl

one_qualified : (restriction_of SH_QUALIFIED_VALUE_SHAPE).one ≡ true
unfolding restrictions
one_qualified = refl

-- what names a shape, and what names shapes by a list
record OfShapes (p : ℕ) : Type 0 where
  below : p < VOCABULARY_LEN
  nodes : (restriction_of p).expected ≡ Each kind.IriOrBlank

record OfShapeLists (p : ℕ) : Type 0 where
  is_list : Contains list_predicates p
  nodes : (restriction_of p).expected ≡ Lists kind.IriOrBlank

shape_rows : All OfShapes shape_predicates
unfolding restrictions
shape_rows =
    All-from_recursion OfShapes shape_predicates (
      record { below = omega arith; nodes = refl },
      (
        record { below = omega arith; nodes = refl },
        (
          record { below = omega arith; nodes = refl },
          (record { below = omega arith; nodes = refl }, tt),
        ),
      ),
    )

shape_list_rows : All OfShapeLists shape_list_predicates
unfolding restrictions
shape_list_rows =
    All-from_recursion OfShapeLists shape_list_predicates (
      record { is_list = (1, omega arith, refl); nodes = refl },
      (
        record { is_list = (2, omega arith, refl); nodes = refl },
        (record { is_list = (3, omega arith, refl); nodes = refl }, tt),
      ),
    )

lists_below : All (λ p. p < VOCABULARY_LEN) list_predicates
lists_below =
    All-from_recursion (λ p. p < VOCABULARY_LEN) list_predicates
    (omega arith, (omega arith, (omega arith, (omega arith, (omega arith, (omega arith, tt))))))

violation_known : (terms : List Term) → HasVocabulary terms → SH_VIOLATION < length terms
violation_known terms has =
    let long : length terms ≡ length vocabulary + length has.more =
    ap length has.begins ∙ length-append vocabulary has.more in
    omega (arith, long, length-vocabulary)

-- ---- what a declaration holds

module _ (P : List ℕ → Type 0) (no_values : P []) where
  -- of the values of a predicate, what is so of each row
  of_values : (rows : List Values) → ((row : Values) → Contains rows row → P row.values) → (p : ℕ)
      → P (values_among rows p)
  of_values [] each p = no_values
  of_values (row ∷ rows) each p =
      elim (row.predicate == p) as (λ b. P (if b then row.values else values_among rows p)) [
        | true ↦ each row (Contains-head row rows)
        | false ↦ of_values rows (λ other c. each other (Contains-tail row other rows c)) p
      ]

-- the lists of a parameter are among all
lists_held : (rows : List Values) (lists : List ListReading) (p : ℕ) (list : ListReading)
    → Contains (lists_among rows lists p) list → Contains lists list
lists_held [] lists p list c = absurd (none_in_empty list c)
lists_held (row ∷ rows) lists p list c =
    elim (row.predicate == p) as
    (λ b. Contains (if b then take (length row.values) lists
    else lists_among rows (drop (lists_in row) lists) p) list → Contains lists list) [
      | true ↦ λ d.
          let n = length row.values in
          subst (λ ls. Contains ls list) (take-append-drop n lists)
          (Contains-append_left (take n lists) (drop n lists) list d)
      | false ↦ λ d.
          let n = lists_in row in
          subst (λ ls. Contains ls list) (take-append-drop n lists)
          (Contains-append_right (take n lists) (drop n lists) list
          (lists_held rows (drop n lists) p list d))
    ] c

lists_of : (d : Declaration) (p : ℕ) (list : ListReading) → Contains (lists_under d p) list
    → Contains d.lists list
lists_of d p list c =
    elim (takes_lists p) as
    (λ b. Contains (if b then lists_among d.values d.lists p else []) list → Contains d.lists list) [
      | true ↦ λ i. lists_held d.values d.lists p list i
      | false ↦ λ i. absurd (none_in_empty list i)
    ] c

-- ---- a graph without a fault

module _ (laws : AreLaws) (limits : Limits) (g : Graph) (known : AllKnown g)
    (faultless : graph_faults limits g ≡ []) where
  abbrev declared : List Declaration
  declared = declarations limits g

  abbrev Known : List ℕ → Type 0
  Known ids = AreKnown g.terms ids

  no_numbers : Known []
  no_numbers = All-nil (λ id. id < length g.terms)

  formed : (d : Declaration) → Contains declared d → IsWellFormed g.terms declared d
  formed = (laws.well_formed limits g faultless).each

  shape_at : (d : Declaration) → Contains declared d
      → (node : ℕ) × Contains (shape_nodes g) node × (d ≡ declaration_of limits g node)
  unfolding declarations
  shape_at d c = Contains-from_map (declaration_of limits g) (shape_nodes g) d c

  is_declared : (n : ℕ) → Contains (shape_nodes g) n → Contains (nodes_declared declared) n
  is_declared n c = subst (λ ns. Contains ns n) (sym (laws.of_shapes limits g)) c

  -- ---- paths

  along_known : (route : Route) → AreKnownAlong g route → Known (predicates_in route)
  along_known (along p) is = All-cons (λ id. id < length g.terms) p [] is no_numbers
  along_known here is = no_numbers
  along_known (first_then r s) is =
      All-append (λ id. id < length g.terms) (predicates_in r) (predicates_in s) (along_known r is.0)
      (along_known s is.1)
  along_known none is = no_numbers
  along_known (one_or_other r s) is =
      All-append (λ id. id < length g.terms) (predicates_in r) (predicates_in s) (along_known r is.0)
      (along_known s is.1)
  along_known (turned r) is = along_known r is
  along_known (any_times r) is = along_known r is
  along_known (some_times r) is = along_known r is
  along_known (perhaps r) is = along_known r is

  module _ (node : ℕ) (shape : Contains declared (declaration_of limits g node)) where
    abbrev d : Declaration
    d = declaration_of limits g node

    -- ---- values and lists

    values_are : (p : ℕ) → p < VOCABULARY_LEN → values_under d p ≡ objects_of g node p
    values_are p below = laws.values limits g node p below

    lists_are : (p : ℕ) → Contains list_predicates p
        → lists_under d p ≡ map (list_reading g) (objects_of g node p)
    lists_are p is_list = laws.lists limits g node p is_list

    values_ready : (p : ℕ) → p < VOCABULARY_LEN → AreValues g.terms (values_under d p)
    values_ready p below = record {
      known = of_values Known no_numbers d.values
          (laws.numbers limits g known d shape).values p;
      sorted = subst (IsStrictlySortedBy (id_cmp g.terms)) (sym (values_are p below))
          (in_term_order_lists g.terms _).sorted;
    }

    members_known : (list : ListReading) → Contains d.lists list → (members : Option (List ℕ))
        → list.members ≡ members → Known (members_or_none members)
    members_known list c (Some members) e = (laws.numbers limits g known d shape).members list members c e
    members_known list c None e = no_numbers

    lists_ready : (p : ℕ) → Contains list_predicates p
        → AreLists g.terms (values_under d p) (lists_under d p)
    lists_ready p is_list =
        let below : p < VOCABULARY_LEN =
        each_of_All (λ q. q < VOCABULARY_LEN) list_predicates lists_below p is_list in
        record {
          heads_are = ap (map (λ (list : ListReading). list.head)) (lists_are p is_list)
              ∙ map-map (λ (list : ListReading). list.head) (list_reading g) (objects_of g node p)
              ∙ map-id (objects_of g node p) ∙ sym (values_are p below);
          members = λ list c. members_known list (lists_of d p list c) list.members refl;
        }

    path_ready : (route : Route) → d.path ≡ Some (Read route) → IsPathWithin g.terms limits.path_depth route
    unfolding path_of
    path_ready route e = record {
      known = along_known route ((laws.numbers limits g known d shape).path route e);
      shallow = of_least (least (objects_of g node SH_PATH)) e;
    }
      where
        of_least : (head : Option ℕ) → option_map (path_reading limits g) head ≡ Some (Read route)
            → nesting route ≤ limits.path_depth
        of_least None e = cc
        of_least (Some head) e = laws.nest limits g head route cc

    is_ready : IsReady limits g.terms d
    is_ready = record {
      node = (laws.numbers limits g known d shape).node;
      values = values_ready;
      lists = lists_ready;
      path = path_ready;
      least = (formed d shape).one SH_QUALIFIED_MIN_COUNT one_least;
      most = (formed d shape).one SH_QUALIFIED_MAX_COUNT one_most;
      qualified = (formed d shape).one SH_QUALIFIED_VALUE_SHAPE one_qualified;
    }

    -- ---- what it names

    shape_named : (p n : ℕ) → Contains shape_predicates p → Contains (values_under d p) n
        → Contains (nodes_declared declared) n
    shape_named p n is_shape c =
        let of = each_of_All OfShapes shape_predicates shape_rows p is_shape in
        is_declared n
        (laws.shapes g known node p n is_shape (subst (λ vs. Contains vs n) (values_are p of.below) c)
        ((formed d shape).values p kind.IriOrBlank n of.nodes c))

    member_named : (p n : ℕ) → Contains shape_list_predicates p → Contains (members_under d p) n
        → Contains (nodes_declared declared) n
    member_named p n is_list c =
        let of = each_of_All OfShapeLists shape_list_predicates shape_list_rows p is_list in
        let members_of = λ (l : ListReading). members_or_none l.members in
        let at = Contains-from_flat_map members_of (lists_under d p) n c in
        let list = at.0 in
        let held = (formed d shape).lists p list at.1 in
        let within : Contains held.0 n = subst (λ ms. Contains (members_or_none ms) n) held.1 at.2 in
        let made = Contains-from_map (list_reading g) (objects_of g node p) list
        (subst (λ ls. Contains ls list) (lists_are p of.is_list) at.1) in
        let read : list_of g made.0 ≡ Some held.0 =
        sym (ap (λ (l : ListReading). l.members) made.2) ∙ held.1 in
        is_declared n
        (laws.members g known node p made.0 held.0 n is_list made.1 read within
        ((formed d shape).members p kind.IriOrBlank list held.0 n of.nodes at.1 held.1 within))

    is_named : (n : ℕ) → Contains (named_by d) n → Contains (nodes_declared declared) n
    is_named n c =
        let shapes = flat_map (values_under d) shape_predicates in
        let members = flat_map (members_under d) shape_list_predicates in
        elim (Contains-append_cases shapes members n c) [
          | inl i ↦
              let from = Contains-from_flat_map (values_under d) shape_predicates n i in
              shape_named from.0 n from.1 from.2
          | inr i ↦
              let from = Contains-from_flat_map (members_under d) shape_list_predicates n i in
              member_named from.0 n from.1 from.2
        ]

  -- ---- all of them

  named_declared : NameDeclared declared
  named_declared d n c named =
      let at = shape_at d c in
      is_named at.0 (subst (Contains declared) at.2 c) n (subst (λ e. Contains (named_by e) n) at.2 named)

  -- no more than there are terms
  declared_few : length declared ≤ length g.terms
  declared_few =
      subst (λ n. n ≤ length g.terms) (length-map declared (λ (d : Declaration). d.node))
      (few (nodes_declared declared) (length g.terms)
      (subst (IsDistinct nat_eq) (sym (laws.of_shapes limits g)) (laws.distinct g))
      (λ n c.
      let from = Contains-from_map (λ (d : Declaration). d.node) declared n c in
      subst (λ m. m < length g.terms) (sym from.2) (laws.numbers limits g known from.0 from.1).node))

  graph_ready : HasVocabulary g.terms → length g.terms < 2 ^ 32 → AreReady limits g.terms declared
  graph_ready vocabulary short = record {
    few = (let most = declared_few in omega (arith, short));
    ascending = subst (IsStrictlySortedBy (id_cmp g.terms)) (sym (laws.of_shapes limits g))
        (laws.listed g known).sorted;
    distinct = subst (IsDistinct nat_eq) (sym (laws.of_shapes limits g)) (laws.distinct g);
    named = named_declared;
    patterns = record { each = λ d c. (formed d c).one SH_PATTERN one_pattern };
    paths = record { each = λ d reading c e. (formed d c).path reading e };
    violation = violation_known g.terms vocabulary;
    each = λ d c.
        let at = shape_at d c in
        subst (IsReady limits g.terms) (sym at.2) (is_ready at.0 (subst (Contains declared) at.2 c));
  }

pub AreReady-faultless : AreLaws → (limits : Limits) (terms : List Term) (ds : List Declaration)
    → HasVocabulary terms → length terms < 2 ^ 32 → AreFaultless limits terms ds → AreReady limits terms ds
AreReady-faultless laws limits terms ds vocabulary short faultless =
    let g = faultless.graph in
    let same = sym faultless.terms_are in
    let ready = graph_ready laws limits g faultless.known faultless.faultless
    (subst HasVocabulary same vocabulary) (subst (λ ts. length ts < 2 ^ 32) same short) in
    subst (AreReady limits terms) (sym faultless.declared)
    (subst (λ ts. AreReady limits ts (declarations limits g)) faultless.terms_are ready)
