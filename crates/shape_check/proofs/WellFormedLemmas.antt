-- What follows where no rule is broken: of each rule, that nothing is among its offenders.
use Rattle.std.specs.Prelude.{◌≡◌, ℕ, ◌==◌, ◌≤◌, ◌&&◌, ◌||◌, Bool, true, false, not, List, [], ◌∷◌}
use Rattle.std.specs.Prelude.{Contains, codes, drop, filter, flat_map, if◌then◌else◌, length, map, slice_get}
use Rattle.std.specs.Prelude.{Option, Some, None, take}
use Rattle.std.specs.Cmp.{nat_eq_equiv}
use Rattle.std.specs.List.{list_any}
use Rattle.std.specs.Option.{is_none}
use Rattle.std.proofs.Common.{refl, sym, ap, ◌∙◌, subst, inl, inr, arith}
use Rattle.std.proofs.lemmas.Bool.{eqb-true}
use Rattle.std.proofs.lemmas.List.{length-drop}
use Rattle.std.proofs.lemmas.List.Elements.{Contains-append_left}
use Rattle.shx_term.specs.declared.limits.Limits.{Limits}
use Rattle.shx_term.specs.declared.term.Literal.{Literal}
use Rattle.shx_term.specs.declared.term.Term.{Term}
use Rattle.shx_term.specs.declared.term.Term.TheVariants.{Lit}
use Rattle.shx_term.specs.declared.vocabulary.TheConstants.{SH_PATH, SH_NODE, SH_PROPERTY, SH_FLAGS}
use Rattle.shx_term.proofs.MemberLemmas.{none_in_empty, Contains-head, Contains-tail, Contains-cases}
use Rattle.shx_term.proofs.MemberLemmas.{Contains-map, Contains-from_map, Contains-flat_map, Contains-filter}
use Rattle.graph_view.specs.Graph.{Graph}
use Rattle.path_eval.specs.Route.{Route}
use Rattle.shape_decl.specs.Declarations.{Declaration, ListReading, Values, declaration_of, declarations}
use Rattle.shape_decl.specs.Declarations.{lists_among, lists_in, lists_under, takes_lists, values_among}
use Rattle.shape_decl.specs.Declarations.{values_under}
use Rattle.shape_decl.specs.Laws.{HasReadItsPath}
use Rattle.shape_decl.specs.PathReadings.{RouteReading, Read, Broken as BrokenPath, TooDeep as DeepPath}
use Rattle.shape_decl.specs.Shapes.{members_or_none, shape_nodes}
use Rattle.shape_decl.proofs.UnderLemmas.{paths_read}
use Rattle.shape_check.specs.declared.kind.Expected.{Expected}
use Rattle.shape_check.specs.declared.kind.Expected.TheVariants.{Each, Lists}
use Rattle.shape_check.specs.declared.kind.ValueKind.{ValueKind}
use Rattle.shape_check.specs.declared.rule.Rule.{Rule}
use Rattle.shape_check.specs.declared.rule.Rule.TheVariants.{BadList, TooManyValues, WrongKind}
use Rattle.shape_check.specs.declared.rule.Rule.TheVariants.{NotOnNodeShape, BadPath, NotAPropertyShape}
use Rattle.shape_check.specs.declared.rule.Rule.TheVariants.{NotANodeShape, BadFlags, PathTooDeep}
use Rattle.shape_check.specs.Faults.{fault_at, faults, faults_before, faults_by, faults_of, first_if}
use Rattle.shape_check.specs.Faults.{has_path, has_unknown_flag, is_broken, is_too_deep, judged, kind_of}
use Rattle.shape_check.specs.Faults.{offenders, rules}
use Rattle.shape_check.specs.Kinds.{is_of_kind, literal_is}
use Rattle.shape_check.specs.Laws.{AcceptedGraphsAreWellFormed, AcceptedShapesAreWellFormed}
use Rattle.shape_check.specs.Laws.{IsWellFormed}
use Rattle.shape_check.specs.Restrictions.{is_one_of, property_parameters, restriction_of}

-- ---- lists

empty_of : {X : Type 0} (xs : List X) → ((x : X) → Contains xs x → ⊥) → xs ≡ []
empty_of [] none = refl
empty_of (x ∷ xs) none = absurd (none x (Contains-head x xs))

first_there : {X : Type 0} (xs : List X) (x : X) → Contains xs x → (y : X) × Contains (take 1 xs) y
first_there [] x c = absurd (none_in_empty x c)
first_there (y ∷ xs) x c = (y, Contains-head y [])

first_held : (b : Bool) (values : List ℕ) (value : ℕ) → b ≡ true → Contains values value
    → (first : ℕ) × Contains (first_if b values) first
first_held true values value so c = first_there values value c
first_held false values value so c = cc

one_at_most : (b : Bool) (values : List ℕ) → b ≡ true
    → ((value : ℕ) → Contains values value → (second : ℕ) → Contains (first_if b (drop 1 values)) second → ⊥)
    → length values ≤ 1
one_at_most b [] so none = omega arith
one_at_most b (v ∷ []) so none = omega arith
one_at_most b (v ∷ w ∷ values) so none =
    let second = first_held b (w ∷ values) w so (Contains-head w values) in
    absurd (none v (Contains-head v (w ∷ values)) second.0 second.1)

true_unless : (b : Bool) → (not b ≡ true → ⊥) → b ≡ true
true_unless true other = refl
true_unless false other = absurd (other refl)

false_unless : (b : Bool) → (b ≡ true → ⊥) → b ≡ false
false_unless true so = absurd (so refl)
false_unless false so = refl

or_true : (a b : Bool) → b ≡ true → a || b ≡ true
or_true true b e = refl
or_true false b e = e

any_held : (test : ℕ → Bool) (xs : List ℕ) (x : ℕ) → Contains xs x → test x ≡ true → list_any test xs ≡ true
any_held test [] x c so = absurd (none_in_empty x c)
any_held test (y ∷ xs) x c so = elim (Contains-cases y x xs c) [
  | inl e ↦ ap (λ b. b || list_any test xs) (ap test (sym e) ∙ so)
  | inr d ↦ or_true (test y) (list_any test xs) (any_held test xs x d so)
]

among : (xs : List ℕ) (x : ℕ) → Contains xs x → is_one_of xs x ≡ true
among xs x c = any_held (λ y. y == x) xs x c (nat_eq_equiv.refl x)

from_among : (xs : List ℕ) (x : ℕ) → is_one_of xs x ≡ true → Contains xs x
from_among [] x e = cc
from_among (y ∷ xs) x e =
    elim (y == x) as (λ b. (y == x) ≡ b → b || is_one_of xs x ≡ true → Contains (y ∷ xs) x) [
      | true ↦ λ same h. subst (λ z. Contains (y ∷ xs) z) (eqb-true y x same) (Contains-head y xs)
      | false ↦ λ other h. Contains-tail y x xs (from_among xs x h)
    ] refl e

-- ---- what stands under a predicate

value_row : (rows : List Values) (p value : ℕ) → Contains (values_among rows p) value
    → Contains rows (record { predicate = p; values = values_among rows p })
value_row [] p value c = absurd (none_in_empty value c)
value_row (row ∷ rows) p value c =
    elim (row.predicate == p) as
    (λ b. (row.predicate == p) ≡ b → Contains (if b then row.values else values_among rows p) value
    → Contains (row ∷ rows) (record {
      predicate = p;
      values = if b then row.values else values_among rows p;
    })) [
      | true ↦ λ e d.
          subst (λ q. Contains (row ∷ rows) (record { predicate = q; values = row.values }))
          (eqb-true row.predicate p e) (Contains-head row rows)
      | false ↦ λ e d.
          Contains-tail row (record { predicate = p; values = values_among rows p }) rows
          (value_row rows p value d)
    ] refl c

list_value : (rows : List Values) (lists : List ListReading) (p : ℕ) (list : ListReading)
    → Contains (lists_among rows lists p) list → (value : ℕ) × Contains (values_among rows p) value
list_value [] lists p list c = absurd (none_in_empty list c)
list_value (row ∷ rows) lists p list c =
    elim (row.predicate == p) as
    (λ b. Contains (if b then take (length row.values) lists
    else lists_among rows (drop (lists_in row) lists) p) list
    → (value : ℕ) × Contains (if b then row.values else values_among rows p) value) [
      | true ↦ λ d. of_row row.values d
      | false ↦ λ d. list_value rows (drop (lists_in row) lists) p list d
    ] c
  where
    of_row : (values : List ℕ) → Contains (take (length values) lists) list
        → (value : ℕ) × Contains values value
    of_row [] d = absurd (none_in_empty list d)
    of_row (v ∷ values) d = (v, Contains-head v values)

under_value : (d : Declaration) (p : ℕ) (list : ListReading) → Contains (lists_under d p) list
    → (value : ℕ) × Contains (values_under d p) value
under_value d p list c =
    elim (takes_lists p) as
    (λ b. Contains (if b then lists_among d.values d.lists p else []) list
    → (value : ℕ) × Contains (values_under d p) value) [
      | true ↦ λ held. list_value d.values d.lists p list held
      | false ↦ λ held. absurd (none_in_empty list held)
    ] c

-- ---- no fault

each_rule : (rule : Rule) → Contains rules rule
unfolding rules
each_rule BadList = (0, omega arith, refl)
each_rule TooManyValues = (1, omega arith, refl)
each_rule WrongKind = (2, omega arith, refl)
each_rule NotOnNodeShape = (3, omega arith, refl)
each_rule BadPath = (4, omega arith, refl)
each_rule NotAPropertyShape = (5, omega arith, refl)
each_rule NotANodeShape = (6, omega arith, refl)
each_rule BadFlags = (7, omega arith, refl)
each_rule PathTooDeep = (8, omega arith, refl)

module _ (limits : Limits) (terms : List Term) (ds : List Declaration)
    (fine : faults limits terms ds ≡ []) where
  none_past : drop limits.shapes ds ≡ []
  unfolding faults
  none_past = go (drop limits.shapes ds) fine
    where
      go : (past : List Declaration) → faults_before terms ds past ≡ [] → past ≡ []
      go [] e = refl
      go (d ∷ past) e = cc

  within : length ds ≤ limits.shapes
  within = omega (arith, length-drop limits.shapes ds, ap length none_past)

  none_of_all : flat_map (faults_of terms ds) ds ≡ []
  unfolding faults
  none_of_all = ap (faults_before terms ds) (sym none_past) ∙ fine

  module _ (d : Declaration) (held : Contains ds d) where
    no_offender : (rule : Rule) (row : Values) (term : ℕ) → Contains d.values row
        → Contains (offenders rule terms ds d row) term → ⊥
    no_offender rule row term of_shape breaks =
        let fault = fault_at rule d row.predicate term in
        let at = λ (v : Values). map (fault_at rule d v.predicate) (offenders rule terms ds d v) in
        let by_row =
        Contains-map (fault_at rule d row.predicate) (offenders rule terms ds d row) term breaks in
        let by_rule = Contains-flat_map at d.values row fault of_shape by_row in
        let of_d = Contains-flat_map (faults_by terms ds d) rules rule fault (each_rule rule) by_rule in
        let of_all = Contains-flat_map (faults_of terms ds) ds d fault held of_d in
        none_in_empty fault (subst (λ all. Contains all fault) none_of_all of_all)

    abbrev row_of : ℕ → Values
    row_of p = record { predicate = p; values = values_under d p }

    free : (rule : Rule) (p value : ℕ) → Contains (values_under d p) value → (term : ℕ)
        → Contains (offenders rule terms ds d (row_of p)) term → ⊥
    free rule p value c term breaks =
        no_offender rule (row_of p) term (value_row d.values p value c) breaks

    -- ---- rule by rule

    read_lists : (p : ℕ) (list : ListReading) → Contains (lists_under d p) list
        → (members : List ℕ) × (list.members ≡ Some members)
    read_lists p list c = go list.members refl
      where
        go : (members : Option (List ℕ)) → list.members ≡ members
            → (read : List ℕ) × (list.members ≡ Some read)
        go (Some members) e = (members, e)
        go None e =
            let value = under_value d p list c in
            let lists = lists_under d p in
            let broken =
            Contains-filter (λ (l : ListReading). is_none l.members) lists list c (ap is_none e) in
            absurd (free BadList p value.0 value.1 list.head
            (Contains-map (λ (l : ListReading). l.head) (filter (λ l. is_none l.members) lists) list broken))

    of_kind : (p : ℕ) (expected : Expected) (value member : ℕ) → (restriction_of p).expected ≡ expected
        → Contains (values_under d p) value → Contains (judged expected d (row_of p)) member
        → is_of_kind terms (kind_of expected) member ≡ true
    of_kind p expected value member is c inside =
        let offends = λ (e : Expected) (n : ℕ). not (is_of_kind terms (kind_of e) n) in
        true_unless (is_of_kind terms (kind_of expected) member) (λ other.
        free WrongKind p value c member
        (subst (λ e. Contains (filter (offends e) (judged e d (row_of p))) member) (sym is)
        (Contains-filter (offends expected) (judged expected d (row_of p)) member inside other)))

    of_members : (p : ℕ) (kind : ValueKind) (list : ListReading) (members : List ℕ) (member : ℕ)
        → (restriction_of p).expected ≡ Lists kind → Contains (lists_under d p) list
        → list.members ≡ Some members → Contains members member → is_of_kind terms kind member ≡ true
    of_members p kind list members member is c read inside =
        let value = under_value d p list c in
        of_kind p (Lists kind) value.0 member is value.1
        (Contains-flat_map (λ (l : ListReading). members_or_none l.members) (lists_under d p) list member c
        (subst (λ o. Contains (members_or_none o) member) (sym read) inside))

    -- where the shape has sh:path, and this is so of it, a rule is broken
    breaks_path : (rule : Rule) (b : Bool)
        → ((values : List ℕ) → offenders rule terms ds d (record { predicate = SH_PATH; values = values })
        ≡ first_if b values)
        → (head : ℕ) → Contains (values_under d SH_PATH) head → b ≡ true → ⊥
    breaks_path rule b offends head c so =
        let first = first_held b (values_under d SH_PATH) head so c in
        free rule SH_PATH head c first.0
        (subst (λ xs. Contains xs first.0) (sym (offends (values_under d SH_PATH))) first.1)

    read_path : HasReadItsPath d → (reading : RouteReading) → d.path ≡ Some reading
        → (route : Route) × (reading ≡ Read route)
    read_path stated (Read route) is = (route, refl)
    read_path stated BrokenPath is =
        let head = stated BrokenPath is in
        absurd (breaks_path BadPath (is_broken d.path) (λ values. refl) head.0 head.1 (ap is_broken is))
    read_path stated DeepPath is =
        let head = stated DeepPath is in
        absurd (breaks_path PathTooDeep (is_too_deep d.path) (λ values. refl) head.0 head.1
        (ap is_too_deep is))

    property_values : (value : ℕ) → Contains (values_under d SH_PROPERTY) value → has_path ds value ≡ true
    property_values value c =
        true_unless (has_path ds value) (λ other.
        free NotAPropertyShape SH_PROPERTY value c value
        (Contains-filter (λ n. not (has_path ds n)) (values_under d SH_PROPERTY) value c other))

    node_values : (value : ℕ) → Contains (values_under d SH_NODE) value → has_path ds value ≡ false
    node_values value c =
        false_unless (has_path ds value) (λ so.
        free NotANodeShape SH_NODE value c value
        (Contains-filter (has_path ds) (values_under d SH_NODE) value c so))

    no_path_at_instance : d.is_node_shape ≡ true → values_under d SH_PATH ≡ []
    no_path_at_instance so =
        empty_of (values_under d SH_PATH) (λ value c.
        let first = first_held d.is_node_shape (values_under d SH_PATH) value so c in
        free NotANodeShape SH_PATH value c first.0
        (Contains-append_left (first_if d.is_node_shape (values_under d SH_PATH)) [] first.0 first.1))

    at_property_shape : d.path ≡ None → (p : ℕ) → Contains property_parameters p → values_under d p ≡ []
    at_property_shape none p c =
        empty_of (values_under d p) (λ value held.
        let first =
        first_held (is_none d.path && is_one_of property_parameters p) (values_under d p) value
        (ap (λ o. is_none o && is_one_of property_parameters p) none ∙ among property_parameters p c) held in
        free NotOnNodeShape p value held first.0 first.1)

    known_flags : (value : ℕ) (literal : Literal) → Contains (values_under d SH_FLAGS) value
        → slice_get terms value ≡ Some (Lit literal) → (flag : ℕ) → Contains literal.lexical flag
        → Contains (codes "imsx") flag
    known_flags value literal c is flag inside =
        let unknown = λ (n : ℕ). literal_is has_unknown_flag (slice_get terms n) in
        from_among (codes "imsx") flag
        (true_unless (is_one_of (codes "imsx") flag) (λ other.
        free BadFlags SH_FLAGS value c value
        (Contains-filter unknown (values_under d SH_FLAGS) value c
        (ap (literal_is has_unknown_flag) is
        ∙ any_held (λ f. not (is_one_of (codes "imsx") f)) literal.lexical flag inside other))))

    well_formed : HasReadItsPath d → IsWellFormed terms ds d
    well_formed stated = record {
      lists = read_lists;
      one = λ p one.
          one_at_most (restriction_of p).one (values_under d p) one (λ value c second more.
          free TooManyValues p value c second more);
      values = λ p kind value is c. of_kind p (Each kind) value value is c c;
      members = of_members;
      path = read_path stated;
      properties = property_values;
      nodes = node_values;
      instance = no_path_at_instance;
      property_shape = at_property_shape;
      flags = known_flags;
    }

pub accepted : AcceptedShapesAreWellFormed
accepted limits terms ds fine stated = record {
  few = within limits terms ds fine;
  each = λ d held. well_formed limits terms ds fine d held (stated d held);
}

stated_all : (limits : Limits) (g : Graph) (d : Declaration) → Contains (declarations limits g) d
    → HasReadItsPath d
unfolding declarations
stated_all limits g d c =
    let made = Contains-from_map (declaration_of limits g) (shape_nodes g) d c in
    subst HasReadItsPath (sym made.2) (paths_read limits g made.0)

pub accepted_graph : AcceptedGraphsAreWellFormed
accepted_graph limits g fine = accepted limits g.terms (declarations limits g) fine (stated_all limits g)
