-- The numbers that are declared have terms.
use Rattle.std.specs.Prelude.{◌≡◌, ℕ, ◌==◌, ◌<◌, zero, suc, true, List, [], ◌∷◌, map}
use Rattle.std.specs.Prelude.{Contains, Option, Some, None, length, slice_get}
use Rattle.std.specs.Option.{option_map}
use Rattle.std.proofs.Common.{refl, sym, ap, ◌∙◌, subst, inl, inr, arith}
use Rattle.shx_term.specs.declared.limits.Limits.{Limits}
use Rattle.shx_term.specs.declared.term.Term.{Term}
use Rattle.shx_term.specs.declared.vocabulary.TheConstants.{RDF_FIRST, RDF_NIL, RDF_REST, SH_PATH}
use Rattle.shx_term.specs.TermKinds.{is_iri_or_blank, is_node}
use Rattle.shx_term.proofs.MemberLemmas.{none_in_empty, Contains-head, Contains-cases, Contains-from_map}
use Rattle.shx_term.proofs.MemberLemmas.{Contains-from_flat_map, All_of_each}
use Rattle.graph_view.specs.Graph.{Graph, AllKnown, HasTerms, objects_of}
use Rattle.graph_view.proofs.LookUpLemmas.{HasTerms-objects_of, known_object}
use Rattle.path_eval.specs.Route.{Route, sequence, alternative}
use Rattle.shape_decl.specs.Declarations.{ListReading, Values, declaration_of, declarations, least}
use Rattle.shape_decl.specs.Declarations.{list_reading, lists_of, path_of, predicates, unless_empty}
use Rattle.shape_decl.specs.Declarations.{values_of}
use Rattle.shape_decl.specs.Lists.{cell_at, IsListOf}
use Rattle.shape_decl.specs.Numbers.{AreKnownAlong, DeclaredNumbersHaveTerms, HasKnownNumbers}
use Rattle.shape_decl.specs.PathForms.{PathForm, Predicate, Sequence, Alternative, Inverse, ZeroOrMore}
use Rattle.shape_decl.specs.PathForms.{OneOrMore, ZeroOrOne, Formless, form_of, form_of_term}
use Rattle.shape_decl.specs.PathReadings.{Read, parts_or_fault, path_reading, route_at, route_by}
use Rattle.shape_decl.specs.PathReadings.{unfolded}
use Rattle.shape_decl.specs.Shapes.{shape_nodes}
use Rattle.shape_decl.specs.Tables.{list_predicates}
use Rattle.shape_decl.proofs.ListLemmas.{first_of_link, lists_read}
use Rattle.shape_decl.proofs.NestingLemmas.{same_route}
use Rattle.shape_decl.proofs.ShapeLemmas.{shapes_listed}

-- a number has a term where a test of its term is met
below_of : (terms : List Term) (n : ℕ) (term : Term) → slice_get terms n ≡ Some term → n < length terms
below_of [] n term e = cc
below_of (t ∷ terms) zero term e = omega arith
below_of (t ∷ terms) (suc n) term e = omega (arith, below_of terms n term e)

node_known : (terms : List Term) (n : ℕ) → is_node terms n ≡ true → n < length terms
node_known terms n is = go (slice_get terms n) refl is
  where
    go : (term : Option Term) → slice_get terms n ≡ term → is_iri_or_blank term ≡ true → n < length terms
    go None e h = cc
    go (Some term) e h = below_of terms n term e

module _ (g : Graph) (known : AllKnown g) where
  -- ---- lists

  members_known : (members : List ℕ) (node : ℕ) → IsListOf (cell_at g) node members → (member : ℕ)
      → Contains members member → member < length g.terms
  members_known [] node list member c = absurd (none_in_empty member c)
  members_known (m ∷ members) node list member c = elim (Contains-cases m member members c) [
    | inl e ↦
        let firsts = objects_of g node RDF_FIRST in
        let one = first_of_link (node == RDF_NIL) firsts (objects_of g node RDF_REST) m list.0 list.1 in
        subst (λ n. n < length g.terms) (sym e)
        (known_object g known node RDF_FIRST m (subst (λ xs. Contains xs m) (sym one) (Contains-head m [])))
    | inr d ↦ members_known members list.0 list.2 member d
  ]

  -- ---- paths

  predicate_known : (node : ℕ) → form_of g node ≡ Predicate → node < length g.terms
  unfolding form_of
  predicate_known node is = go (slice_get g.terms node) refl is
    where
      go : (term : Option Term) → slice_get g.terms node ≡ term → form_of_term g node term ≡ Predicate
          → node < length g.terms
      go None e h = cc
      go (Some term) e h = below_of g.terms node term e

  module _ (inner : ℕ → Route) (each : (node : ℕ) → AreKnownAlong g (inner node)) where
    along_sequence : (nodes : List ℕ) → AreKnownAlong g (sequence (map inner nodes))
    along_sequence [] = tt
    along_sequence (node ∷ nodes) = (each node, along_sequence nodes)

    along_alternative : (nodes : List ℕ) → AreKnownAlong g (alternative (map inner nodes))
    along_alternative [] = tt
    along_alternative (node ∷ nodes) = (each node, along_alternative nodes)

    along_form : (node : ℕ) (form : PathForm) → form_of g node ≡ form
        → AreKnownAlong g (route_by inner node form)
    along_form node Predicate is = predicate_known node is
    along_form node (Sequence nodes) is = along_sequence nodes
    along_form node (Alternative nodes) is = along_alternative nodes
    along_form node (Inverse inside) is = each inside
    along_form node (ZeroOrMore inside) is = each inside
    along_form node (OneOrMore inside) is = each inside
    along_form node (ZeroOrOne inside) is = each inside
    along_form node Formless is = tt

  along_route : (levels node : ℕ) → AreKnownAlong g (route_at g levels node)
  along_route zero node = tt
  along_route (suc levels) node =
      along_form (route_at g levels) (along_route levels) node (form_of g node) refl

  -- ---- declarations

  module _ (limits : Limits) (node : ℕ) where
    values_known : (row : Values) → Contains (values_of g node) row → HasTerms g row.values
    unfolding values_of
    values_known row c =
        let objects = λ (p : ℕ). unless_empty p (objects_of g node p) in
        let found = Contains-from_flat_map objects predicates row c in
        of_row found.0 (objects_of g node found.0) (HasTerms-objects_of g known node found.0) found.2
      where
        of_row : (p : ℕ) (values : List ℕ) → HasTerms g values → Contains (unless_empty p values) row
            → HasTerms g row.values
        of_row p [] has d = absurd (none_in_empty row d)
        of_row p (v ∷ values) has d =
            elim (Contains-cases (record { predicate = p; values = v ∷ values }) row [] d) [
              | inl e ↦ subst (HasTerms g) (sym (ap (λ (r : Values). r.values) e)) has
              | inr more ↦ absurd (none_in_empty row more)
            ]

    list_from : (list : ListReading) → Contains (lists_of g node) list
        → (p : ℕ) × (head : ℕ) × Contains (objects_of g node p) head × (list ≡ list_reading g head)
    unfolding lists_of
    list_from list c =
        let readings = λ (p : ℕ). map (list_reading g) (objects_of g node p) in
        let found = Contains-from_flat_map readings list_predicates list c in
        let made = Contains-from_map (list_reading g) (objects_of g node found.0) list found.2 in
        (found.0, made.0, made.1, made.2)

    head_known : (list : ListReading) → Contains (lists_of g node) list → list.head < length g.terms
    head_known list c =
        let from = list_from list c in
        subst (λ n. n < length g.terms) (sym (ap (λ (l : ListReading). l.head) from.3))
        (known_object g known node from.0 from.1 from.2)

    list_known : (list : ListReading) (members : List ℕ) → Contains (lists_of g node) list
        → list.members ≡ Some members → HasTerms g members
    list_known list members c read =
        let from = list_from list c in
        let is = sym (ap (λ (l : ListReading). l.members) from.3) ∙ read in
        let listed = (lists_read g from.1 members).0 is in
        All_of_each (λ id. id < length g.terms) members (members_known members from.1 listed)

    path_known : (route : Route) → path_of limits g node ≡ Some (Read route) → AreKnownAlong g route
    unfolding path_of
    path_known route is = of_least (least (objects_of g node SH_PATH)) is
      where
        of_least : (head : Option ℕ) → option_map (path_reading limits g) head ≡ Some (Read route)
            → AreKnownAlong g route
        of_least None e = cc
        of_least (Some head) e =
            let reading : path_reading limits g head ≡ Read route = cc in
            let counted = parts_or_fault limits g 0 (unfolded g (suc limits.path_depth) 1 head) in
            subst (AreKnownAlong g) (same_route (route_at g limits.path_depth head) route counted reading)
            (along_route limits.path_depth head)

pub numbers_known : DeclaredNumbersHaveTerms
unfolding declarations
numbers_known limits g known d c =
    let made = Contains-from_map (declaration_of limits g) (shape_nodes g) d c in
    let node = made.0 in
    let is_shape = ((shapes_listed g known).each node).0 made.1 in
    subst (HasKnownNumbers g) (sym made.2) (record {
      node = node_known g.terms node is_shape.node;
      values = values_known g known limits node;
      heads = head_known g known limits node;
      members = list_known g known limits node;
      path = path_known g known limits node;
    })
