-- The numbers in results have terms.
use Rattle.std.specs.Prelude.{◌≡◌, ℕ, zero, suc, ◌<◌, Bool, true, false, List, [], ◌∷◌, Option}
use Rattle.std.specs.Prelude.{Some, None, map, flat_map, if◌then◌else◌, length, slice_get, All, IfSome}
use Rattle.std.proofs.Common.{refl}
use Rattle.std.proofs.lemmas.List.Elements.{All-append, All-cons, All-map, All-nil, All-replicate, All-weaker}
use Rattle.std.proofs.lemmas.Option.{slice_get_within}
use Rattle.shx_term.proofs.MemberLemmas.{each_of_All}
use Rattle.graph_view.specs.declared.key.Key.TheVariants.{Subject}
use Rattle.graph_view.specs.Graph.{Graph, AllKnown, HasTerms, IsKnownTriple, objects_of, triples_of}
use Rattle.graph_view.proofs.LookUpLemmas.{All-ordered, HasTerms-objects_of}
use Rattle.comp_core.specs.declared.pair.At.{At}
use Rattle.comp_core.specs.declared.pair.Pair.{Pair}
use Rattle.comp_core.specs.declared.detail.DetailRow.{DetailRow}
use Rattle.comp_core.specs.declared.row.ResultRow.{ResultRow}
use Rattle.comp_core.specs.declared.kinds.TheConstants.{CLASS, DATATYPE, NODE_KIND, MIN_COUNT, MAX_COUNT}
use Rattle.comp_core.specs.declared.kinds.TheConstants.{MIN_EXCLUSIVE, MIN_INCLUSIVE, MAX_EXCLUSIVE}
use Rattle.comp_core.specs.declared.kinds.TheConstants.{MAX_INCLUSIVE, MIN_LENGTH, MAX_LENGTH, PATTERN}
use Rattle.comp_core.specs.declared.kinds.TheConstants.{LANGUAGE_IN, UNIQUE_LANG, EQUALS, DISJOINT}
use Rattle.comp_core.specs.declared.kinds.TheConstants.{LESS_THAN, LESS_THAN_OR_EQUALS, NOT, AND, OR, XONE}
use Rattle.comp_core.specs.declared.kinds.TheConstants.{NODE, QUALIFIED_MIN_COUNT, QUALIFIED_MAX_COUNT}
use Rattle.comp_core.specs.declared.kinds.TheConstants.{CLOSED, HAS_VALUE, IN}
use Rattle.comp_core.specs.Asking.{pair_of}
use Rattle.comp_core.specs.Results.{each_unless, once_if, resting_on, unless}
use Rattle.comp_core.specs.Rows.{detail_of, is_empty, plain_row, row_over}
use Rattle.value_components.specs.Tags.{tag_at}
use Rattle.value_components.specs.UniqueLang.{repeated_tags}
use Rattle.pair_components.specs.PairResults.{each_beside, each_pair_unless}
use Rattle.qualified_shapes.specs.Closed.{closed_at, closed_hit, is_allowed}
use Rattle.shape_eval.specs.declared.constraint.Constraint.{Constraint}
use Rattle.shape_eval.specs.declared.constraint.Constraint.TheVariants as any
use Rattle.shape_eval.specs.declared.shape.PlanShape.{PlanShape}
use Rattle.shape_eval.specs.Constraint.{constraint_hits}
use Rattle.shape_eval.specs.Laws.{IsKnownFinding, IsKnownRow, ResultsHaveTerms}
use Rattle.shape_eval.specs.Results.{at_of, hits_of_each, results_within, shape_results, value_nodes}
use Rattle.shape_eval.proofs.PartLemmas.{All_of_parts}
use Rattle.shape_eval.proofs.ShapeLemmas.{values_known}

module _ (g : Graph) (known : AllKnown g) (count : ℕ) where
  abbrev IsKnown : ResultRow → Type 0
  IsKnown row = IsKnownRow g.terms count row

  abbrev AreKnown : List ResultRow → Type 0
  AreKnown rows = All IsKnown rows

  none_known : AreKnown []
  none_known = All-nil IsKnown

  one_known : (row : ResultRow) → IsKnown row → AreKnown (row ∷ [])
  one_known row is = All-cons IsKnown row [] is none_known

  unless_off : (off : Bool) (rows : List ResultRow) → AreKnown rows → AreKnown (if off then [] else rows)
  unless_off true rows are = none_known
  unless_off false rows are = are

  -- ---- at a place

  module _ (at : At) (focus : at.focus < length g.terms) (shape : at.shape < count) where
    found_known : (value predicate : Option ℕ) → IfSome value (λ id. id < length g.terms)
        → IfSome predicate (λ id. id < length g.terms) → (details : List DetailRow)
        → All (IsKnownFinding g.terms count) details → (kind : ℕ)
        → IsKnown (row_over details at.focus value predicate at.shape kind)
    found_known value predicate v p details those kind = record {
      found = record { focus = focus; value = v; predicate = p; shape = shape };
      details = those;
    }

    plain_known : (value predicate : Option ℕ) → IfSome value (λ id. id < length g.terms)
        → IfSome predicate (λ id. id < length g.terms) → (kind : ℕ)
        → IsKnown (plain_row at.focus value predicate at.shape kind)
    plain_known value predicate v p kind =
        found_known value predicate v p [] (All-nil (IsKnownFinding g.terms count)) kind

    bare_known : (kind : ℕ) → IsKnown (plain_row at.focus None None at.shape kind)
    bare_known kind = plain_known None None tt tt kind

    once_known : (is_so : Bool) (kind : ℕ) → AreKnown (once_if is_so kind at)
    once_known true kind = one_known (plain_row at.focus None None at.shape kind) (bare_known kind)
    once_known false kind = none_known

    unless_known : (is_fine : Bool) (kind node : ℕ) → node < length g.terms
        → AreKnown (unless is_fine kind at node)
    unless_known is_fine kind node inside =
        let row = plain_row at.focus (Some node) None at.shape kind in
        unless_off is_fine (row ∷ []) (one_known row (plain_known (Some node) None inside tt kind))

    resting_known : (found : List ResultRow) (kind node : ℕ) → node < length g.terms → AreKnown found
        → AreKnown (resting_on found kind at node)
    resting_known found kind node inside are =
        let row = row_over (map detail_of found) at.focus (Some node) None at.shape kind in
        let details = All-map (IsKnownFinding g.terms count) detail_of found
        (All-weaker IsKnown (λ r. IsKnownFinding g.terms count (detail_of r)) (λ r is. is.found) found are) in
        unless_off (is_empty found) (row ∷ [])
        (one_known row (found_known (Some node) None inside tt (map detail_of found) details kind))

    each_known : (is_fine : ℕ → Bool) (kind : ℕ) (vs : List ℕ) → HasTerms g vs
        → AreKnown (each_unless is_fine kind at vs)
    each_known is_fine kind vs values =
        All_of_parts IsKnown (λ v. unless (is_fine v) kind at v) vs (λ v c.
        unless_known (is_fine v) kind v (each_of_All (λ id. id < length g.terms) vs values v c))

    pairs_known : (is_fine : ℕ → ℕ → Bool) (kind : ℕ) (others vs : List ℕ) → HasTerms g vs
        → AreKnown (each_pair_unless is_fine kind at others vs)
    pairs_known is_fine kind others vs values =
        All_of_parts IsKnown (each_beside is_fine kind at others) vs (λ v c.
        All_of_parts IsKnown (λ w. unless (is_fine v w) kind at v) others (λ w _.
        unless_known (is_fine v w) kind v (each_of_All (λ id. id < length g.terms) vs values v c)))

    closed_known : (permitted ignored vs : List ℕ) → AreKnown (closed_at permitted ignored g at vs)
    closed_known permitted ignored vs =
        All_of_parts IsKnown (λ v. flat_map (closed_hit permitted ignored at) (triples_of g v)) vs (λ v _.
        All_of_parts IsKnown (closed_hit permitted ignored at) (triples_of g v) (λ t c.
        let numbers = each_of_All (IsKnownTriple g.terms) (triples_of g v)
        (All-ordered g known (Subject v)) t c in
        let row = plain_row at.focus (Some t.o) (Some t.p) at.shape CLOSED in
        unless_off (is_allowed permitted ignored t.p) (row ∷ [])
        (one_known row (plain_known (Some t.o) (Some t.p) numbers.o numbers.p CLOSED))))

    -- ---- of a constraint, by what is so of the pairs that it asks

    module _ (m : Pair → List ResultRow) (told : (d : Pair) → d.node < length g.terms → AreKnown (m d))
        (vs : List ℕ) (values : HasTerms g vs) where
      objects : (p : ℕ) → HasTerms g (objects_of g at.focus p)
      objects p = HasTerms-objects_of g known at.focus p

      hits_known : (c : Constraint) → AreKnown (constraint_hits c g m at vs)
      hits_known (any.Class c) = each_known _ CLASS vs values
      hits_known (any.Datatype c) = each_known _ DATATYPE vs values
      hits_known (any.NodeKind c) = each_known _ NODE_KIND vs values
      hits_known (any.MinCount c) = once_known _ MIN_COUNT
      hits_known (any.MaxCount c) = once_known _ MAX_COUNT
      hits_known (any.MinExclusive c) = each_known _ MIN_EXCLUSIVE vs values
      hits_known (any.MinInclusive c) = each_known _ MIN_INCLUSIVE vs values
      hits_known (any.MaxExclusive c) = each_known _ MAX_EXCLUSIVE vs values
      hits_known (any.MaxInclusive c) = each_known _ MAX_INCLUSIVE vs values
      hits_known (any.MinLength c) = each_known _ MIN_LENGTH vs values
      hits_known (any.MaxLength c) = each_known _ MAX_LENGTH vs values
      hits_known (any.Pattern c) = each_known _ PATTERN vs values
      hits_known (any.LanguageIn c) = each_known _ LANGUAGE_IN vs values
      hits_known (any.UniqueLang c) =
          All-replicate IsKnown (length (repeated_tags (map (tag_at g) vs)))
          (plain_row at.focus None None at.shape UNIQUE_LANG) (bare_known UNIQUE_LANG)
      hits_known (any.Equals c) =
          All-append IsKnown _ _ (each_known _ EQUALS vs values)
          (each_known _ EQUALS (objects_of g at.focus c.value) (objects c.value))
      hits_known (any.Disjoint c) = each_known _ DISJOINT vs values
      hits_known (any.LessThan c) = pairs_known _ LESS_THAN (objects_of g at.focus c.value) vs values
      hits_known (any.LessThanOrEquals c) =
          pairs_known _ LESS_THAN_OR_EQUALS (objects_of g at.focus c.value) vs values
      hits_known (any.Not c) = each_known _ NOT vs values
      hits_known (any.And c) = each_known _ AND vs values
      hits_known (any.Or c) = each_known _ OR vs values
      hits_known (any.Xone c) = each_known _ XONE vs values
      hits_known (any.Node c) =
          All_of_parts IsKnown (λ v. resting_on (m (pair_of v c.shape)) NODE at v) vs (λ v i.
          let inside = each_of_All (λ id. id < length g.terms) vs values v i in
          resting_known (m (pair_of v c.shape)) NODE v inside (told (pair_of v c.shape) inside))
      hits_known (any.Property c) =
          All_of_parts IsKnown (λ v. m (pair_of v c.shape)) vs (λ v i.
          told (pair_of v c.shape) (each_of_All (λ id. id < length g.terms) vs values v i))
      hits_known (any.QualifiedMinCount c) = once_known _ QUALIFIED_MIN_COUNT
      hits_known (any.QualifiedMaxCount c) = once_known _ QUALIFIED_MAX_COUNT
      hits_known (any.Closed c) = closed_known c.permitted c.ignored vs
      hits_known (any.HasValue c) = once_known _ HAS_VALUE
      hits_known (any.In c) = each_known _ IN vs values

  -- ---- of a shape, and by levels

  rows_of_shape : (m : Pair → List ResultRow) → ((d : Pair) → d.node < length g.terms → AreKnown (m d))
      → (o : Option PlanShape) (p : Pair) → ((sh : PlanShape) → o ≡ Some sh → p.shape < count)
      → p.node < length g.terms → AreKnown (shape_results g m o p)
  rows_of_shape m told None p within inside = none_known
  rows_of_shape m told (Some sh) p within inside =
      let vs = value_nodes g sh.path p.node in
      let cs = sh.constraints.items in
      unless_off sh.deactivated (hits_of_each g m cs (at_of p) vs)
      (All_of_parts IsKnown (λ c. constraint_hits c g m (at_of p) vs) cs (λ c _.
      hits_known (at_of p) inside (within sh refl) m told vs (values_known g known sh.path p.node inside) c))

pub results_known : ResultsHaveTerms
results_known shapes g known p inside = rows_within shapes g known (length shapes) p inside
  where
    rows_within : (shapes : List PlanShape) (g : Graph) (known : AllKnown g) (k : ℕ) (p : Pair)
        → p.node < length g.terms
        → All (IsKnownRow g.terms (length shapes)) (results_within k shapes g p)
    rows_within shapes g known zero p inside = none_known g known (length shapes)
    rows_within shapes g known (suc k) p inside =
        rows_of_shape g known (length shapes) (results_within k shapes g) (rows_within shapes g known k)
        (slice_get shapes p.shape) p (slice_get_within shapes p.shape) inside
