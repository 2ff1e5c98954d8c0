-- What a constraint asks, finds and reads is a function of its demand and of the shapes that it names.
use Rattle.std.specs.Prelude.{◌≡◌, ◌==◌, ◌++◌, ◌&&◌, ℕ, nat_le, Bool, not, List, [], ◌∷◌, true, false}
use Rattle.std.specs.Prelude.{flat_map, map, length, replicate, None, Option, if◌then◌else◌, slice_get}
use Rattle.std.specs.List.{list_all, list_any}
use Rattle.std.specs.Option.{unwrap_or}
use Rattle.std.proofs.Common.{refl}
use Rattle.shx_outside.specs.declared.flags.Flags.{Flags}
use Rattle.graph_view.specs.declared.key.Key.{Key}
use Rattle.graph_view.specs.declared.key.Key.TheVariants.{Out}
use Rattle.graph_view.specs.Graph.{Graph, objects_of}
use Rattle.value_space.specs.Compared.{is_less_term, is_less_eq_term}
use Rattle.value_space.specs.Counts.{is_fewer, is_more}
use Rattle.comp_core.specs.declared.kinds.TheConstants.{CLASS, DATATYPE, NODE_KIND, MIN_COUNT, MAX_COUNT}
use Rattle.comp_core.specs.declared.kinds.TheConstants.{MIN_EXCLUSIVE, MIN_INCLUSIVE, MAX_EXCLUSIVE}
use Rattle.comp_core.specs.declared.kinds.TheConstants.{MAX_INCLUSIVE, MIN_LENGTH, MAX_LENGTH, PATTERN}
use Rattle.comp_core.specs.declared.kinds.TheConstants.{LANGUAGE_IN, UNIQUE_LANG, EQUALS, DISJOINT}
use Rattle.comp_core.specs.declared.kinds.TheConstants.{LESS_THAN, LESS_THAN_OR_EQUALS, NOT, AND, OR, XONE}
use Rattle.comp_core.specs.declared.kinds.TheConstants.{NODE, PROPERTY, QUALIFIED_MIN_COUNT}
use Rattle.comp_core.specs.declared.kinds.TheConstants.{QUALIFIED_MAX_COUNT, CLOSED, HAS_VALUE}
use Rattle.comp_core.specs.declared.pair.At.{At}
use Rattle.comp_core.specs.declared.pair.Pair.{Pair}
use Rattle.comp_core.specs.declared.row.ResultRow.{ResultRow}
use Rattle.comp_core.specs.Asking.{asked_keys, conforming_of, conforms, pair_of, pairs_asked}
use Rattle.comp_core.specs.Results.{each_unless, once_if, resting_on}
use Rattle.comp_core.specs.Rows.{plain_row}
use Rattle.comp_core.specs.TermTests.{are_so_at, is_among, is_so_at}
use Rattle.value_components.specs.Class.{class_reads, is_of_class}
use Rattle.value_components.specs.Datatype.{is_typed_by}
use Rattle.value_components.specs.LanguageIn.{is_spoken}
use Rattle.value_components.specs.MaxLength.{is_short}
use Rattle.value_components.specs.MinLength.{is_long}
use Rattle.value_components.specs.NodeKind.{is_of_kind}
use Rattle.value_components.specs.Pattern.{has_match}
use Rattle.value_components.specs.Tags.{tag_at}
use Rattle.value_components.specs.UniqueLang.{repeated_tags}
use Rattle.pair_components.specs.Equals.{each_missing}
use Rattle.pair_components.specs.PairResults.{each_pair_unless}
use Rattle.qualified_shapes.specs.Closed.{closed_at, closed_reads}
use Rattle.qualified_shapes.specs.Qualified.{qualified_count}
use Rattle.shape_eval.specs.declared.constraint.Constraint.{Constraint}
use Rattle.shape_eval.specs.declared.constraint.Constraint.TheVariants as any
use Rattle.shape_eval.specs.Constraint.{constraint_asks, constraint_hits, constraint_reads, shapes_named}
use Rattle.shape_eval.specs.Content.{Content, Demand, Matches, Members, Names, Permits}
use Rattle.shape_eval.specs.Content.{content_of, demand_of}

-- ---- the parts of a demand

abbrev pub value_of : Demand → ℕ
value_of d = unwrap_or d.parameter 0

abbrev pub text_in : Content → List ℕ
text_in (Matches text flags) = text
text_in content = []

abbrev pub flags_in : Content → Flags
flags_in (Matches text flags) = flags
flags_in content = record { i = false; m = false; s = false; x = false }

abbrev pub members_in : Content → List ℕ
members_in (Members members) = members
members_in content = []

abbrev pub nodes_in : Content → List (Option ℕ)
nodes_in (Names nodes) = nodes
nodes_in content = []

abbrev pub permitted_in : Content → List ℕ
permitted_in (Permits permitted ignored) = permitted
permitted_in content = []

abbrev pub ignored_in : Content → List ℕ
ignored_in (Permits permitted ignored) = ignored
ignored_in content = []

-- what is found by the first of some shapes and the others
abbrev pub by_first : (ℕ → List ℕ → List ResultRow) → List ℕ → List ResultRow
by_first hits [] = []
by_first hits (n ∷ ns) = hits n ns

-- ---- what is found by it

-- the test of each value node of what asks no shape
abbrev pub value_test : Demand → Graph → ℕ → ℕ → Bool
value_test d g focus =
    if d.kind == CLASS then is_of_class g (value_of d)
    else if d.kind == DATATYPE then are_so_at is_typed_by g (value_of d)
    else if d.kind == NODE_KIND then is_so_at (is_of_kind (value_of d)) g
    else if d.kind == MIN_EXCLUSIVE then are_so_at is_less_term g (value_of d)
    else if d.kind == MIN_INCLUSIVE then are_so_at is_less_eq_term g (value_of d)
    else if d.kind == MAX_EXCLUSIVE then are_so_at (λ bound t. is_less_term t bound) g (value_of d)
    else if d.kind == MAX_INCLUSIVE then are_so_at (λ bound t. is_less_eq_term t bound) g (value_of d)
    else if d.kind == MIN_LENGTH then are_so_at is_long g (value_of d)
    else if d.kind == MAX_LENGTH then are_so_at is_short g (value_of d)
    else if d.kind == PATTERN then is_so_at (has_match (text_in d.content) (flags_in d.content)) g
    else if d.kind == LANGUAGE_IN then is_spoken g (members_in d.content)
    else if d.kind == DISJOINT then (λ v. not (is_among v (objects_of g focus (value_of d))))
    else (λ v. is_among v (members_in d.content))

-- what is so of the value nodes together
abbrev pub count_test : Demand → Graph → List ℕ → Bool
count_test d g vs =
    if d.kind == MIN_COUNT then is_so_at (is_fewer (length vs)) g (value_of d)
    else if d.kind == MAX_COUNT then is_so_at (is_more (length vs)) g (value_of d)
    else not (is_among (value_of d) vs)

abbrev pub is_counted : ℕ → Bool
is_counted kind = if kind == MIN_COUNT then true else if kind == MAX_COUNT then true else kind == HAS_VALUE

abbrev pub order_test : Demand → Graph → ℕ → ℕ → Bool
order_test d g = if d.kind == LESS_THAN then are_so_at is_less_term g else are_so_at is_less_eq_term g

abbrev pub is_ordered : ℕ → Bool
is_ordered kind = if kind == LESS_THAN then true else kind == LESS_THAN_OR_EQUALS

module _ (d : Demand) (g : Graph) (m : Pair → List ResultRow) (at : At) (vs : List ℕ) where
  abbrev pub negated_hits : ℕ → List ℕ → List ResultRow
  negated_hits i others = each_unless (λ v. not (conforms m v i)) d.kind at vs

  abbrev pub node_hits : ℕ → List ℕ → List ResultRow
  node_hits i others = flat_map (λ v. resting_on (m (pair_of v i)) d.kind at v) vs

  abbrev pub passed_on : ℕ → List ℕ → List ResultRow
  passed_on i others = flat_map (λ v. m (pair_of v i)) vs

  abbrev pub fewer_hits : ℕ → List ℕ → List ResultRow
  fewer_hits i others =
      once_if (is_so_at (is_fewer (qualified_count m i others vs)) g (value_of d)) d.kind at

  abbrev pub more_hits : ℕ → List ℕ → List ResultRow
  more_hits i others = once_if (is_so_at (is_more (qualified_count m i others vs)) g (value_of d)) d.kind at

-- the results of a constraint of this demand that names these shapes
abbrev pub hits_by : Demand → List ℕ → Graph → (Pair → List ResultRow) → At → List ℕ → List ResultRow
hits_by d named g m at vs =
    if is_counted d.kind then once_if (count_test d g vs) d.kind at
    else if d.kind == UNIQUE_LANG then
    replicate (length (repeated_tags (map (tag_at g) vs))) (plain_row at.focus None None at.shape d.kind)
    else if d.kind == EQUALS then
    each_missing at (objects_of g at.focus (value_of d)) vs
    ++ each_missing at vs (objects_of g at.focus (value_of d))
    else if is_ordered d.kind then
    each_pair_unless (order_test d g) d.kind at (objects_of g at.focus (value_of d)) vs
    else if d.kind == NOT then by_first (negated_hits d g m at vs) named
    else if d.kind == AND then each_unless (λ v. list_all (conforms m v) named) d.kind at vs
    else if d.kind == OR then each_unless (λ v. list_any (conforms m v) named) d.kind at vs
    else if d.kind == XONE then each_unless (λ v. conforming_of m named v == 1) d.kind at vs
    else if d.kind == NODE then by_first (node_hits d g m at vs) named
    else if d.kind == PROPERTY then by_first (passed_on d g m at vs) named
    else if d.kind == QUALIFIED_MIN_COUNT then by_first (fewer_hits d g m at vs) named
    else if d.kind == QUALIFIED_MAX_COUNT then by_first (more_hits d g m at vs) named
    else if d.kind == CLOSED then closed_at (permitted_in d.content) (ignored_in d.content) g at vs
    else each_unless (value_test d g at.focus) d.kind at vs

abbrev pub is_between : ℕ → ℕ → ℕ → Bool
is_between low high kind = nat_le low kind && nat_le kind high

-- what it reads
abbrev pub reads_by : Demand → List ℕ → Graph → (Pair → List Key) → ℕ → List ℕ → List Key
reads_by d named g r focus vs =
    if d.kind == CLASS then class_reads g vs
    else if is_between EQUALS LESS_THAN_OR_EQUALS d.kind then Out focus (value_of d) ∷ []
    else if is_between NOT QUALIFIED_MAX_COUNT d.kind then asked_keys r named vs
    else if d.kind == CLOSED then closed_reads vs
    else []

-- ---- these are the constraint's

module _ (nodes : List ℕ) where
  pub found_by : (c : Constraint) (g : Graph) (m : Pair → List ResultRow) (at : At) (vs : List ℕ)
      → constraint_hits c g m at vs ≡ hits_by (demand_of nodes c) (shapes_named c) g m at vs
  found_by (any.Class c) g m at vs = refl
  found_by (any.Datatype c) g m at vs = refl
  found_by (any.NodeKind c) g m at vs = refl
  found_by (any.MinCount c) g m at vs = refl
  found_by (any.MaxCount c) g m at vs = refl
  found_by (any.MinExclusive c) g m at vs = refl
  found_by (any.MinInclusive c) g m at vs = refl
  found_by (any.MaxExclusive c) g m at vs = refl
  found_by (any.MaxInclusive c) g m at vs = refl
  found_by (any.MinLength c) g m at vs = refl
  found_by (any.MaxLength c) g m at vs = refl
  found_by (any.Pattern c) g m at vs = refl
  found_by (any.LanguageIn c) g m at vs = refl
  found_by (any.UniqueLang c) g m at vs = refl
  found_by (any.Equals c) g m at vs = refl
  found_by (any.Disjoint c) g m at vs = refl
  found_by (any.LessThan c) g m at vs = refl
  found_by (any.LessThanOrEquals c) g m at vs = refl
  found_by (any.Not c) g m at vs = refl
  found_by (any.And c) g m at vs = refl
  found_by (any.Or c) g m at vs = refl
  found_by (any.Xone c) g m at vs = refl
  found_by (any.Node c) g m at vs = refl
  found_by (any.Property c) g m at vs = refl
  found_by (any.QualifiedMinCount c) g m at vs = refl
  found_by (any.QualifiedMaxCount c) g m at vs = refl
  found_by (any.Closed c) g m at vs = refl
  found_by (any.HasValue c) g m at vs = refl
  found_by (any.In c) g m at vs = refl

  pub read_by : (c : Constraint) (g : Graph) (r : Pair → List Key) (at : At) (vs : List ℕ)
      → constraint_reads c g r at vs ≡ reads_by (demand_of nodes c) (shapes_named c) g r at.focus vs
  read_by (any.Class c) g r at vs = refl
  read_by (any.Datatype c) g r at vs = refl
  read_by (any.NodeKind c) g r at vs = refl
  read_by (any.MinCount c) g r at vs = refl
  read_by (any.MaxCount c) g r at vs = refl
  read_by (any.MinExclusive c) g r at vs = refl
  read_by (any.MinInclusive c) g r at vs = refl
  read_by (any.MaxExclusive c) g r at vs = refl
  read_by (any.MaxInclusive c) g r at vs = refl
  read_by (any.MinLength c) g r at vs = refl
  read_by (any.MaxLength c) g r at vs = refl
  read_by (any.Pattern c) g r at vs = refl
  read_by (any.LanguageIn c) g r at vs = refl
  read_by (any.UniqueLang c) g r at vs = refl
  read_by (any.Equals c) g r at vs = refl
  read_by (any.Disjoint c) g r at vs = refl
  read_by (any.LessThan c) g r at vs = refl
  read_by (any.LessThanOrEquals c) g r at vs = refl
  read_by (any.Not c) g r at vs = refl
  read_by (any.And c) g r at vs = refl
  read_by (any.Or c) g r at vs = refl
  read_by (any.Xone c) g r at vs = refl
  read_by (any.Node c) g r at vs = refl
  read_by (any.Property c) g r at vs = refl
  read_by (any.QualifiedMinCount c) g r at vs = refl
  read_by (any.QualifiedMaxCount c) g r at vs = refl
  read_by (any.Closed c) g r at vs = refl
  read_by (any.HasValue c) g r at vs = refl
  read_by (any.In c) g r at vs = refl

  -- the nodes that are told are those of the shapes that it names
  pub named_by : (c : Constraint) → nodes_in (content_of nodes c) ≡ map (slice_get nodes) (shapes_named c)
  named_by (any.Class c) = refl
  named_by (any.Datatype c) = refl
  named_by (any.NodeKind c) = refl
  named_by (any.MinCount c) = refl
  named_by (any.MaxCount c) = refl
  named_by (any.MinExclusive c) = refl
  named_by (any.MinInclusive c) = refl
  named_by (any.MaxExclusive c) = refl
  named_by (any.MaxInclusive c) = refl
  named_by (any.MinLength c) = refl
  named_by (any.MaxLength c) = refl
  named_by (any.Pattern c) = refl
  named_by (any.LanguageIn c) = refl
  named_by (any.UniqueLang c) = refl
  named_by (any.Equals c) = refl
  named_by (any.Disjoint c) = refl
  named_by (any.LessThan c) = refl
  named_by (any.LessThanOrEquals c) = refl
  named_by (any.Not c) = refl
  named_by (any.And c) = refl
  named_by (any.Or c) = refl
  named_by (any.Xone c) = refl
  named_by (any.Node c) = refl
  named_by (any.Property c) = refl
  named_by (any.QualifiedMinCount c) = refl
  named_by (any.QualifiedMaxCount c) = refl
  named_by (any.Closed c) = refl
  named_by (any.HasValue c) = refl
  named_by (any.In c) = refl

-- ---- what it asks

none_asked : (vs : List ℕ) → [] ≡ pairs_asked [] vs
none_asked [] = refl
none_asked (v ∷ vs) = none_asked vs

pub asked_by : (c : Constraint) (vs : List ℕ) → constraint_asks c vs ≡ pairs_asked (shapes_named c) vs
asked_by (any.Class c) vs = none_asked vs
asked_by (any.Datatype c) vs = none_asked vs
asked_by (any.NodeKind c) vs = none_asked vs
asked_by (any.MinCount c) vs = none_asked vs
asked_by (any.MaxCount c) vs = none_asked vs
asked_by (any.MinExclusive c) vs = none_asked vs
asked_by (any.MinInclusive c) vs = none_asked vs
asked_by (any.MaxExclusive c) vs = none_asked vs
asked_by (any.MaxInclusive c) vs = none_asked vs
asked_by (any.MinLength c) vs = none_asked vs
asked_by (any.MaxLength c) vs = none_asked vs
asked_by (any.Pattern c) vs = none_asked vs
asked_by (any.LanguageIn c) vs = none_asked vs
asked_by (any.UniqueLang c) vs = none_asked vs
asked_by (any.Equals c) vs = none_asked vs
asked_by (any.Disjoint c) vs = none_asked vs
asked_by (any.LessThan c) vs = none_asked vs
asked_by (any.LessThanOrEquals c) vs = none_asked vs
asked_by (any.Not c) vs = refl
asked_by (any.And c) vs = refl
asked_by (any.Or c) vs = refl
asked_by (any.Xone c) vs = refl
asked_by (any.Node c) vs = refl
asked_by (any.Property c) vs = refl
asked_by (any.QualifiedMinCount c) vs = refl
asked_by (any.QualifiedMaxCount c) vs = refl
asked_by (any.Closed c) vs = none_asked vs
asked_by (any.HasValue c) vs = none_asked vs
asked_by (any.In c) vs = none_asked vs
