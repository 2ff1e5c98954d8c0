-- Any constraint component with its parameters (SHACL, section 4): which shapes it names, what it asks, what
-- it finds and what it reads are those of its component.
use Rattle.std.specs.Prelude.{◌≡◌, ℕ, List, [], ◌∷◌, ◌++◌}
use Rattle.shx_term.specs.declared.term.Term.{Term}
use Rattle.graph_view.specs.declared.key.Key.{Key}
use Rattle.graph_view.specs.declared.key.Key.TheVariants.{Out}
use Rattle.graph_view.specs.Graph.{Graph}
use Rattle.value_space.specs.ReadValues.{value_at}
use Rattle.comp_core.specs.Asking.{asked_keys, pairs_asked}
use Rattle.comp_core.specs.declared.pair.At.{At}
use Rattle.comp_core.specs.declared.pair.Pair.{Pair}
use Rattle.comp_core.specs.declared.row.ResultRow.{ResultRow}
use Rattle.comp_core.specs.declared.kinds.TheConstants.{CLASS, DATATYPE, NODE_KIND, MIN_COUNT, MAX_COUNT}
use Rattle.comp_core.specs.declared.kinds.TheConstants.{MIN_EXCLUSIVE, MIN_INCLUSIVE, MAX_EXCLUSIVE}
use Rattle.comp_core.specs.declared.kinds.TheConstants.{MAX_INCLUSIVE, MIN_LENGTH, MAX_LENGTH, PATTERN}
use Rattle.comp_core.specs.declared.kinds.TheConstants.{LANGUAGE_IN, UNIQUE_LANG, EQUALS, DISJOINT}
use Rattle.comp_core.specs.declared.kinds.TheConstants.{LESS_THAN, LESS_THAN_OR_EQUALS, NOT, AND, OR, XONE}
use Rattle.comp_core.specs.declared.kinds.TheConstants.{NODE, PROPERTY, QUALIFIED_MIN_COUNT}
use Rattle.comp_core.specs.declared.kinds.TheConstants.{QUALIFIED_MAX_COUNT, CLOSED, HAS_VALUE, IN}
use Rattle.value_components.specs.Class.{class_hits, class_reads}
use Rattle.value_components.specs.Datatype.{datatype_hits}
use Rattle.value_components.specs.NodeKind.{node_kind_hits}
use Rattle.value_components.specs.MinCount.{min_count_hits}
use Rattle.value_components.specs.MaxCount.{max_count_hits}
use Rattle.value_components.specs.MinExclusive.{min_exclusive_hits}
use Rattle.value_components.specs.MinInclusive.{min_inclusive_hits}
use Rattle.value_components.specs.MaxExclusive.{max_exclusive_hits}
use Rattle.value_components.specs.MaxInclusive.{max_inclusive_hits}
use Rattle.value_components.specs.MinLength.{min_length_hits}
use Rattle.value_components.specs.MaxLength.{max_length_hits}
use Rattle.value_components.specs.Pattern.{pattern_hits}
use Rattle.value_components.specs.LanguageIn.{language_in_hits}
use Rattle.value_components.specs.UniqueLang.{unique_lang_hits}
use Rattle.pair_components.specs.Equals.{equals_hits}
use Rattle.pair_components.specs.Disjoint.{disjoint_hits}
use Rattle.pair_components.specs.LessThan.{less_than_hits}
use Rattle.pair_components.specs.LessThanOrEquals.{less_than_or_equals_hits}
use Rattle.logic_components.specs.Not.{not_hits}
use Rattle.logic_components.specs.And.{and_hits}
use Rattle.logic_components.specs.Or.{or_hits}
use Rattle.logic_components.specs.Xone.{xone_hits}
use Rattle.logic_components.specs.Node.{node_hits}
use Rattle.logic_components.specs.Property.{property_hits}
use Rattle.qualified_shapes.specs.QualifiedMinCount.{qualified_min_count_hits}
use Rattle.qualified_shapes.specs.QualifiedMaxCount.{qualified_max_count_hits}
use Rattle.qualified_shapes.specs.Closed.{closed_hits, closed_reads}
use Rattle.value_components.specs.HasValue.{has_value_hits}
use Rattle.value_components.specs.InList.{in_hits}
use Rattle.shape_eval.specs.declared.constraint.Constraint.{Constraint}
use Rattle.shape_eval.specs.declared.constraint.Constraint.TheVariants as any

-- the number of its component
abbrev pub kind_of : Constraint → ℕ
kind_of (any.Class c) = CLASS
kind_of (any.Datatype c) = DATATYPE
kind_of (any.NodeKind c) = NODE_KIND
kind_of (any.MinCount c) = MIN_COUNT
kind_of (any.MaxCount c) = MAX_COUNT
kind_of (any.MinExclusive c) = MIN_EXCLUSIVE
kind_of (any.MinInclusive c) = MIN_INCLUSIVE
kind_of (any.MaxExclusive c) = MAX_EXCLUSIVE
kind_of (any.MaxInclusive c) = MAX_INCLUSIVE
kind_of (any.MinLength c) = MIN_LENGTH
kind_of (any.MaxLength c) = MAX_LENGTH
kind_of (any.Pattern c) = PATTERN
kind_of (any.LanguageIn c) = LANGUAGE_IN
kind_of (any.UniqueLang c) = UNIQUE_LANG
kind_of (any.Equals c) = EQUALS
kind_of (any.Disjoint c) = DISJOINT
kind_of (any.LessThan c) = LESS_THAN
kind_of (any.LessThanOrEquals c) = LESS_THAN_OR_EQUALS
kind_of (any.Not c) = NOT
kind_of (any.And c) = AND
kind_of (any.Or c) = OR
kind_of (any.Xone c) = XONE
kind_of (any.Node c) = NODE
kind_of (any.Property c) = PROPERTY
kind_of (any.QualifiedMinCount c) = QUALIFIED_MIN_COUNT
kind_of (any.QualifiedMaxCount c) = QUALIFIED_MAX_COUNT
kind_of (any.Closed c) = CLOSED
kind_of (any.HasValue c) = HAS_VALUE
kind_of (any.In c) = IN

-- the value of its parameter: of a list the head, of a qualified shape the count
abbrev pub parameter_of : Constraint → ℕ
parameter_of (any.Class c) = c.value
parameter_of (any.Datatype c) = c.value
parameter_of (any.NodeKind c) = c.value
parameter_of (any.MinCount c) = c.value
parameter_of (any.MaxCount c) = c.value
parameter_of (any.MinExclusive c) = c.value
parameter_of (any.MinInclusive c) = c.value
parameter_of (any.MaxExclusive c) = c.value
parameter_of (any.MaxInclusive c) = c.value
parameter_of (any.MinLength c) = c.value
parameter_of (any.MaxLength c) = c.value
parameter_of (any.Pattern c) = c.value
parameter_of (any.LanguageIn c) = c.value
parameter_of (any.UniqueLang c) = c.value
parameter_of (any.Equals c) = c.value
parameter_of (any.Disjoint c) = c.value
parameter_of (any.LessThan c) = c.value
parameter_of (any.LessThanOrEquals c) = c.value
parameter_of (any.Not c) = c.value
parameter_of (any.And c) = c.value
parameter_of (any.Or c) = c.value
parameter_of (any.Xone c) = c.value
parameter_of (any.Node c) = c.value
parameter_of (any.Property c) = c.value
parameter_of (any.QualifiedMinCount c) = c.value
parameter_of (any.QualifiedMaxCount c) = c.value
parameter_of (any.Closed c) = c.value
parameter_of (any.HasValue c) = c.value
parameter_of (any.In c) = c.value

-- the shapes that it names, siblings included
abbrev pub shapes_named : Constraint → List ℕ
shapes_named (any.Not c) = c.shape ∷ []
shapes_named (any.And c) = c.shapes.items
shapes_named (any.Or c) = c.shapes.items
shapes_named (any.Xone c) = c.shapes.items
shapes_named (any.Node c) = c.shape ∷ []
shapes_named (any.Property c) = c.shape ∷ []
shapes_named (any.QualifiedMinCount c) = c.shape ∷ c.siblings.items
shapes_named (any.QualifiedMaxCount c) = c.shape ∷ c.siblings.items
shapes_named c = []

-- what it holds of a count or a bound was read of its term
abbrev pub IsReadOf : Constraint → List Term → Type 0
IsReadOf (any.MinCount c) terms = c.read ≡ value_at terms c.value
IsReadOf (any.MaxCount c) terms = c.read ≡ value_at terms c.value
IsReadOf (any.MinExclusive c) terms = c.read ≡ value_at terms c.value
IsReadOf (any.MinInclusive c) terms = c.read ≡ value_at terms c.value
IsReadOf (any.MaxExclusive c) terms = c.read ≡ value_at terms c.value
IsReadOf (any.MaxInclusive c) terms = c.read ≡ value_at terms c.value
IsReadOf (any.MinLength c) terms = c.read ≡ value_at terms c.value
IsReadOf (any.MaxLength c) terms = c.read ≡ value_at terms c.value
IsReadOf (any.QualifiedMinCount c) terms = c.read ≡ value_at terms c.value
IsReadOf (any.QualifiedMaxCount c) terms = c.read ≡ value_at terms c.value
IsReadOf c terms = Unit {0}

-- the numbers whose terms matter to it
abbrev pub constraint_numbers : Constraint → List ℕ
constraint_numbers (any.Datatype c) = c.value ∷ []
constraint_numbers (any.MinCount c) = c.value ∷ []
constraint_numbers (any.MaxCount c) = c.value ∷ []
constraint_numbers (any.MinExclusive c) = c.value ∷ []
constraint_numbers (any.MinInclusive c) = c.value ∷ []
constraint_numbers (any.MaxExclusive c) = c.value ∷ []
constraint_numbers (any.MaxInclusive c) = c.value ∷ []
constraint_numbers (any.MinLength c) = c.value ∷ []
constraint_numbers (any.MaxLength c) = c.value ∷ []
constraint_numbers (any.LanguageIn c) = c.members
constraint_numbers (any.QualifiedMinCount c) = c.value ∷ []
constraint_numbers (any.QualifiedMaxCount c) = c.value ∷ []
constraint_numbers c = []

-- the members of its list; of a closed shape what it permits, and what it ignores
abbrev pub members_of : Constraint → List ℕ
members_of (any.LanguageIn c) = c.members
members_of (any.Closed c) = c.permitted ++ c.ignored
members_of (any.In c) = c.members
members_of c = []

-- all numbers of terms in it: the value of its parameter, and the members of its list
abbrev pub numbers_stated : Constraint → List ℕ
numbers_stated c = parameter_of c ∷ members_of c

-- the pairs that it asks: each value node at each of the shapes that it names
abbrev pub constraint_asks : Constraint → List ℕ → List Pair
constraint_asks (any.Not c) vs = pairs_asked (c.shape ∷ []) vs
constraint_asks (any.And c) vs = pairs_asked c.shapes.items vs
constraint_asks (any.Or c) vs = pairs_asked c.shapes.items vs
constraint_asks (any.Xone c) vs = pairs_asked c.shapes.items vs
constraint_asks (any.Node c) vs = pairs_asked (c.shape ∷ []) vs
constraint_asks (any.Property c) vs = pairs_asked (c.shape ∷ []) vs
constraint_asks (any.QualifiedMinCount c) vs = pairs_asked (c.shape ∷ c.siblings.items) vs
constraint_asks (any.QualifiedMaxCount c) vs = pairs_asked (c.shape ∷ c.siblings.items) vs
constraint_asks c vs = []

-- its results at value nodes, by the results of the pairs that it asks
abbrev pub constraint_hits : Constraint → Graph → (Pair → List ResultRow) → At → List ℕ → List ResultRow
constraint_hits (any.Class c) g m at vs = class_hits c g at vs
constraint_hits (any.Datatype c) g m at vs = datatype_hits c g at vs
constraint_hits (any.NodeKind c) g m at vs = node_kind_hits c g at vs
constraint_hits (any.MinCount c) g m at vs = min_count_hits c g at vs
constraint_hits (any.MaxCount c) g m at vs = max_count_hits c g at vs
constraint_hits (any.MinExclusive c) g m at vs = min_exclusive_hits c g at vs
constraint_hits (any.MinInclusive c) g m at vs = min_inclusive_hits c g at vs
constraint_hits (any.MaxExclusive c) g m at vs = max_exclusive_hits c g at vs
constraint_hits (any.MaxInclusive c) g m at vs = max_inclusive_hits c g at vs
constraint_hits (any.MinLength c) g m at vs = min_length_hits c g at vs
constraint_hits (any.MaxLength c) g m at vs = max_length_hits c g at vs
constraint_hits (any.Pattern c) g m at vs = pattern_hits c g at vs
constraint_hits (any.LanguageIn c) g m at vs = language_in_hits c g at vs
constraint_hits (any.UniqueLang c) g m at vs = unique_lang_hits g at vs
constraint_hits (any.Equals c) g m at vs = equals_hits c g at vs
constraint_hits (any.Disjoint c) g m at vs = disjoint_hits c g at vs
constraint_hits (any.LessThan c) g m at vs = less_than_hits c g at vs
constraint_hits (any.LessThanOrEquals c) g m at vs = less_than_or_equals_hits c g at vs
constraint_hits (any.Not c) g m at vs = not_hits c m at vs
constraint_hits (any.And c) g m at vs = and_hits c m at vs
constraint_hits (any.Or c) g m at vs = or_hits c m at vs
constraint_hits (any.Xone c) g m at vs = xone_hits c m at vs
constraint_hits (any.Node c) g m at vs = node_hits c m at vs
constraint_hits (any.Property c) g m at vs = property_hits c m vs
constraint_hits (any.QualifiedMinCount c) g m at vs = qualified_min_count_hits c g m at vs
constraint_hits (any.QualifiedMaxCount c) g m at vs = qualified_max_count_hits c g m at vs
constraint_hits (any.Closed c) g m at vs = closed_hits c g at vs
constraint_hits (any.HasValue c) g m at vs = has_value_hits c at vs
constraint_hits (any.In c) g m at vs = in_hits c at vs

-- what it reads for them, by what the pairs that it asks were read from
abbrev pub constraint_reads : Constraint → Graph → (Pair → List Key) → At → List ℕ → List Key
constraint_reads (any.Class c) g r at vs = class_reads g vs
constraint_reads (any.Equals c) g r at vs = Out at.focus c.value ∷ []
constraint_reads (any.Disjoint c) g r at vs = Out at.focus c.value ∷ []
constraint_reads (any.LessThan c) g r at vs = Out at.focus c.value ∷ []
constraint_reads (any.LessThanOrEquals c) g r at vs = Out at.focus c.value ∷ []
constraint_reads (any.Not c) g r at vs = asked_keys r (c.shape ∷ []) vs
constraint_reads (any.And c) g r at vs = asked_keys r c.shapes.items vs
constraint_reads (any.Or c) g r at vs = asked_keys r c.shapes.items vs
constraint_reads (any.Xone c) g r at vs = asked_keys r c.shapes.items vs
constraint_reads (any.Node c) g r at vs = asked_keys r (c.shape ∷ []) vs
constraint_reads (any.Property c) g r at vs = asked_keys r (c.shape ∷ []) vs
constraint_reads (any.QualifiedMinCount c) g r at vs = asked_keys r (c.shape ∷ c.siblings.items) vs
constraint_reads (any.QualifiedMaxCount c) g r at vs = asked_keys r (c.shape ∷ c.siblings.items) vs
constraint_reads (any.Closed c) g r at vs = closed_reads vs
constraint_reads c g r at vs = []
