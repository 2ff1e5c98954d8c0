-- Parameters whose values are shapes, lists of shapes, other lists, or counts at a shape.
use Rattle.std.specs.Prelude.{ℕ, List}
use Rattle.shx_term.specs.declared.vocabulary.TheConstants.{SH_NOT, SH_NODE, SH_PROPERTY, SH_AND, SH_OR}
use Rattle.shx_term.specs.declared.vocabulary.TheConstants.{SH_XONE, SH_LANGUAGE_IN, SH_IN}
use Rattle.shx_term.specs.declared.vocabulary.TheConstants.{SH_QUALIFIED_MIN_COUNT, SH_QUALIFIED_MAX_COUNT}
use Rattle.shx_term.specs.declared.vocabulary.TheConstants.{SH_QUALIFIED_VALUE_SHAPE}
use Rattle.comp_core.specs.declared.kinds.TheConstants.{NOT, NODE, PROPERTY, AND, OR, XONE, LANGUAGE_IN, IN}
use Rattle.comp_core.specs.declared.kinds.TheConstants.{QUALIFIED_MIN_COUNT, QUALIFIED_MAX_COUNT}
use Rattle.shape_decl.specs.Declarations.{Declaration, lists_under, values_under}
use Rattle.shape_compile.specs.Constraints.{Saying, each_count, each_list, each_shape, each_shape_list}
use Rattle.shape_compile.specs.declared.of_shape.OfShape.{OfShape}
use Rattle.shape_compile.specs.declared.of_shape.OfShape.TheVariants as of_shape
use Rattle.shape_compile.specs.declared.of_shape_list.OfShapeList.{OfShapeList}
use Rattle.shape_compile.specs.declared.of_shape_list.OfShapeList.TheVariants as of_shape_list
use Rattle.shape_compile.specs.declared.of_list.OfList.{OfList}
use Rattle.shape_compile.specs.declared.of_list.OfList.TheVariants as of_list
use Rattle.shape_compile.specs.declared.of_count.OfCount.{OfCount}
use Rattle.shape_compile.specs.declared.of_count.OfCount.TheVariants as of_count

-- ---- a shape

abbrev pub shape_predicate : OfShape → ℕ
shape_predicate of_shape.Not = SH_NOT
shape_predicate of_shape.Node = SH_NODE
shape_predicate of_shape.Property = SH_PROPERTY

abbrev pub shape_kind : OfShape → ℕ
shape_kind of_shape.Not = NOT
shape_kind of_shape.Node = NODE
shape_kind of_shape.Property = PROPERTY

abbrev pub stated_of_shape : Declaration → OfShape → List Saying
stated_of_shape d parameter = each_shape (shape_kind parameter) (values_under d (shape_predicate parameter))

-- ---- a list of shapes

abbrev pub shape_list_predicate : OfShapeList → ℕ
shape_list_predicate of_shape_list.And = SH_AND
shape_list_predicate of_shape_list.Or = SH_OR
shape_list_predicate of_shape_list.Xone = SH_XONE

abbrev pub shape_list_kind : OfShapeList → ℕ
shape_list_kind of_shape_list.And = AND
shape_list_kind of_shape_list.Or = OR
shape_list_kind of_shape_list.Xone = XONE

abbrev pub stated_of_shape_list : Declaration → OfShapeList → List Saying
stated_of_shape_list d parameter =
    each_shape_list (shape_list_kind parameter) (lists_under d (shape_list_predicate parameter))

-- ---- another list

abbrev pub list_predicate : OfList → ℕ
list_predicate of_list.LanguageIn = SH_LANGUAGE_IN
list_predicate of_list.In = SH_IN

abbrev pub list_kind : OfList → ℕ
list_kind of_list.LanguageIn = LANGUAGE_IN
list_kind of_list.In = IN

abbrev pub stated_of_list : Declaration → OfList → List Saying
stated_of_list d parameter = each_list (list_kind parameter) (lists_under d (list_predicate parameter))

-- ---- a count at a shape

abbrev pub count_predicate : OfCount → ℕ
count_predicate of_count.Least = SH_QUALIFIED_MIN_COUNT
count_predicate of_count.Most = SH_QUALIFIED_MAX_COUNT

abbrev pub count_kind : OfCount → ℕ
count_kind of_count.Least = QUALIFIED_MIN_COUNT
count_kind of_count.Most = QUALIFIED_MAX_COUNT

abbrev pub stated_of_count : List ℕ → Declaration → OfCount → List Saying
stated_of_count siblings d parameter =
    each_count (count_kind parameter) siblings (values_under d SH_QUALIFIED_VALUE_SHAPE)
    (values_under d (count_predicate parameter))
