-- Parameters each value of which makes a constraint by itself.
use Rattle.std.specs.Prelude.{ℕ, List}
use Rattle.shx_term.specs.declared.vocabulary.TheConstants.{SH_CLASS, SH_DATATYPE, SH_NODE_KIND, SH_MIN_COUNT}
use Rattle.shx_term.specs.declared.vocabulary.TheConstants.{SH_MAX_COUNT, SH_MIN_EXCLUSIVE, SH_MIN_INCLUSIVE}
use Rattle.shx_term.specs.declared.vocabulary.TheConstants.{SH_MAX_EXCLUSIVE, SH_MAX_INCLUSIVE, SH_MIN_LENGTH}
use Rattle.shx_term.specs.declared.vocabulary.TheConstants.{SH_MAX_LENGTH, SH_EQUALS, SH_DISJOINT}
use Rattle.shx_term.specs.declared.vocabulary.TheConstants.{SH_LESS_THAN, SH_LESS_THAN_OR_EQUALS}
use Rattle.shx_term.specs.declared.vocabulary.TheConstants.{SH_HAS_VALUE}
use Rattle.comp_core.specs.declared.kinds.TheConstants.{CLASS, DATATYPE, NODE_KIND, MIN_COUNT, MAX_COUNT}
use Rattle.comp_core.specs.declared.kinds.TheConstants.{MIN_EXCLUSIVE, MIN_INCLUSIVE, MAX_EXCLUSIVE}
use Rattle.comp_core.specs.declared.kinds.TheConstants.{MAX_INCLUSIVE, MIN_LENGTH, MAX_LENGTH, EQUALS}
use Rattle.comp_core.specs.declared.kinds.TheConstants.{DISJOINT, LESS_THAN, LESS_THAN_OR_EQUALS, HAS_VALUE}
use Rattle.shape_decl.specs.Declarations.{Declaration, values_under}
use Rattle.shape_compile.specs.Constraints.{Saying, each_value}
use Rattle.shape_compile.specs.declared.parameter.Parameter.{Parameter}
use Rattle.shape_compile.specs.declared.parameter.Parameter.TheVariants as parameter

abbrev pub predicate_of : Parameter → ℕ
predicate_of parameter.Class = SH_CLASS
predicate_of parameter.Datatype = SH_DATATYPE
predicate_of parameter.NodeKind = SH_NODE_KIND
predicate_of parameter.MinCount = SH_MIN_COUNT
predicate_of parameter.MaxCount = SH_MAX_COUNT
predicate_of parameter.MinExclusive = SH_MIN_EXCLUSIVE
predicate_of parameter.MinInclusive = SH_MIN_INCLUSIVE
predicate_of parameter.MaxExclusive = SH_MAX_EXCLUSIVE
predicate_of parameter.MaxInclusive = SH_MAX_INCLUSIVE
predicate_of parameter.MinLength = SH_MIN_LENGTH
predicate_of parameter.MaxLength = SH_MAX_LENGTH
predicate_of parameter.Equals = SH_EQUALS
predicate_of parameter.Disjoint = SH_DISJOINT
predicate_of parameter.LessThan = SH_LESS_THAN
predicate_of parameter.LessThanOrEquals = SH_LESS_THAN_OR_EQUALS
predicate_of parameter.HasValue = SH_HAS_VALUE

-- the number of the component that it makes
abbrev pub kind_made : Parameter → ℕ
kind_made parameter.Class = CLASS
kind_made parameter.Datatype = DATATYPE
kind_made parameter.NodeKind = NODE_KIND
kind_made parameter.MinCount = MIN_COUNT
kind_made parameter.MaxCount = MAX_COUNT
kind_made parameter.MinExclusive = MIN_EXCLUSIVE
kind_made parameter.MinInclusive = MIN_INCLUSIVE
kind_made parameter.MaxExclusive = MAX_EXCLUSIVE
kind_made parameter.MaxInclusive = MAX_INCLUSIVE
kind_made parameter.MinLength = MIN_LENGTH
kind_made parameter.MaxLength = MAX_LENGTH
kind_made parameter.Equals = EQUALS
kind_made parameter.Disjoint = DISJOINT
kind_made parameter.LessThan = LESS_THAN
kind_made parameter.LessThanOrEquals = LESS_THAN_OR_EQUALS
kind_made parameter.HasValue = HAS_VALUE

abbrev pub stated_by : Declaration → Parameter → List Saying
stated_by d parameter = each_value (kind_made parameter) (values_under d (predicate_of parameter))
