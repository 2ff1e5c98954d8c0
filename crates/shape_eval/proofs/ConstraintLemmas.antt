-- What is true of each component is true of any constraint.
use Rattle.std.specs.Prelude.{ℕ, List, Contains}
use Rattle.graph_view.specs.declared.key.Key.{Key}
use Rattle.graph_view.specs.Agree.{Agree}
use Rattle.graph_view.specs.Graph.{Graph}
use Rattle.comp_core.specs.declared.pair.At.{At}
use Rattle.comp_core.specs.declared.pair.Pair.{Pair}
use Rattle.comp_core.specs.declared.row.ResultRow.{ResultRow}
use Rattle.comp_core.specs.Laws.{LooksAlike, SameAnswers, SameFindings}
use Rattle.value_components.specs.declared.class.Class.{Class}
use Rattle.value_components.specs.declared.datatype.Datatype.{Datatype}
use Rattle.value_components.specs.declared.node_kind.NodeKind.{NodeKind}
use Rattle.value_components.specs.declared.min_count.MinCount.{MinCount}
use Rattle.value_components.specs.declared.max_count.MaxCount.{MaxCount}
use Rattle.value_components.specs.declared.min_exclusive.MinExclusive.{MinExclusive}
use Rattle.value_components.specs.declared.min_inclusive.MinInclusive.{MinInclusive}
use Rattle.value_components.specs.declared.max_exclusive.MaxExclusive.{MaxExclusive}
use Rattle.value_components.specs.declared.max_inclusive.MaxInclusive.{MaxInclusive}
use Rattle.value_components.specs.declared.min_length.MinLength.{MinLength}
use Rattle.value_components.specs.declared.max_length.MaxLength.{MaxLength}
use Rattle.value_components.specs.declared.pattern.Pattern.{Pattern}
use Rattle.value_components.specs.declared.language_in.LanguageIn.{LanguageIn}
use Rattle.value_components.specs.declared.unique_lang.UniqueLang.{UniqueLang}
use Rattle.pair_components.specs.declared.equals.Equals.{Equals}
use Rattle.pair_components.specs.declared.disjoint.Disjoint.{Disjoint}
use Rattle.pair_components.specs.declared.less_than.LessThan.{LessThan}
use Rattle.pair_components.specs.declared.less_than_or_equals.LessThanOrEquals.{LessThanOrEquals}
use Rattle.logic_components.specs.declared.negation.Not.{Not}
use Rattle.logic_components.specs.declared.conjunction.And.{And}
use Rattle.logic_components.specs.declared.disjunction.Or.{Or}
use Rattle.logic_components.specs.declared.exactly_one.Xone.{Xone}
use Rattle.logic_components.specs.declared.node.Node.{Node}
use Rattle.logic_components.specs.declared.property.Property.{Property}
use Rattle.qualified_shapes.specs.declared.qualified_min_count.QualifiedMinCount.{QualifiedMinCount}
use Rattle.qualified_shapes.specs.declared.qualified_max_count.QualifiedMaxCount.{QualifiedMaxCount}
use Rattle.qualified_shapes.specs.declared.closed.Closed.{Closed}
use Rattle.value_components.specs.declared.has_value.HasValue.{HasValue}
use Rattle.value_components.specs.declared.in_list.In.{In}
use Rattle.shape_eval.specs.declared.constraint.Constraint.{Constraint}
use Rattle.shape_eval.specs.declared.constraint.Constraint.TheVariants as any
use Rattle.shape_eval.specs.Constraint.{constraint_numbers, constraint_asks, constraint_hits}
use Rattle.shape_eval.specs.Constraint.{constraint_reads}

-- the law of agreement, of one constraint
abbrev pub AgreesAt : Constraint → Type 0
AgreesAt c =
    (g h : Graph) (m n : Pair → List ResultRow) (r q : Pair → List Key) (at : At) (vs : List ℕ)
    → LooksAlike g h (constraint_numbers c) vs (constraint_reads c g r at vs)
    → ((p : Pair) → Contains (constraint_asks c vs) p → Agree g h (Contains (r p)) → SameAnswers m n r q p)
    → SameFindings (constraint_hits c g m at vs) (constraint_hits c h n at vs)
    (constraint_reads c g r at vs) (constraint_reads c h q at vs)

-- that it asks of value nodes, of one constraint
abbrev pub AsksValuesAt : Constraint → Type 0
AsksValuesAt c = (vs : List ℕ) (p : Pair) → Contains (constraint_asks c vs) p → Contains vs p.node

-- what is true of each component is true of any constraint
pub of_any : (T : Constraint → Type 0)
    → ((c : Class) → T (any.Class c))
    → ((c : Datatype) → T (any.Datatype c))
    → ((c : NodeKind) → T (any.NodeKind c))
    → ((c : MinCount) → T (any.MinCount c))
    → ((c : MaxCount) → T (any.MaxCount c))
    → ((c : MinExclusive) → T (any.MinExclusive c))
    → ((c : MinInclusive) → T (any.MinInclusive c))
    → ((c : MaxExclusive) → T (any.MaxExclusive c))
    → ((c : MaxInclusive) → T (any.MaxInclusive c))
    → ((c : MinLength) → T (any.MinLength c))
    → ((c : MaxLength) → T (any.MaxLength c))
    → ((c : Pattern) → T (any.Pattern c))
    → ((c : LanguageIn) → T (any.LanguageIn c))
    → ((c : UniqueLang) → T (any.UniqueLang c))
    → ((c : Equals) → T (any.Equals c))
    → ((c : Disjoint) → T (any.Disjoint c))
    → ((c : LessThan) → T (any.LessThan c))
    → ((c : LessThanOrEquals) → T (any.LessThanOrEquals c))
    → ((c : Not) → T (any.Not c))
    → ((c : And) → T (any.And c))
    → ((c : Or) → T (any.Or c))
    → ((c : Xone) → T (any.Xone c))
    → ((c : Node) → T (any.Node c))
    → ((c : Property) → T (any.Property c))
    → ((c : QualifiedMinCount) → T (any.QualifiedMinCount c))
    → ((c : QualifiedMaxCount) → T (any.QualifiedMaxCount c))
    → ((c : Closed) → T (any.Closed c))
    → ((c : HasValue) → T (any.HasValue c))
    → ((c : In) → T (any.In c))
    → (c : Constraint) → T c
of_any T law1 _ _ _ _ _ _ _ _ _ _ _ _ _ _ _ _ _ _ _ _ _ _ _ _ _ _ _ _ (any.Class c) = law1 c
of_any T _ law2 _ _ _ _ _ _ _ _ _ _ _ _ _ _ _ _ _ _ _ _ _ _ _ _ _ _ _ (any.Datatype c) = law2 c
of_any T _ _ law3 _ _ _ _ _ _ _ _ _ _ _ _ _ _ _ _ _ _ _ _ _ _ _ _ _ _ (any.NodeKind c) = law3 c
of_any T _ _ _ law4 _ _ _ _ _ _ _ _ _ _ _ _ _ _ _ _ _ _ _ _ _ _ _ _ _ (any.MinCount c) = law4 c
of_any T _ _ _ _ law5 _ _ _ _ _ _ _ _ _ _ _ _ _ _ _ _ _ _ _ _ _ _ _ _ (any.MaxCount c) = law5 c
of_any T _ _ _ _ _ law6 _ _ _ _ _ _ _ _ _ _ _ _ _ _ _ _ _ _ _ _ _ _ _ (any.MinExclusive c) = law6 c
of_any T _ _ _ _ _ _ law7 _ _ _ _ _ _ _ _ _ _ _ _ _ _ _ _ _ _ _ _ _ _ (any.MinInclusive c) = law7 c
of_any T _ _ _ _ _ _ _ law8 _ _ _ _ _ _ _ _ _ _ _ _ _ _ _ _ _ _ _ _ _ (any.MaxExclusive c) = law8 c
of_any T _ _ _ _ _ _ _ _ law9 _ _ _ _ _ _ _ _ _ _ _ _ _ _ _ _ _ _ _ _ (any.MaxInclusive c) = law9 c
of_any T _ _ _ _ _ _ _ _ _ law10 _ _ _ _ _ _ _ _ _ _ _ _ _ _ _ _ _ _ _ (any.MinLength c) = law10 c
of_any T _ _ _ _ _ _ _ _ _ _ law11 _ _ _ _ _ _ _ _ _ _ _ _ _ _ _ _ _ _ (any.MaxLength c) = law11 c
of_any T _ _ _ _ _ _ _ _ _ _ _ law12 _ _ _ _ _ _ _ _ _ _ _ _ _ _ _ _ _ (any.Pattern c) = law12 c
of_any T _ _ _ _ _ _ _ _ _ _ _ _ law13 _ _ _ _ _ _ _ _ _ _ _ _ _ _ _ _ (any.LanguageIn c) = law13 c
of_any T _ _ _ _ _ _ _ _ _ _ _ _ _ law14 _ _ _ _ _ _ _ _ _ _ _ _ _ _ _ (any.UniqueLang c) = law14 c
of_any T _ _ _ _ _ _ _ _ _ _ _ _ _ _ law15 _ _ _ _ _ _ _ _ _ _ _ _ _ _ (any.Equals c) = law15 c
of_any T _ _ _ _ _ _ _ _ _ _ _ _ _ _ _ law16 _ _ _ _ _ _ _ _ _ _ _ _ _ (any.Disjoint c) = law16 c
of_any T _ _ _ _ _ _ _ _ _ _ _ _ _ _ _ _ law17 _ _ _ _ _ _ _ _ _ _ _ _ (any.LessThan c) = law17 c
of_any T _ _ _ _ _ _ _ _ _ _ _ _ _ _ _ _ _ law18 _ _ _ _ _ _ _ _ _ _ _ (any.LessThanOrEquals c) = law18 c
of_any T _ _ _ _ _ _ _ _ _ _ _ _ _ _ _ _ _ _ law19 _ _ _ _ _ _ _ _ _ _ (any.Not c) = law19 c
of_any T _ _ _ _ _ _ _ _ _ _ _ _ _ _ _ _ _ _ _ law20 _ _ _ _ _ _ _ _ _ (any.And c) = law20 c
of_any T _ _ _ _ _ _ _ _ _ _ _ _ _ _ _ _ _ _ _ _ law21 _ _ _ _ _ _ _ _ (any.Or c) = law21 c
of_any T _ _ _ _ _ _ _ _ _ _ _ _ _ _ _ _ _ _ _ _ _ law22 _ _ _ _ _ _ _ (any.Xone c) = law22 c
of_any T _ _ _ _ _ _ _ _ _ _ _ _ _ _ _ _ _ _ _ _ _ _ law23 _ _ _ _ _ _ (any.Node c) = law23 c
of_any T _ _ _ _ _ _ _ _ _ _ _ _ _ _ _ _ _ _ _ _ _ _ _ law24 _ _ _ _ _ (any.Property c) = law24 c
of_any T _ _ _ _ _ _ _ _ _ _ _ _ _ _ _ _ _ _ _ _ _ _ _ _ law25 _ _ _ _ (any.QualifiedMinCount c) = law25 c
of_any T _ _ _ _ _ _ _ _ _ _ _ _ _ _ _ _ _ _ _ _ _ _ _ _ _ law26 _ _ _ (any.QualifiedMaxCount c) = law26 c
of_any T _ _ _ _ _ _ _ _ _ _ _ _ _ _ _ _ _ _ _ _ _ _ _ _ _ _ law27 _ _ (any.Closed c) = law27 c
of_any T _ _ _ _ _ _ _ _ _ _ _ _ _ _ _ _ _ _ _ _ _ _ _ _ _ _ _ law28 _ (any.HasValue c) = law28 c
of_any T _ _ _ _ _ _ _ _ _ _ _ _ _ _ _ _ _ _ _ _ _ _ _ _ _ _ _ _ law29 (any.In c) = law29 c
