-- What a shape refers to, its siblings among it (SHACL, sections 3.4.3 and 4.7.3).
use Rattle.std.specs.Prelude.{ℕ, ◌==◌, Bool, ◌&&◌, ◌||◌, not, List, [], ◌++◌, filter, flat_map}
use Rattle.std.specs.Prelude.{if◌then◌else◌}
use Rattle.shx_term.specs.IdOrder.{in_term_order}
use Rattle.shx_term.specs.declared.term.Term.{Term}
use Rattle.shx_term.specs.declared.vocabulary.TheConstants.{SH_PROPERTY}
use Rattle.shx_term.specs.declared.vocabulary.TheConstants.{SH_QUALIFIED_MAX_COUNT, SH_QUALIFIED_MIN_COUNT}
use Rattle.shx_term.specs.declared.vocabulary.TheConstants.{SH_QUALIFIED_VALUE_SHAPE}
use Rattle.shx_term.specs.declared.vocabulary.TheConstants.{SH_QUALIFIED_VALUE_SHAPES_DISJOINT}
use Rattle.comp_core.specs.Rows.{is_empty}
use Rattle.comp_core.specs.TermTests.{is_among}
use Rattle.shape_decl.specs.Declarations.{Declaration, lists_under, values_under}
use Rattle.shape_decl.specs.Shapes.{members_or_none}
use Rattle.shape_decl.specs.Tables.{shape_list_predicates, shape_predicates}
use Rattle.shape_refs.specs.Truth.{is_any_true}

-- ---- what a shape names

-- the members of the lists that are values of a parameter
abbrev pub members_under : Declaration → ℕ → List ℕ
members_under d p = flat_map (λ list. members_or_none list.members) (lists_under d p)

-- the values of the parameters that expect a shape, and the members of those that expect lists of shapes
abbrev pub named_by : Declaration → List ℕ
named_by d =
    flat_map (values_under d) shape_predicates ++ flat_map (members_under d) shape_list_predicates

-- ---- siblings

-- what is declared of a node: one declaration, or none
abbrev pub declared_at : List Declaration → ℕ → List Declaration
declared_at ds node = filter (λ d. d.node == node) ds

-- the shapes of which the node is a property shape
abbrev pub parents_of : List Declaration → ℕ → List Declaration
parents_of ds node = filter (λ d. is_among node (values_under d SH_PROPERTY)) ds

-- the qualified value shapes of the property shapes of a shape
abbrev pub qualified_within : List Declaration → Declaration → List ℕ
qualified_within ds parent =
    flat_map (λ node. flat_map (λ d. values_under d SH_QUALIFIED_VALUE_SHAPE) (declared_at ds node))
    (values_under parent SH_PROPERTY)

-- it counts values at a shape that are of none of its siblings
abbrev pub has_siblings : List Term → Declaration → Bool
has_siblings terms d =
    not (is_empty (values_under d SH_QUALIFIED_VALUE_SHAPE))
    && ((not (is_empty (values_under d SH_QUALIFIED_MIN_COUNT))
    || not (is_empty (values_under d SH_QUALIFIED_MAX_COUNT)))
    && is_any_true terms (values_under d SH_QUALIFIED_VALUE_SHAPES_DISJOINT))

-- the qualified value shapes of all property shapes of its parents but for its own, in term order
abbrev pub siblings_of : List Term → List Declaration → Declaration → List ℕ
siblings_of terms ds d =
    if has_siblings terms d then
    in_term_order terms (filter (λ n. not (is_among n (values_under d SH_QUALIFIED_VALUE_SHAPE)))
    (flat_map (qualified_within ds) (parents_of ds d.node)))
    else []

-- ---- references

-- what a shape names, and its siblings
abbrev pub references_of : List Term → List Declaration → Declaration → List ℕ
references_of terms ds d = named_by d ++ siblings_of terms ds d

-- the same of a node; none where it is not declared
abbrev pub refers_to : List Term → List Declaration → ℕ → List ℕ
refers_to terms ds node = flat_map (references_of terms ds) (declared_at ds node)
