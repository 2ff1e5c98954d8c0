-- sh:lessThanOrEquals (SHACL, section 4.5.4).
use Rattle.std.specs.Prelude.{ℕ, List}
use Rattle.graph_view.specs.Graph.{Graph, objects_of}
use Rattle.value_space.specs.Compared.{is_less_eq_term}
use Rattle.comp_core.specs.declared.pair.At.{At}
use Rattle.comp_core.specs.declared.row.ResultRow.{ResultRow}
use Rattle.comp_core.specs.declared.kinds.TheConstants.{LESS_THAN_OR_EQUALS}
use Rattle.comp_core.specs.TermTests.{are_so_at}
use Rattle.pair_components.specs.declared.less_than_or_equals.LessThanOrEquals.{LessThanOrEquals}
use Rattle.pair_components.specs.PairResults.{each_pair_unless}

-- a result for each value node v and each object w of the predicate for which `v <= w` is not true
abbrev pub less_than_or_equals_hits : LessThanOrEquals → Graph → At → List ℕ → List ResultRow
less_than_or_equals_hits c g at vs =
    each_pair_unless (are_so_at is_less_eq_term g) LESS_THAN_OR_EQUALS at (objects_of g at.focus c.value) vs
