-- The orders in which a value node stands beside another node.
use Rattle.std.specs.Prelude.{ℕ, Bool, List, Option, Some, None, flat_map, slice_get}
use Rattle.shx_term.specs.declared.term.Term.{Term}
use Rattle.graph_view.specs.Graph.{Graph}
use Rattle.value_space.specs.Compared.{Compared, compared_by, is_less, is_less_eq}
use Rattle.comp_core.specs.declared.pair.At.{At}
use Rattle.comp_core.specs.declared.row.ResultRow.{ResultRow}
use Rattle.comp_core.specs.Results.{unless}
use Rattle.pair_components.specs.declared.orders.Order.{Order}
use Rattle.pair_components.specs.declared.orders.Order.TheVariants.{Less, LessOrEqual}

abbrev pub is_kept : Order → Option Compared → Option Compared → Bool
is_kept Less a b = is_less a b
is_kept LessOrEqual a b = is_less_eq a b

abbrev pub is_kept_by : Order → Term → Term → Bool
is_kept_by order a b = is_kept order (compared_by a) (compared_by b)

-- what the term of a number is compared by
abbrev pub compared_of : Option Term → Option Compared
compared_of None = None
compared_of (Some t) = compared_by t

abbrev pub compared_at : Graph → ℕ → Option Compared
compared_at g id = compared_of (slice_get g.terms id)

-- the results of a node beside others that were read
abbrev pub beside_read : Order → ℕ → At → ℕ → Option Compared → List (Option Compared) → List ResultRow
beside_read order kind at node term others = flat_map (λ b. unless (is_kept order term b) kind at node) others
