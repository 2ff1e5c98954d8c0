-- The edges of a path: how a route is laid from one place to another.
use Rattle.std.specs.Prelude.{ℕ, ◌+◌, List, [], ◌∷◌, ◌++◌}
use Rattle.graph_view.specs.Graph.{Graph}
use Rattle.path_eval.specs.declared.direction.Direction.{Direction}
use Rattle.path_eval.specs.Relation.{opposite, pick}
use Rattle.path_eval.specs.Route.{Route, along, here, first_then, none, one_or_other, turned, any_times}
use Rattle.path_eval.specs.Route.{some_times, perhaps}
use Rattle.path_eval.specs.Way.{Way, stay, one_step}
use Rattle.path_eval.specs.declared.edge.Label.{Label}
use Rattle.path_eval.specs.declared.edge.Label.TheVariants.{Free, Step}
use Rattle.path_eval.specs.declared.edge.Edge.{Edge}

abbrev pub edge_by : Label → ℕ → ℕ → Edge
edge_by label s e = record { from = s; label = label; to = e }

-- the first number that is free after a route is laid, if n is before
abbrev pub after : Route → ℕ → ℕ
after (along p) n = n
after here n = n
after (first_then a b) n = after b (after a (n + 1))
after none n = n
after (one_or_other a b) n = after b (after a n)
after (turned a) n = after a n
after (any_times a) n = after a (n + 1)
after (some_times a) n = after a (n + 1 + 1)
after (perhaps a) n = after a n

-- a route laid from place s to place e, with places between that are numbered from n on
abbrev pub laid : Direction → Route → ℕ → ℕ → ℕ → List Edge
laid d (along p) s e n = edge_by (Step d p) s e ∷ []
laid d here s e n = edge_by Free s e ∷ []
laid d (first_then a b) s e n =
    laid d a (pick d s n) (pick d n e) (n + 1) ++ laid d b (pick d n s) (pick d e n) (after a (n + 1))
laid d none s e n = []
laid d (one_or_other a b) s e n = laid d a s e n ++ laid d b s e (after a n)
laid d (turned a) s e n = laid (opposite d) a s e n
laid d (any_times a) s e n = edge_by Free s n ∷ edge_by Free n e ∷ laid d a n n (n + 1)
laid d (some_times a) s e n =
    edge_by Free s n ∷ edge_by Free (n + 1) n ∷ edge_by Free (n + 1) e ∷ laid d a n (n + 1) (n + 1 + 1)
laid d (perhaps a) s e n = edge_by Free s e ∷ laid d a s e n

-- what an edge does at a node
abbrev pub label_way : Graph → Label → Way
label_way g Free = stay
label_way g (Step d p) = one_step g d p
