-- What the plain graph is: a pool, the triples, and how many of them it may hold.
use Rattle.std.specs.Prelude.{ℕ, ◌≤◌, ◌<◌, ◌^◌, List, length, All}
use Rattle.shx_term.specs.declared.term.Term.{Term}
use Rattle.shx_term.specs.declared.triple.Triple.{Triple}
use Rattle.shx_term.specs.Pool.{Pooled}
use Rattle.graph_view.specs.Graph.{Graph, IsKnownTriple}

pub record PlainGraph : Type 0 where
  pub pool : Pooled
  pub triples : List Triple
  pub limit : ℕ

-- its terms are those of the pool
abbrev pub plain_graph : PlainGraph → Graph
plain_graph g = record { terms = g.pool.terms; triples = g.triples }

-- all numbers have terms, and there are at most as many triples as the limit, which is a number of 64 bits
abbrev pub IsWithinLimit : List Term → List Triple → ℕ → Type 0
IsWithinLimit terms triples limit =
    All (IsKnownTriple terms) triples × (length triples ≤ limit) × (limit < 2 ^ 64)
