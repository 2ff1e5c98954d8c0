-- sh:closed with sh:ignoredProperties (SHACL, section 4.8.1).
use Rattle.std.specs.Prelude.{ℕ, Bool, ◌||◌, List, [], ◌∷◌, Some, flat_map, if◌then◌else◌}
use Rattle.shx_term.specs.declared.triple.Triple.{Triple}
use Rattle.graph_view.specs.declared.key.Key.{Key}
use Rattle.graph_view.specs.declared.key.Key.TheVariants.{Subject}
use Rattle.graph_view.specs.Graph.{Graph, triples_of}
use Rattle.comp_core.specs.declared.pair.At.{At}
use Rattle.comp_core.specs.declared.row.ResultRow.{ResultRow}
use Rattle.comp_core.specs.declared.kinds.TheConstants.{CLOSED}
use Rattle.comp_core.specs.Rows.{plain_row}
use Rattle.comp_core.specs.TermTests.{is_among}
use Rattle.qualified_shapes.specs.declared.closed.Closed.{Closed}

-- the predicate is permitted, or ignored
abbrev pub is_allowed : List ℕ → List ℕ → ℕ → Bool
is_allowed permitted ignored p = is_among p permitted || is_among p ignored

-- a result with the object and the predicate of a triple, unless the predicate is allowed
abbrev pub closed_hit : List ℕ → List ℕ → At → Triple → List ResultRow
closed_hit permitted ignored at t =
    if is_allowed permitted ignored t.p then []
    else plain_row at.focus (Some t.o) (Some t.p) at.shape CLOSED ∷ []

-- for each of the nodes those of its triples, by predicate and object
abbrev pub closed_at : List ℕ → List ℕ → Graph → At → List ℕ → List ResultRow
closed_at permitted ignored g at vs =
    flat_map (λ v. flat_map (closed_hit permitted ignored at) (triples_of g v)) vs

abbrev pub closed_hits : Closed → Graph → At → List ℕ → List ResultRow
closed_hits c g at vs = closed_at c.permitted c.ignored g at vs

-- the triples of each value node are read
abbrev pub closed_reads : List ℕ → List Key
closed_reads vs = flat_map (λ v. Subject v ∷ []) vs
