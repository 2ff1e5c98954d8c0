-- The places of declarations, by their nodes.
use Rattle.std.specs.Prelude.{ℕ, nat_eq, List, [], ◌∷◌, Option, Some, None, flat_map, map, position}
use Rattle.std.specs.Prelude.{slice_index}
use Rattle.shape_refs.specs.Order.{nodes_declared}
use Rattle.shape_decl.specs.Declarations.{Declaration}

abbrev pub place_of : List Declaration → ℕ → Option ℕ
place_of ds node = position (nat_eq node) (nodes_declared ds)

abbrev pub if_any : Option ℕ → List ℕ
if_any None = []
if_any (Some place) = place ∷ []

-- of some nodes, in the same order
abbrev pub places_of : List Declaration → List ℕ → List ℕ
places_of ds nodes = flat_map (λ node. if_any (place_of ds node)) nodes

-- the nodes of the declarations at some places, in the same order
abbrev pub nodes_at : List Declaration → List ℕ → List ℕ
nodes_at ds places = map (slice_index (nodes_declared ds)) places
