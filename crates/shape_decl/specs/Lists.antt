-- SHACL lists (SHACL, section 1.1; RDF Schema, section 5.2).
use Rattle.std.specs.Prelude.{◌≡◌, ℕ, ◌==◌, zero, suc, Bool, true, List, [], ◌∷◌, length, Option, Some, None}
use Rattle.std.specs.Option.{option_map}
use Rattle.shx_term.specs.declared.vocabulary.TheConstants.{RDF_FIRST, RDF_REST, RDF_NIL}
use Rattle.graph_view.specs.Graph.{Graph, objects_of}
use Rattle.shape_decl.specs.declared.cell.Cell.{Cell}
use Rattle.shape_decl.specs.declared.cell.Cell.TheVariants.{End, Link, Neither}

-- rdf:nil with no rdf:first and no rdf:rest is the end of a list; exactly one of each makes a cell
abbrev pub cell_of : Bool → List ℕ → List ℕ → Cell
cell_of true [] [] = End
cell_of is_nil (first ∷ []) (rest ∷ []) = Link first rest
cell_of is_nil firsts rests = Neither

abbrev pub cell_at : Graph → ℕ → Cell
cell_at g node = cell_of (node == RDF_NIL) (objects_of g node RDF_FIRST) (objects_of g node RDF_REST)

-- the node is a list of these members: each stands in a cell, and the last cell leads to the end
abbrev pub IsListOf : (ℕ → Cell) → ℕ → List ℕ → Type 0
IsListOf cell node [] = cell node ≡ End
IsListOf cell node (member ∷ members) =
    (rest : ℕ) × (cell node ≡ Link member rest) × IsListOf cell rest members

abbrev pub IsList : Graph → ℕ → List ℕ → Type 0
IsList g head members = IsListOf (cell_at g) head members

-- ---- the members, where it is a list

abbrev pub followed : (ℕ → Option (List ℕ)) → Cell → Option (List ℕ)
followed others End = Some []
followed others (Link member rest) = option_map (λ members. member ∷ members) (others rest)
followed others Neither = None

-- of lists with fewer cells than n
abbrev pub members_within : ℕ → (ℕ → Cell) → ℕ → Option (List ℕ)
members_within zero cell node = None
members_within (suc n) cell node = followed (members_within n cell) (cell node)

-- no list has more cells than there are triples
unfoldable pub list_of : Graph → ℕ → Option (List ℕ)
list_of g head = members_within (suc (length g.triples)) (cell_at g) head

-- what is computed is what is a list
abbrev pub ListsAreRead : Type 0
ListsAreRead = (g : Graph) (head : ℕ) (members : List ℕ)
    → ((list_of g head ≡ Some members) → IsList g head members)
    × (IsList g head members → list_of g head ≡ Some members)
