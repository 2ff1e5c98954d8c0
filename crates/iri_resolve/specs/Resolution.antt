-- Resolving a reference against a base (RFC 3986, section 5.2.2; a reference with a scheme stands for
-- itself).
use Rattle.std.specs.Prelude.{◌≡◌, ℕ, true, List, [], ◌∷◌, ◌++◌, reverse, Option, Some, None, is_some}
use Rattle.std.specs.Prelude.{if◌then◌else◌, codes}
use Rattle.iri_resolve.specs.Characters.{is_slash, is_allowed}
use Rattle.iri_resolve.specs.Parts.{Parts, parts_of, written, from_first}
use Rattle.iri_resolve.specs.DotSegments.{without_dot_segments}

-- an IRI with a scheme, of allowed characters
pub record IsAbsolute (text : List ℕ) : Type 0 where
  pub scheme : is_some (parts_of text).scheme ≡ true
  pub allowed : is_allowed text ≡ true

-- a path up to and with its last slash
abbrev pub up_to_last_slash : List ℕ → List ℕ
up_to_last_slash path = reverse (from_first is_slash (reverse path))

-- a relative path merged with that of the base (section 5.2.3)
abbrev pub merged_with : Option (List ℕ) → List ℕ → List ℕ → List ℕ
merged_with (Some authority) [] path = codes "/" ++ path
merged_with (Some authority) (b ∷ bs) path = up_to_last_slash (b ∷ bs) ++ path
merged_with None front path = up_to_last_slash front ++ path

abbrev pub merged_path : Parts → List ℕ → List ℕ
merged_path base path = merged_with base.authority base.path path

-- the path that a reference without authority has over the base, by its path
abbrev pub target_path : Parts → List ℕ → List ℕ
target_path base [] = base.path
target_path base (b ∷ bs) =
    if is_slash b then without_dot_segments (b ∷ bs) else without_dot_segments (merged_path base (b ∷ bs))

-- the query that it has, by its path and its query
abbrev pub target_query : Option (List ℕ) → List ℕ → Option (List ℕ) → Option (List ℕ)
target_query base [] None = base
target_query base [] (Some query) = Some query
target_query base (b ∷ bs) query = query

-- the parts of the target of a reference without scheme, by its authority
abbrev pub target_with : Option (List ℕ) → Parts → Parts → Parts
target_with (Some authority) base reference = record {
  scheme = base.scheme;
  authority = Some authority;
  path = without_dot_segments reference.path;
  query = reference.query;
  fragment = reference.fragment;
}
target_with None base reference = record {
  scheme = base.scheme;
  authority = base.authority;
  path = target_path base reference.path;
  query = target_query base.query reference.path reference.query;
  fragment = reference.fragment;
}

abbrev pub target_of : Parts → Parts → Parts
target_of base reference = target_with reference.authority base reference

-- what a reference stands for over a base, by whether it has a scheme
abbrev pub resolved_with : Option (List ℕ) → List ℕ → List ℕ → List ℕ
resolved_with (Some scheme) base reference = reference
resolved_with None base reference = written (target_of (parts_of base) (parts_of reference))

abbrev pub resolved : List ℕ → List ℕ → List ℕ
resolved base reference = resolved_with (parts_of reference).scheme base reference
