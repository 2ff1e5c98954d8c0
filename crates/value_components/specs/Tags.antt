-- Language tags, and the ranges that match them (RFC 4647, section 3.3.1).
use Rattle.std.specs.Prelude.{ℕ, nat_eq, Bool, ◌&&◌, ◌||◌, List, Option, Some, None, take, drop, length}
use Rattle.std.specs.Prelude.{slice_get, codes}
use Rattle.std.specs.Cmp.Lexicographic.{pointwise}
use Rattle.std.specs.List.{starts_with}
use Rattle.std.specs.Str.{str_eq_ignore_ascii_case}
use Rattle.shx_term.specs.declared.term.Term.{Term}
use Rattle.shx_term.specs.declared.term.Term.TheVariants.{Iri, Blank, Lit}
use Rattle.graph_view.specs.Graph.{Graph}

abbrev pub tag_of : Term → Option (List ℕ)
tag_of (Iri iri) = None
tag_of (Blank blank) = None
tag_of (Lit literal) = literal.tag

abbrev pub tag_in : Option Term → Option (List ℕ)
tag_in None = None
tag_in (Some t) = tag_of t

abbrev pub tag_at : Graph → ℕ → Option (List ℕ)
tag_at g v = tag_in (slice_get g.terms v)

-- the tag begins with the range, without case, and goes on with a hyphen
abbrev pub is_narrower : List ℕ → List ℕ → Bool
is_narrower tag range =
    starts_with nat_eq (drop (length range) tag) (codes "-")
    && str_eq_ignore_ascii_case (take (length range) tag) range

-- the range `*` matches every tag, any other one that equals it without case or is narrower
abbrev pub matches_range : List ℕ → List ℕ → Bool
matches_range tag range =
    pointwise nat_eq range (codes "*") || (str_eq_ignore_ascii_case tag range || is_narrower tag range)
