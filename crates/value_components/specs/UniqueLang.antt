-- sh:uniqueLang (SHACL, section 4.4.5).
use Rattle.std.specs.Prelude.{ℕ, nat_eq, nat_le, Bool, false, List, [], ◌∷◌, ◌++◌, Option, Some, None, map}
use Rattle.std.specs.Prelude.{length, filter, replicate, if◌then◌else◌}
use Rattle.std.specs.List.{list_any}
use Rattle.std.specs.Cmp.Lexicographic.{pointwise}
use Rattle.graph_view.specs.Graph.{Graph}
use Rattle.comp_core.specs.declared.pair.At.{At}
use Rattle.comp_core.specs.declared.row.ResultRow.{ResultRow}
use Rattle.comp_core.specs.declared.kinds.TheConstants.{UNIQUE_LANG}
use Rattle.comp_core.specs.Rows.{plain_row}
use Rattle.value_components.specs.Tags.{tag_at}

abbrev pub is_tag_among : List ℕ → List (List ℕ) → Bool
is_tag_among t ts = list_any (pointwise nat_eq t) ts

abbrev pub with_tag : List ℕ → List (List ℕ) → List (List ℕ)
with_tag t ts = if is_tag_among t ts then ts else ts ++ t ∷ []

-- the tags of nodes, of which some have none: each tag once
abbrev pub each_once : List (Option (List ℕ)) → List (List ℕ)
each_once [] = []
each_once (None ∷ tags) = each_once tags
each_once (Some t ∷ tags) = with_tag t (each_once tags)

-- how many of the nodes have the tag
abbrev pub has_tag : List ℕ → Option (List ℕ) → Bool
has_tag t None = false
has_tag t (Some u) = pointwise nat_eq t u

abbrev pub tag_count : List ℕ → List (Option (List ℕ)) → ℕ
tag_count t tags = length (filter (has_tag t) tags)

-- the tags that two or more of the nodes have, each once
abbrev pub repeated_tags : List (Option (List ℕ)) → List (List ℕ)
repeated_tags tags = filter (λ t. nat_le 2 (tag_count t tags)) (each_once tags)

-- one result without a value for each tag that two or more value nodes have
abbrev pub unique_lang_hits : Graph → At → List ℕ → List ResultRow
unique_lang_hits g at vs =
    replicate (length (repeated_tags (map (tag_at g) vs))) (plain_row at.focus None None at.shape UNIQUE_LANG)
