-- Tags that are noted one after the other.
use Rattle.std.specs.Prelude.{List, [], ℕ, Option, Some, None, fold, if◌then◌else◌}
use Rattle.value_components.specs.UniqueLang.{is_tag_among, with_tag}

-- tags that were seen, and those that were seen again, each once
pub record Noted : Type 0 where
  pub seen : List (List ℕ)
  pub again : List (List ℕ)

abbrev pub note_tag : Noted → Option (List ℕ) → Noted
note_tag noted None = noted
note_tag noted (Some t) = record {
  seen = with_tag t noted.seen;
  again = if is_tag_among t noted.seen then with_tag t noted.again else noted.again;
}

abbrev pub nothing_noted : Noted
nothing_noted = record { seen = []; again = [] }

abbrev pub tags_noted : List (Option (List ℕ)) → Noted
tags_noted tags = fold note_tag nothing_noted tags
