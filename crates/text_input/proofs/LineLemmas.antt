-- How a text falls into lines.
use Rattle.std.proofs.Common.{◌≡◌, ℕ, ◌<◌, false, List, [], ◌∷◌, ◌++◌, length, refl, ap, ◌∙◌}
use Rattle.std.proofs.Common.{arith}
use Rattle.std.specs.List.{slice_split}
use Rattle.std.proofs.lemmas.List.Elements.{All-append}
use Rattle.std.proofs.lemmas.List.Splits.{slice_split_at, slice_split_none}
use Rattle.std.proofs.lemmas.List.Splits.{length-slice_split}
use Rattle.text_input.specs.Lines.{is_line_feed, HasNoFeed, without_empty_end, lines_of, without_last}
use Rattle.text_input.specs.Lines.{fed_lines}

pub HasNoFeed-append : (xs ys : List ℕ) → HasNoFeed xs → HasNoFeed ys → HasNoFeed (xs ++ ys)
HasNoFeed-append xs ys p q = record { each = All-append (λ b. is_line_feed b ≡ false) xs ys p.each q.each }

part_kept : (part next : List ℕ) (parts : List (List ℕ))
    → without_empty_end (part ∷ (next ∷ parts)) ≡ part ∷ without_empty_end (next ∷ parts)
part_kept [] next parts = refl
part_kept (b ∷ bs) next parts = refl

end_kept : (part : List ℕ) → 0 < length part → without_empty_end (part ∷ []) ≡ part ∷ []
end_kept [] h = absurd (omega arith)
end_kept (b ∷ bs) h = refl

first_kept : (part : List ℕ) (parts : List (List ℕ))
    → 0 < length parts → without_empty_end (part ∷ parts) ≡ part ∷ without_empty_end parts
first_kept part [] h = absurd (omega arith)
first_kept part (next ∷ parts) h = part_kept part next parts

not_last : (part : List ℕ) (parts : List (List ℕ))
    → 0 < length parts → without_last (part ∷ parts) ≡ part ∷ without_last parts
not_last part [] h = absurd (omega arith)
not_last part (next ∷ parts) h = refl

some_parts : (bytes : List ℕ) → 0 < length (slice_split is_line_feed bytes)
some_parts bytes = omega (arith, length-slice_split is_line_feed bytes)

module _ (first rest : List ℕ) (plain : HasNoFeed first) where
  split_at_feed : slice_split is_line_feed (first ++ 10 ∷ rest) ≡ first ∷ slice_split is_line_feed rest
  split_at_feed = slice_split_at is_line_feed first 10 rest plain.each refl

  pub lines_of-first : lines_of (first ++ 10 ∷ rest) ≡ first ∷ lines_of rest
  lines_of-first =
      ap without_empty_end split_at_feed
      ∙ first_kept first (slice_split is_line_feed rest) (some_parts rest)

  pub fed_lines-first : fed_lines (first ++ 10 ∷ rest) ≡ first ∷ fed_lines rest
  fed_lines-first =
      ap without_last split_at_feed ∙ not_last first (slice_split is_line_feed rest) (some_parts rest)

pub fed_lines-none : (part : List ℕ) → HasNoFeed part → fed_lines part ≡ []
fed_lines-none part plain = ap without_last (slice_split_none is_line_feed part plain.each)

-- a last line without a line feed
pub lines_of-last : (last : List ℕ) → HasNoFeed last → 0 < length last → lines_of last ≡ last ∷ []
lines_of-last last plain some =
    ap without_empty_end (slice_split_none is_line_feed last plain.each) ∙ end_kept last some
