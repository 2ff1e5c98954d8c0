-- The walk over white space and comments: within a comment or not.
use Rattle.std.specs.Prelude.{ℕ, Bool, true, false, ◌==◌, List, [], ◌∷◌, if◌then◌else◌}
use Rattle.ttl_tokens.specs.Chars.{is_white, is_line_end}

-- what it leaves, where a comment is open or not
abbrev pub after_blanks : Bool → List ℕ → List ℕ
after_blanks in_comment [] = []
after_blanks true (c ∷ cs) = if is_line_end c then after_blanks false cs else after_blanks true cs
after_blanks false (c ∷ cs) =
    if is_white c then after_blanks false cs else if c == 35 then after_blanks true cs else (c ∷ cs)
