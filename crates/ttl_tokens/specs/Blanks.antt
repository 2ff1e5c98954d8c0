-- White space and comments between tokens (Turtle 1.1, sections 6.1 and 6.2).
use Rattle.std.specs.Prelude.{ℕ, not, List, codes}
use Rattle.ttl_tokens.specs.Form.{Item, Then, Or, Many}
use Rattle.ttl_tokens.specs.Chars.{Chars, Longest, word, is_white, is_line_end}

-- from `#` to the end of the line
abbrev pub comment : Chars
comment = Then (word (codes "#")) (Many (Item (λ c. not (is_line_end c))))

-- white space and comments, again and again
abbrev pub blanks : Chars
blanks = Many (Or (Item is_white) comment)

-- ys stands behind all white space and comments with which xs begins
abbrev pub SkipsBlanks : List ℕ → List ℕ → Type 0
SkipsBlanks xs ys = Longest blanks xs ys
