-- The parts of a language tag.
use Rattle.std.specs.Prelude.{codes}
use Rattle.ttl_tokens.specs.Form.{Item, Then}
use Rattle.ttl_tokens.specs.Chars.{Chars, word, some, is_letter_or_digit}

-- '-' [a-zA-Z0-9]+
abbrev pub subtag : Chars
subtag = Then (word (codes "-")) (some (Item is_letter_or_digit))
