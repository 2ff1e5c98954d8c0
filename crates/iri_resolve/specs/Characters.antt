-- The characters of references (RFC 3987; Turtle 1.1, section 6.5, IRIREF), as bytes of UTF-8: a character
-- outside ASCII is allowed, and so is each of its bytes.
use Rattle.std.specs.Prelude.{ℕ, Bool, not, ◌&&◌, ◌||◌, ◌==◌, nat_lt, List}
use Rattle.std.specs.List.{list_all}

abbrev pub is_slash : ℕ → Bool
is_slash b = b == 47

abbrev pub is_question_mark : ℕ → Bool
is_question_mark b = b == 63

abbrev pub is_hash : ℕ → Bool
is_hash b = b == 35

-- above the space, and none of `<`, `>`, `"`, `{`, `}`, `|`, `^`, `\` and the backquote
abbrev pub is_allowed_byte : ℕ → Bool
is_allowed_byte b =
    nat_lt 32 b
    && not ((b == 60)
    || ((b == 62)
    || ((b == 34)
    || ((b == 123) || ((b == 125) || ((b == 124) || ((b == 94) || ((b == 92) || (b == 96)))))))))

-- every character may stand in an IRI reference
abbrev pub is_allowed : List ℕ → Bool
is_allowed text = list_all is_allowed_byte text
