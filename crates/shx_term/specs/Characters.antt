-- Characters of references, as bytes (RFC 3986, section 3.1).
use Rattle.std.specs.Prelude.{ℕ, Bool, false, ◌&&◌, ◌||◌, ◌==◌, nat_le, List, [], ◌∷◌}
use Rattle.std.specs.List.{list_all}
use Rattle.shx_term.specs.NumberForm.{is_digit}

abbrev pub is_colon : ℕ → Bool
is_colon b = b == 58

abbrev pub is_letter : ℕ → Bool
is_letter b = (nat_le 65 b && nat_le b 90) || (nat_le 97 b && nat_le b 122)

-- a letter, a digit, `+`, `-` or `.`
abbrev pub is_scheme_byte : ℕ → Bool
is_scheme_byte b = is_letter b || (is_digit b || ((b == 43) || ((b == 45) || (b == 46))))

-- a letter, then letters, digits, `+`, `-` and `.`
abbrev pub is_scheme : List ℕ → Bool
is_scheme [] = false
is_scheme (b ∷ bs) = is_letter b && list_all is_scheme_byte bs
