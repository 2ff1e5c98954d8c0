-- What is left of an escape behind its first characters.
use Rattle.std.specs.Prelude.{◌&&◌, not, ◌==◌, codes}
use Rattle.ttl_tokens.specs.Form.{Item, Then, Or}
use Rattle.ttl_tokens.specs.Chars.{Chars, word, is_hex, between}
use Rattle.ttl_tokens.specs.Terminals.{hex_2, hex_4, four_digits, eight_digits}

-- of four digits, those behind a D
abbrev pub below_surrogates : Chars
below_surrogates = Then (Item (between 48 55)) hex_2

-- of eight digits, those behind 000 where these stand for one of the planes 1 to 15
abbrev pub low_plane : Chars
low_plane = Then (Item (λ c. is_hex c && not (c == 48))) hex_4

-- of eight digits, those behind 00 where these stand for plane 16
abbrev pub plane_16 : Chars
plane_16 = Then (word (codes "10")) hex_4

-- of eight digits, those behind 000
abbrev pub behind_3_zeros : Chars
behind_3_zeros = Or (Then (word (codes "0")) four_digits) low_plane

-- of eight digits, those behind 00
abbrev pub behind_2_zeros : Chars
behind_2_zeros = Or (Then (word (codes "00")) four_digits) (Or (Then (word (codes "0")) low_plane) plane_16)

-- of UCHAR, what stands behind \ where it has eight digits
abbrev pub long_uchar_rest : Chars
long_uchar_rest = Then (word (codes "U")) eight_digits

-- of UCHAR, what stands behind \
abbrev pub uchar_rest : Chars
uchar_rest = Or (Then (word (codes "u")) four_digits) long_uchar_rest
