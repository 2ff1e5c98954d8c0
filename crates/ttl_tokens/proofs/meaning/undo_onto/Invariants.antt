use Rattle.std.proofs.Common.{◌≡◌, ◌++◌, length, string_bytes}
use denote.Text.{Utf8}
use denote.Shadow.{shadow}
use Rattle.std.specs.Str.{chars, encode_utf8_all}
use Rattle.ttl_tokens.specs.Unescaped.{undone}
use Rattle.ttl_tokens.proofs.UndoneLemmas.{Grown}
use Rattle.ttl_tokens.proofs.meaning.undo_onto.Given as goal

abbrev pub invariant-loop-plain : goal.invariant-loop-plain
invariant-loop-plain l =
    shadow (Utf8 l.rest)
    × (string_bytes l.fn.out ++ encode_utf8_all (undone (chars l.text))
    ≡ string_bytes l.out ++ encode_utf8_all (undone (chars l.rest)))
    × Grown (string_bytes l.fn.out) (string_bytes l.out)

abbrev pub decreases-loop-plain : goal.decreases-loop-plain
decreases-loop-plain l = length (chars l.rest)
