use denote.Text.{Utf8}
use denote.Shadow.{shadow}
use Rattle.std.specs.Str.{chars}
use Rattle.ttl_tokens.proofs.DigitLemmas.{ReadsDigits}
use Rattle.ttl_tokens.proofs.meaning.numbered.Given as goal

abbrev pub invariant-loop-at : goal.invariant-loop-at
invariant-loop-at l = shadow (Utf8 l.rest) × ReadsDigits (chars l.text) l.at l.number (chars l.rest)
