use denote.Text.{Utf8}
use denote.Shadow.{shadow}
use Rattle.std.specs.Str.{chars}
use Rattle.ttl_tokens.specs.Chars.{word}
use Rattle.ttl_tokens.proofs.WordLemmas.{Spelled}
use Rattle.ttl_tokens.proofs.words.written.Given as goal

abbrev pub invariant-loop-letter : goal.invariant-loop-letter
invariant-loop-letter l = record {
  rest : shadow (Utf8 l.rest);
  spelled : Spelled word (chars l.letters) (chars l.text) l.yielded (chars l.rest);
}
