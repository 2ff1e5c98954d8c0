use Rattle.std.proofs.Common.{length}
use denote.Text.{Utf8}
use denote.Shadow.{shadow}
use Rattle.std.specs.Str.{chars}
use Rattle.ttl_tokens.specs.inner.NameForms.{local_char}
use Rattle.ttl_tokens.specs.Chars.{exactly}
use Rattle.ttl_tokens.proofs.DottedLemmas.{Walked}
use Rattle.ttl_tokens.proofs.local_names.skip_local_tail.Given as goal

abbrev pub invariant-loop-behind : goal.invariant-loop-behind
invariant-loop-behind l = record {
  rest : shadow (Utf8 l.rest);
  end : shadow (Utf8 l.end);
  walked : Walked local_char (exactly 46) (chars l.text) (chars l.end) (chars l.rest);
}

abbrev pub decreases-loop-behind : goal.decreases-loop-behind
decreases-loop-behind l = length (chars l.rest)
