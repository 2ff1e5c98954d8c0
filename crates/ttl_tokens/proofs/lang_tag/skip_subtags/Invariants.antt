use Rattle.std.proofs.Common.{length}
use denote.Text.{Utf8}
use denote.Shadow.{shadow}
use Rattle.std.specs.Str.{chars}
use Rattle.ttl_tokens.specs.Form.{Many}
use Rattle.ttl_tokens.specs.inner.LangTagForms.{subtag}
use Rattle.ttl_tokens.specs.inner.Leaves.{Leaves}
use Rattle.ttl_tokens.proofs.lang_tag.skip_subtags.Given as goal

abbrev pub invariant-loop-behind : goal.invariant-loop-behind
invariant-loop-behind l =
    shadow (Utf8 l.rest) × Leaves (Many subtag) (chars l.text) (Many subtag) (chars l.rest)

abbrev pub decreases-loop-behind : goal.decreases-loop-behind
decreases-loop-behind l = length (chars l.rest)
