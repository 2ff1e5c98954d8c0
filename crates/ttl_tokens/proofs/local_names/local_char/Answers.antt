use Rattle.std.proofs.Common.{refl, sym}
use Rattle.std.specs.Str.{chars}
use Rattle.ttl_tokens.specs.inner.NameForms.{local_char}
use Rattle.ttl_tokens.specs.Terminals.{plx}
use Rattle.ttl_tokens.proofs.LocalLemmas.{escape_same, plain_only}
use Rattle.ttl_tokens.proofs.FormLemmas.{match_only}
use Rattle.ttl_tokens.proofs.local_names.local_char.Goals as goal

pub returns-then-is_local_char : goal.returns-then-is_local_char
returns-then-is_local_char c =
    plain_only _ _ _ _ refl refl c.in_ok-first.ensures (sym c.if-is_local_char.ensures)

pub returns-else-is_local_char : goal.returns-else-is_local_char
returns-else-is_local_char c =
    match_only (λ rest. chars rest.now) _ local_char plx _ _
    (escape_same _ _ _ _ c.in_ok-first.ensures (sym c.if-is_local_char.ensures)) c.escape.ensures
