use Rattle.std.proofs.Common.{refl, sym}
use Rattle.std.specs.Str.{chars}
use Rattle.ttl_tokens.specs.inner.NameForms.{local_start}
use Rattle.ttl_tokens.specs.Terminals.{plx}
use Rattle.ttl_tokens.proofs.LocalLemmas.{escape_same, plain_only}
use Rattle.ttl_tokens.proofs.FormLemmas.{match_only}
use Rattle.ttl_tokens.proofs.local_names.local_start.Goals as goal

pub returns-then-is_local_start : goal.returns-then-is_local_start
returns-then-is_local_start c =
    plain_only _ _ _ _ refl refl c.in_ok-first.ensures (sym c.if-is_local_start.ensures)

pub returns-else-is_local_start : goal.returns-else-is_local_start
returns-else-is_local_start c =
    match_only (λ rest. chars rest.now) _ local_start plx _ _
    (escape_same _ _ _ _ c.in_ok-first.ensures (sym c.if-is_local_start.ensures)) c.escape.ensures
