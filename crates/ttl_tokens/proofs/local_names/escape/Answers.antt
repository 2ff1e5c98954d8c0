use Rattle.std.specs.Str.{chars}
use Rattle.ttl_tokens.specs.Form.{Then}
use Rattle.ttl_tokens.specs.Terminals.{hex, plx}
use Rattle.ttl_tokens.proofs.LocalLemmas.{percent_same}
use Rattle.ttl_tokens.proofs.FormLemmas.{match_only}
use Rattle.ttl_tokens.proofs.local_names.escape.Goals as goal

pub returns-in-37 : goal.returns-in-37
returns-in-37 c =
    match_only (λ rest. chars rest.now) _ plx (Then hex hex) _ _
    (percent_same _ _ _ c.in_ok-first.ensures c.in-37.is) c.hex_2.ensures
