use Rattle.std.specs.Str.{chars}
use Rattle.ttl_tokens.specs.Chars.{exactly}
use Rattle.ttl_tokens.specs.Terminals.{pname_ns}
use Rattle.ttl_tokens.proofs.FormLemmas.{maybe_no, match_only}
use Rattle.ttl_tokens.proofs.PrefixLemmas.{behind_prefix}
use Rattle.ttl_tokens.proofs.names.namespace.Goals as goal

pub returns-in-Some : goal.returns-in-Some
returns-in-Some c =
    match_only (λ rest. chars rest.now) _ pname_ns (exactly 58) _ _ (behind_prefix c.in-Some.ensures)
    c.past_char.ensures

pub returns-in-None : goal.returns-in-None
returns-in-None c =
    match_only (λ rest. chars rest.now) _ pname_ns (exactly 58) _ _ (maybe_no c.in-None.ensures)
    c.past_char-in-None.ensures
