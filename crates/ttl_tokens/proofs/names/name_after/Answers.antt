use Rattle.std.specs.Str.{chars}
use Rattle.ttl_tokens.proofs.NameLemmas.{match_word}
use Rattle.ttl_tokens.proofs.names.name_after.Goals as goal

pub returns-then-is_known : goal.returns-then-is_known
returns-then-is_known c =
    match_word (λ t. t.0) (λ t. chars t.1.now) _ _ (c.requires c.if-is_known.true) c.word.ensures
