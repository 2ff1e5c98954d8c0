use Rattle.std.specs.Str.{chars}
use Rattle.ttl_tokens.proofs.NameLemmas.{local_token, match_word, namespace_token}
use Rattle.ttl_tokens.proofs.names.name.Goals as goal

pub returns-in-Some-local_name : goal.returns-in-Some-local_name
returns-in-Some-local_name c = local_token c.in-Some.ensures c.in-Some-local_name.ensures

pub returns-in-None-local_name : goal.returns-in-None-local_name
returns-in-None-local_name c = namespace_token c.in-Some.ensures c.in-None-local_name.ensures

pub returns-in-None : goal.returns-in-None
returns-in-None c = match_word (λ t. t.0) (λ t. chars t.1.now) _ _ c.in-None.ensures c.word.ensures
