use Rattle.ttl_tokens.proofs.OneTokenLemmas.{one_token, token_or_none, some_token}
use Rattle.ttl_tokens.proofs.laws.one_token_stands.Goals as goal

pub returns-clause-one : goal.returns-clause-one
returns-clause-one c = one_token

pub returns-clause-none : goal.returns-clause-none
returns-clause-none c = token_or_none

pub returns-clause-some : goal.returns-clause-some
returns-clause-some c = some_token
