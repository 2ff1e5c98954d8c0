use Rattle.ttl_tokens.proofs.StringLemmas.{single_strings, long_found, long_missing, short_found}
use Rattle.ttl_tokens.proofs.StringLemmas.{short_missing}
use Rattle.ttl_tokens.proofs.strings.single_quoted.Goals as goal

pub returns-in-Some-long_rest : goal.returns-in-Some-long_rest
returns-in-Some-long_rest c = long_found single_strings c.in-Some.ensures c.in-Some-long_rest.ensures

pub returns-in-None-long_rest : goal.returns-in-None-long_rest
returns-in-None-long_rest c = long_missing single_strings c.in-Some.ensures c.in-None-long_rest.ensures

pub returns-in-Some-short_string : goal.returns-in-Some-short_string
returns-in-Some-short_string c = short_found single_strings c.in-None.ensures c.in-Some-short_string.ensures

pub returns-in-None-short_string : goal.returns-in-None-short_string
returns-in-None-short_string c = short_missing single_strings c.in-None.ensures c.in-None-short_string.ensures
