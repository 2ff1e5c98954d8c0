use Rattle.std.proofs.Common.{refl}
use Rattle.ttl_tokens.specs.inner.NameForms.{local_char}
use Rattle.ttl_tokens.proofs.DottedLemmas.{last_no_dot}
use Rattle.ttl_tokens.proofs.FormLemmas.{or_never}
use Rattle.ttl_tokens.proofs.local_names.local_step.Goals as goal

pub returns-in-Some : goal.returns-in-Some
returns-in-Some c = last_no_dot local_char refl refl c.in-Some.ensures

pub returns-in-None-past_char : goal.returns-in-None-past_char
returns-in-None-past_char c = or_never c.in-None.ensures c.in-None-past_char.ensures
