use Rattle.std.proofs.Common.{ap, ◌∙◌}
use Rattle.std.specs.Prelude.{◌==◌}
use Rattle.std.specs.List.{before_first}
use Rattle.ttl_meaning.proofs.TokenTextLemmas.{prefix_cut, prefix_whole}
use Rattle.ttl_meaning.proofs.terms.prefix_text.Goals as goal

pub returns-in-Some : goal.returns-in-Some
returns-in-Some c =
    prefix_cut _ _ _ c.in-Some.ensures.0 c.in-Some.ensures.1
    ∙ ap (before_first (λ b. b == 58)) c.token_text-name.ensures

pub returns-in-None : goal.returns-in-None
returns-in-None c =
    prefix_whole _ c.in-None.ensures ∙ ap (before_first (λ b. b == 58)) c.token_text-name.ensures
