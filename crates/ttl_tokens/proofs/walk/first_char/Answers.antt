use Rattle.std.proofs.Common.{ℕ, List, ◌∷◌, sym, ap, ◌∙◌}
use Rattle.std.proofs.lemmas.Str.{chars_past_char}
use Rattle.std.specs.Str.{chars}
use Rattle.ttl_tokens.proofs.walk.first_char.Goals as goal

pub returns : goal.returns
returns c =
    chars_past_char c.args.text.now c.next.new.self.rest.now c.in_ok-first.first c.utf8.text
    (sym c.chars-rest.ensures.rest ∙ c.in_ok-first.ensures.steps.0)
    ∙ ap (λ (l : List ℕ). c.in_ok-first.first ∷ chars l) (sym c.as_str.ensures)
