-- What a walk over characters says of a form of which a part may still stand ahead.
use Rattle.std.specs.Prelude.{ℕ, ◌<◌, ◌≤◌, ◌⊎◌, List, length}
use Rattle.ttl_tokens.specs.Form.{Takes}
use Rattle.ttl_tokens.specs.Chars.{Chars, PastChar}

-- at ys all that is left to take of f is g: what f takes otherwise ends before ys
pub record Leaves (f : Chars) (xs : List ℕ) (g : Chars) (ys : List ℕ) : Type 0 where
  pub back : (zs : List ℕ) → Takes PastChar g ys zs → Takes PastChar f xs zs
  pub on : (zs : List ℕ) → Takes PastChar f xs zs → Takes PastChar g ys zs ⊎ (length ys < length zs)
  pub within : length ys ≤ length xs
