-- What a walk over a text or over tokens says of a form.
use Rattle.std.specs.Prelude.{◌≡◌, ℕ, ◌⊎◌}
use Rattle.ttl_tokens.specs.Form.{Form, Times, Takes}

-- the form takes nothing that stands at x
pub record Never {I P : Type 0} (R : I → P → P → Type 0) (f : Form I) (x : P) : Type 0 where
  pub none : (z : P) → Takes R f x z → ⊥

-- from x the form comes to y and nowhere else
pub record Only {I P : Type 0} (R : I → P → P → Type 0) (f : Form I) (x y : P) : Type 0 where
  pub takes : Takes R f x y
  pub only : (z : P) → Takes R f x z → y ≡ z

-- at x the form f takes what g takes at y
pub record Same {I P : Type 0} (R : I → P → P → Type 0) (f : Form I) (x : P) (g : Form I) (y : P) : Type 0
  where
    pub to : (z : P) → Takes R f x z → Takes R g y z
    pub back : (z : P) → Takes R g y z → Takes R f x z

-- nowhere do both forms take something
pub record Apart {I P : Type 0} (R : I → P → P → Type 0) (f g : Form I) : Type 0 where
  pub apart : (x y z : P) → Takes R f x y → Takes R g x z → ⊥

-- one f behind the other, at each place the only one
abbrev pub Runs : {I P : Type 0} → (I → P → P → Type 0) → Form I → P → P → Type 0
Runs R f x y = (n : ℕ) × Times (Only R f) n x y

-- one f behind the other, as often as it can
pub record Greedy {I P : Type 0} (R : I → P → P → Type 0) (f : Form I) (x y : P) : Type 0 where
  pub runs : Runs R f x y
  pub ends : Never R f y

-- past the form where it takes something
abbrev pub Passes : {I P : Type 0} → (I → P → P → Type 0) → Form I → P → P → Type 0
Passes R f x y = Only R f x y ⊎ (Never R f x × (x ≡ y))
