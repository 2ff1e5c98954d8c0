-- The notation of grammars (XML 1.0, section 6), over items of any kind: what a form takes.
use Rattle.std.specs.Prelude.{◌≡◌, ℕ, zero, suc, ◌⊎◌, Bool, true, false, ◌&&◌, ◌||◌}

-- forms over items: a test on characters, or a token with what it does
pub data Form (I : Type 0) : Type 0 where
  Empty : Form I
  Item : I → Form I
  Then : Form I → Form I → Form I
  Or : Form I → Form I → Form I
  Maybe : Form I → Form I
  Many : Form I → Form I

-- R so many times in turn
abbrev pub Times : {P : Type 0} → (P → P → Type 0) → ℕ → P → P → Type 0
Times R zero x y = x ≡ y
Times {P = P} R (suc n) x y = (m : P) × R x m × Times R n m y

-- from place x the form comes to place y, where R says from where to where an item leads
abbrev pub Takes : {I P : Type 0} → (I → P → P → Type 0) → Form I → P → P → Type 0
Takes R Empty x y = x ≡ y
Takes R (Item i) x y = R i x y
Takes {P = P} R (Then a b) x y = (m : P) × Takes R a x m × Takes R b m y
Takes R (Or a b) x y = Takes R a x y ⊎ Takes R b x y
Takes R (Maybe a) x y = (x ≡ y) ⊎ Takes R a x y
Takes R (Many a) x y = (n : ℕ) × Times (Takes R a) n x y

-- whether the form may take nothing, where `nothing` says it of an item
abbrev pub is_empty : {I : Type 0} → (I → Bool) → Form I → Bool
is_empty nothing Empty = true
is_empty nothing (Item i) = nothing i
is_empty nothing (Then a b) = is_empty nothing a && is_empty nothing b
is_empty nothing (Or a b) = is_empty nothing a || is_empty nothing b
is_empty nothing (Maybe a) = true
is_empty nothing (Many a) = true

-- whether what the form takes may begin with c, where `starts` says it of an item
abbrev pub begins : {I A : Type 0} → (I → Bool) → (I → A → Bool) → Form I → A → Bool
begins nothing starts Empty c = false
begins nothing starts (Item i) c = starts i c
begins nothing starts (Then a b) c =
    begins nothing starts a c || (is_empty nothing a && begins nothing starts b c)
begins nothing starts (Or a b) c = begins nothing starts a c || begins nothing starts b c
begins nothing starts (Maybe a) c = begins nothing starts a c
begins nothing starts (Many a) c = begins nothing starts a c
