-- Tags that were borrowed.
use Rattle.std.specs.Prelude.{ℕ, List, Option, Some, None, map}
use Rattle.std.proofs.Common.{Bor}
use Rattle.value_components.specs.inner.Noted.{Noted}

abbrev pub told : Option (Bor (List ℕ)) → Option (List ℕ)
told None = None
told (Some t) = Some t.now

abbrev pub kept : List (Bor (List ℕ)) → List (Bor (List ℕ)) → Noted
kept seen again = record { seen = map (λ t. t.now) seen; again = map (λ t. t.now) again }
