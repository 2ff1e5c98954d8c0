-- That there is room for a change.
use Rattle.std.specs.Prelude.{◌+◌, ◌≤◌, ◌++◌, ℕ, Bool, List, length, filter, not}
use Rattle.std.proofs.Common.{refl, arith, length-append}
use Rattle.std.proofs.lemmas.List.Filters.{length-filter_both}

-- room beside all that was held is room beside what of it is left
pub room_beside : {X : Type 0} (stays : X → Bool) (held added : List X) (limit : ℕ)
    → length held + length added ≤ limit → length (filter stays held ++ added) ≤ limit
room_beside stays held added limit room =
    let apart = length-filter_both stays (λ x. not (stays x)) (λ x. refl) held in
    let both = length-append (filter stays held) added in
    omega (arith, apart, both, room)
