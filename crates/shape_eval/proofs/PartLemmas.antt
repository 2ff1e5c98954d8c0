-- What holds of all that is made of the members of a list holds of what is made of each, and the other way.
use Rattle.std.specs.Prelude.{List, flat_map, All, Contains}
use Rattle.shx_term.proofs.MemberLemmas.{All_of_each, Contains-flat_map, Contains-from_flat_map, each_of_All}

module _ {X Y : Type 0} (P : Y → Type 0) (f : X → List Y) (xs : List X) where
  pub All_of_parts : ((x : X) → Contains xs x → All P (f x)) → All P (flat_map f xs)
  All_of_parts each =
      All_of_each P (flat_map f xs) (λ y c.
      let at = Contains-from_flat_map f xs y c in
      each_of_All P (f at.0) (each at.0 at.1) y at.2)

  pub All_in_part : All P (flat_map f xs) → (x : X) → Contains xs x → All P (f x)
  All_in_part all x c =
      All_of_each P (f x) (λ y d. each_of_All P (flat_map f xs) all y (Contains-flat_map f xs x y c d))
