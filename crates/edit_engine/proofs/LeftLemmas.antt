-- Loops over the items of a list: those that it has had, and those that are left, of which there are so many.
use Rattle.std.specs.Prelude.{◌≡◌, ℕ, ◌+◌, List, [], ◌∷◌, ◌++◌, map, length, Contains}
use Rattle.std.proofs.Common.{refl, sym, ap, ◌∙◌, subst, arith, append_assoc, append-nil}
use Rattle.std.proofs.lemmas.List.Elements.{Contains-append_right}
use Rattle.shx_term.proofs.MemberLemmas.{Contains-head}

pub record IsLeft {X : Type 0} (done rest all : List X) (count : ℕ) : Type 0 where
  pub whole : done ++ rest ≡ all
  pub count_is : count ≡ length rest

module _ {X : Type 0} where
  pub IsLeft-start : (rest all : List X) (count n : ℕ) → rest ≡ all → count ≡ n → n ≡ length all
      → IsLeft [] rest all count
  IsLeft-start rest all count n same counted long = record {
    whole = same;
    count_is = counted ∙ long ∙ ap length (sym same);
  }

  pub IsLeft-more : (done rest all later : List X) (x : X) (count fewer : ℕ) → IsLeft done rest all count
      → rest ≡ x ∷ later → fewer + 1 ≡ count → IsLeft (done ++ x ∷ []) later all fewer
  IsLeft-more done rest all later x count fewer left is one = record {
    whole = append_assoc done (x ∷ []) later ∙ ap (λ l. done ++ l) (sym is) ∙ left.whole;
    count_is =
        let n = left.count_is in
        let long : length rest ≡ length (x ∷ later) = ap length is in
        omega arith;
  }

  pub IsLeft-here : (done rest all later : List X) (x : X) (count : ℕ) → IsLeft done rest all count
      → rest ≡ x ∷ later → Contains all x
  IsLeft-here done rest all later x count left is =
      subst (λ l. Contains l x) (ap (λ l. done ++ l) (sym is) ∙ left.whole)
      (Contains-append_right done (x ∷ later) x (Contains-head x later))

  none_left : (rest : List X) → length rest ≡ 0 → rest ≡ []
  none_left [] e = refl
  none_left (x ∷ rest) e = absurd (omega (arith, e))

  pub IsLeft-end : (done rest all : List X) (count : ℕ) → IsLeft done rest all count → count ≡ 0 → done ≡ all
  IsLeft-end done rest all count left none =
      sym (append-nil done)
      ∙ ap (λ l. done ++ l) (sym (none_left rest (sym left.count_is ∙ none)))
      ∙ left.whole

  pub map_itself : (xs : List X) → map (λ x. x) xs ≡ xs
  map_itself [] = refl
  map_itself (x ∷ xs) = ap (λ rest. x ∷ rest) (map_itself xs)
