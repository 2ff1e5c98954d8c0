-- The test of two routes is exact, and so an equivalence.
use Rattle.std.specs.Prelude.{◌≡◌, ℕ, ◌==◌, Bool, true, false, ◌&&◌, if◌then◌else◌}
use Rattle.std.specs.Cmp.{IsEquivalence, on_equiv, first_so, second_so}
use Rattle.std.proofs.Common.{refl, sym, ap, ◌∙◌, true≢false, eq-eqb}
use Rattle.std.proofs.lemmas.Bool.{eqb-true}
use Rattle.path_eval.specs.Route.{Route, along, here, first_then, none, one_or_other, turned, any_times}
use Rattle.path_eval.specs.Route.{some_times, perhaps, route_of}
use Rattle.path_eval.specs.inner.SameRoute.{first_of, form_of, predicate_of, same_path, same_route, second_of}

-- a route is made of its form, predicate and parts
abbrev made : ℕ → ℕ → Route → Route → Route
made k p a b =
    if k == 0 then along p
    else if k == 1 then here
    else if k == 2 then first_then a b
    else if k == 3 then none
    else if k == 4 then one_or_other a b
    else if k == 5 then turned a
    else if k == 6 then any_times a
    else if k == 7 then some_times a
    else perhaps a

made_again : (r : Route) → made (form_of r) (predicate_of r) (first_of r) (second_of r) ≡ r
made_again (along p) = refl
made_again here = refl
made_again (first_then a b) = refl
made_again none = refl
made_again (one_or_other a b) = refl
made_again (turned a) = refl
made_again (any_times a) = refl
made_again (some_times a) = refl
made_again (perhaps a) = refl

-- so it is known by its form
of_form : (k : ℕ) (r : Route) → (form_of r == k) ≡ true
    → made k (predicate_of r) (first_of r) (second_of r) ≡ r
of_form k r h =
    ap (λ n. made n (predicate_of r) (first_of r) (second_of r)) (sym (eqb-true (form_of r) k h))
    ∙ made_again r

pub same_route_exact : (r s : Route) → same_route r s ≡ true → r ≡ s
same_route_exact (along p) s h =
    ap along (eqb-true p (predicate_of s) (second_so (form_of s == 0) _ h)) ∙ of_form 0 s (first_so _ _ h)
same_route_exact here s h = of_form 1 s h
same_route_exact (first_then a b) s h =
    let parts = second_so (form_of s == 2) _ h in
    ap (λ x. first_then x b) (same_route_exact a (first_of s) (first_so _ _ parts))
    ∙ ap (first_then (first_of s))
    (same_route_exact b (second_of s) (second_so (same_route a (first_of s)) _ parts))
    ∙ of_form 2 s (first_so _ _ h)
same_route_exact none s h = of_form 3 s h
same_route_exact (one_or_other a b) s h =
    let parts = second_so (form_of s == 4) _ h in
    ap (λ x. one_or_other x b) (same_route_exact a (first_of s) (first_so _ _ parts))
    ∙ ap (one_or_other (first_of s))
    (same_route_exact b (second_of s) (second_so (same_route a (first_of s)) _ parts))
    ∙ of_form 4 s (first_so _ _ h)
same_route_exact (turned a) s h =
    ap turned (same_route_exact a (first_of s) (second_so (form_of s == 5) _ h))
    ∙ of_form 5 s (first_so _ _ h)
same_route_exact (any_times a) s h =
    ap any_times (same_route_exact a (first_of s) (second_so (form_of s == 6) _ h))
    ∙ of_form 6 s (first_so _ _ h)
same_route_exact (some_times a) s h =
    ap some_times (same_route_exact a (first_of s) (second_so (form_of s == 7) _ h))
    ∙ of_form 7 s (first_so _ _ h)
same_route_exact (perhaps a) s h =
    ap perhaps (same_route_exact a (first_of s) (second_so (form_of s == 8) _ h))
    ∙ of_form 8 s (first_so _ _ h)

both_so : (x y : Bool) → x ≡ true → y ≡ true → (x && y) ≡ true
both_so x y first second = ap (λ b. b && y) first ∙ second

pub same_route_itself : (r : Route) → same_route r r ≡ true
same_route_itself (along p) = eq-eqb p p refl
same_route_itself here = refl
same_route_itself (first_then a b) =
    both_so (same_route a a) (same_route b b) (same_route_itself a) (same_route_itself b)
same_route_itself none = refl
same_route_itself (one_or_other a b) =
    both_so (same_route a a) (same_route b b) (same_route_itself a) (same_route_itself b)
same_route_itself (turned a) = same_route_itself a
same_route_itself (any_times a) = same_route_itself a
same_route_itself (some_times a) = same_route_itself a
same_route_itself (perhaps a) = same_route_itself a

-- where it finds two routes the same, it does so the other way round
same_route_back : (r s : Route) → same_route r s ≡ true → same_route s r ≡ true
same_route_back r s h = ap (λ x. same_route s x) (same_route_exact r s h) ∙ same_route_itself s

same_route_symm : (r s : Route) → same_route r s ≡ same_route s r
same_route_symm r s =
    elim (same_route r s) as (λ b. same_route r s ≡ b → b ≡ same_route s r) [
      | true ↦ λ h. sym (same_route_back r s h)
      | false ↦ λ h. elim (same_route s r) as (λ b. same_route s r ≡ b → false ≡ b) [
        | true ↦ λ k. absurd (true≢false (sym (same_route_back s r k) ∙ h))
        | false ↦ λ k. refl
      ] refl
    ] refl

pub same_route_equiv : IsEquivalence same_route
same_route_equiv = record {
  refl = same_route_itself;
  symm = same_route_symm;
  congr = λ r s t h. ap (λ x. same_route x t) (same_route_exact r s h);
}

pub same_path_equiv : IsEquivalence same_path
same_path_equiv = on_equiv route_of same_route_equiv
