-- What a reference stands for, by its parts.
use Rattle.std.proofs.Common.{◌≡◌, ℕ, true, false, List, Option, Some, None, is_some, refl, sym, ap, ◌∙◌}
use Rattle.iri_resolve.specs.Parts.{Parts, parts_of, written}
use Rattle.iri_resolve.specs.Resolution.{resolved, resolved_with, target_of}

resolved_with-itself : (scheme : Option (List ℕ)) (base reference : List ℕ)
    → is_some scheme ≡ true → resolved_with scheme base reference ≡ reference
resolved_with-itself (Some scheme) base reference is = refl
resolved_with-itself None base reference is = absurd (cc)

resolved_with-over : (scheme : Option (List ℕ)) (base reference : List ℕ) → is_some scheme ≡ false
    → resolved_with scheme base reference ≡ written (target_of (parts_of base) (parts_of reference))
resolved_with-over (Some scheme) base reference is = absurd (cc)
resolved_with-over None base reference is = refl

module _ (base reference : List ℕ) (parts : Parts) (are : parts ≡ parts_of reference) where
  -- with a scheme
  pub resolved-itself : is_some parts.scheme ≡ true → resolved base reference ≡ reference
  resolved-itself is = resolved_with-itself (parts_of reference).scheme base reference
      (sym (ap (λ (p : Parts). is_some p.scheme) are) ∙ is)

  -- and without one
  pub resolved-over : (over : Parts) → over ≡ parts_of base → is_some parts.scheme ≡ false
      → resolved base reference ≡ written (target_of over parts)
  resolved-over over is none =
      resolved_with-over (parts_of reference).scheme base reference
      (sym (ap (λ (p : Parts). is_some p.scheme) are) ∙ none)
      ∙ ap (λ (p : Parts). written (target_of p (parts_of reference))) (sym is)
      ∙ ap (λ (p : Parts). written (target_of over p)) (sym are)
