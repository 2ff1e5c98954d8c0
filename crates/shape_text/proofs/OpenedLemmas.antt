-- How often one text is opened.
use Rattle.std.proofs.Common.{◌≡◌, ◌≢◌, ℕ, ◌+◌, ◌≤◌, sym, subst, arith}
use Rattle.std.proofs.Common.{true, false, ◌==◌, if◌then◌else◌, Result, Err, inl, inr, refl}
use Rattle.std.proofs.lemmas.Bool.{eqb-true}
use Rattle.shx_outside.specs.Counted.{Rose, last_count, next_count}
use Rattle.text_input.specs.declared.read_fault.ReadFault.{ReadFault}
use Rattle.text_input.specs.declared.read_fault.ReadFault.TheVariants.{Input}
use Rattle.text_input.specs.TextRead.{OpensOnce}

-- a count that is raised once rises by one at most
pub next_bounded : (n : ℕ) → next_count n ≤ n + 1
next_bounded n = elim (n == last_count) as (λ b. (if b then n else n + 1) ≤ n + 1) [
  | true ↦ omega arith
  | false ↦ omega arith
]

pub next_rose : (n : ℕ) → Rose n (next_count n)
next_rose n =
    elim (n == last_count) as (λ b. (n == last_count) ≡ b → Rose n (if b then n else n + 1)) [
      | true ↦ λ last. record { later = omega arith; more = inr (eqb-true n last_count last) }
      | false ↦ λ _. record { later = omega arith; more = inl (omega arith) }
    ] refl

module _ {T : Type 0} (before now : ℕ) (result : Result T ReadFault) (opens : OpensOnce before now result)
  where
    pub OpensOnce-bounded : now ≤ before + 1
    OpensOnce-bounded = elim opens.at_most [
      | inl same ↦ omega (arith, same)
      | inr next ↦ subst (λ n. n ≤ before + 1) (sym next) (next_bounded before)
    ]

    pub OpensOnce-rose : result ≢ Err Input → Rose before now
    OpensOnce-rose other = subst (Rose before) (sym (opens.opened other)) (next_rose before)
