-- The test for a number among others, and the members that it finds.
use Rattle.std.specs.Prelude.{◌≡◌, ℕ, Bool, true, false, List, [], Contains}
use Rattle.std.specs.Bool.{Decides}
use Rattle.std.proofs.Common.{refl, sym, inl, inr}
use Rattle.std.proofs.lemmas.Bool.Decides.{Decides-eqb}
use Rattle.std.proofs.lemmas.Map.Made.{is_member-Decides}
use Rattle.shx_term.specs.Members.{Adds}
use Rattle.shx_term.proofs.MemberLemmas.{none_in_empty}
use Rattle.comp_core.specs.TermTests.{is_among}

pub among_decides : (id : ℕ) (ids : List ℕ) → Decides (is_among id ids) (Contains ids id)
among_decides id ids =
    is_member-Decides
    (λ a b. (λ e. sym ((Decides-eqb b a).0 e), λ e. (Decides-eqb b a).1 (sym e))) ids id

same_test : (b c : Bool) (P : Type 0) → Decides b P → Decides c P → b ≡ c
same_test true true P p q = refl
same_test true false P p q = sym (q.1 (p.0 refl))
same_test false true P p q = p.1 (q.0 refl)
same_test false false P p q = refl

-- what was added to nothing
pub added_among : (xs ys : List ℕ) → Adds [] xs ys → (id : ℕ) → is_among id xs ≡ is_among id ys
added_among xs ys adds id =
    let test = among_decides id ys in
    same_test (is_among id xs) (is_among id ys) (Contains xs id) (among_decides id xs) (
      λ is. (adds.each id).1 (inr (test.0 is)),
      λ c. elim ((adds.each id).0 c) [ inl none ↦ absurd (none_in_empty id none) | inr d ↦ test.1 d ],
    )
