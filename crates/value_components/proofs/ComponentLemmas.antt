-- Laws of components by what their results are made of. These read nothing.
use Rattle.std.specs.Prelude.{ℕ, Bool, List, [], ◌∷◌, length}
use Rattle.std.proofs.Common.{refl, ap}
use Rattle.shx_term.specs.declared.term.Term.{Term}
use Rattle.shx_term.proofs.MemberLemmas.{Contains-head}
use Rattle.shx_term.proofs.SetLemmas.{SameMembers-itself}
use Rattle.comp_core.specs.declared.pair.At.{At}
use Rattle.comp_core.specs.declared.row.ResultRow.{ResultRow}
use Rattle.comp_core.specs.Laws.{Agreement}
use Rattle.comp_core.proofs.LawLemmas.{number_kept, value_kept}
use Rattle.comp_core.proofs.ResultLemmas.{each_unless-agree}
use Rattle.comp_core.specs.Results.{once_if, each_unless}
use Rattle.comp_core.specs.TermTests.{is_so, is_so_at, are_so_at}

-- whose results are the same in every graph
pub fixed_agrees : {C : Type 0} (hits : C → At → List ℕ → List ResultRow)
    → Agreement {C = C} (λ c. []) (λ c vs. []) (λ c g m at vs. hits c at vs) (λ c g r at vs. [])
fixed_agrees hits c g h m n r q at vs alike same = record { rows = refl; reads = SameMembers-itself [] }

-- which hold the number of value nodes to the term of their parameter
pub counts_agree : {C : Type 0} (value : C → ℕ) (test : ℕ → Term → Bool) (kind : ℕ)
    → Agreement {C = C} (λ c. value c ∷ []) (λ c vs. [])
    (λ c g m at vs. once_if (is_so_at (test (length vs)) g (value c)) kind at) (λ c g r at vs. [])
counts_agree value test kind c g h m n r q at vs alike same = record {
  rows = ap (λ t. once_if (is_so (test (length vs)) t) kind at)
      (number_kept g h (value c ∷ []) vs [] alike (value c) (Contains-head (value c) []));
  reads = SameMembers-itself [];
}

-- which test the term of each value node
pub terms_agree : {C : Type 0} (test : C → Term → Bool) (kind : ℕ)
    → Agreement {C = C} (λ c. []) (λ c vs. [])
    (λ c g m at vs. each_unless (is_so_at (test c) g) kind at vs) (λ c g r at vs. [])
terms_agree test kind c g h m n r q at vs alike same = record {
  rows = each_unless-agree (is_so_at (test c) g) (is_so_at (test c) h) kind at vs
      (λ v i. ap (is_so (test c)) (value_kept g h [] vs [] alike v i));
  reads = SameMembers-itself [];
}

-- which hold the term of each value node to that of their parameter
pub pairs_agree : {C : Type 0} (value : C → ℕ) (test : Term → Term → Bool) (kind : ℕ)
    → Agreement {C = C} (λ c. value c ∷ []) (λ c vs. [])
    (λ c g m at vs. each_unless (are_so_at test g (value c)) kind at vs) (λ c g r at vs. [])
pairs_agree value test kind c g h m n r q at vs alike same =
    let own = number_kept g h (value c ∷ []) vs [] alike (value c) (Contains-head (value c) []) in
    record {
      rows = each_unless-agree (are_so_at test g (value c)) (are_so_at test h (value c)) kind at vs
          (λ v i. rw (own, value_kept g h (value c ∷ []) vs [] alike v i) refl);
      reads = SameMembers-itself [];
    }
