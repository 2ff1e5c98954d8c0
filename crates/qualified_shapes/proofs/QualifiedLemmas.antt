-- The law of components that hold to a number how many value nodes conform to a shape and to none of its
-- siblings.
use Rattle.std.specs.Prelude.{◌≡◌, ℕ, Bool, List, [], ◌∷◌, Contains}
use Rattle.std.proofs.Common.{refl}
use Rattle.shx_term.specs.declared.term.Term.{Term}
use Rattle.shx_term.proofs.MemberLemmas.{Contains-head, Contains-tail, filter_agree}
use Rattle.comp_core.specs.declared.pair.Pair.{Pair}
use Rattle.comp_core.specs.declared.row.ResultRow.{ResultRow}
use Rattle.comp_core.specs.Asking.{asked_keys, pairs_at, pairs_asked, conforms}
use Rattle.comp_core.specs.Laws.{Agreement}
use Rattle.comp_core.specs.Results.{once_if}
use Rattle.comp_core.specs.TermTests.{is_so_at}
use Rattle.comp_core.proofs.AskLemmas.{conforms_alike}
use Rattle.comp_core.proofs.LawLemmas.{asked_reads, number_kept}
use Rattle.comp_core.proofs.ResultLemmas.{list_any-agree}
use Rattle.qualified_shapes.specs.Qualified.{qualified_count, qualifies}

qualifies_alike : (m n : Pair → List ResultRow) (shape : ℕ) (siblings : List ℕ) (v : ℕ)
    → ((s : ℕ) → Contains (shape ∷ siblings) s → conforms m v s ≡ conforms n v s)
    → qualifies m shape siblings v ≡ qualifies n shape siblings v
qualifies_alike m n shape siblings v same =
    let others = list_any-agree (conforms m v) (conforms n v) siblings
    (λ s c. same s (Contains-tail shape s siblings c)) in
    rw (same shape (Contains-head shape siblings), others) refl

pub qualified_counts_agree : {C : Type 0} (value shape : C → ℕ) (siblings : C → List ℕ)
    (test : ℕ → Term → Bool) (kind : ℕ)
    → Agreement {C = C} (λ c. value c ∷ []) (λ c vs. pairs_asked (shape c ∷ siblings c) vs)
    (λ c g m at vs.
    once_if (is_so_at (test (qualified_count m (shape c) (siblings c) vs)) g (value c)) kind at)
    (λ c g r at vs. asked_keys r (shape c ∷ siblings c) vs)
qualified_counts_agree value shape siblings test kind c g h m n r q at vs alike same =
    let shapes = shape c ∷ siblings c in
    let kept = number_kept g h (value c ∷ []) vs (asked_keys r shapes vs) alike (value c)
    (Contains-head (value c) []) in
    let found = filter_agree (qualifies m (shape c) (siblings c)) (qualifies n (shape c) (siblings c)) vs
    (λ v i. qualifies_alike m n (shape c) (siblings c) v
    (conforms_alike g h m n r q shapes vs alike.agree same v i)) in
    record {
      rows = rw (kept, found) refl;
      reads = asked_reads g h m n r q (pairs_at shapes) vs alike.agree same;
    }
