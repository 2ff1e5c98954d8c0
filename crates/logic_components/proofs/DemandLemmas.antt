-- What a demand for a number of shapes is, and the laws of components that test each value node by what it
-- conforms to.
use Rattle.std.specs.Prelude.{◌≡◌, ◌==◌, ℕ, Bool, true, false, not, if◌then◌else◌}
use Rattle.std.specs.Prelude.{List, [], ◌∷◌, length, Contains}
use Rattle.std.proofs.Common.{refl, sym, ap, ◌∙◌}
use Rattle.shx_term.proofs.MemberLemmas.{filter_agree}
use Rattle.comp_core.specs.declared.pair.At.{At}
use Rattle.comp_core.specs.declared.pair.Pair.{Pair}
use Rattle.comp_core.specs.declared.row.ResultRow.{ResultRow}
use Rattle.comp_core.specs.Asking.{asked_keys, pairs_at, pairs_asked, conforms}
use Rattle.comp_core.specs.Laws.{Agreement}
use Rattle.comp_core.specs.Results.{each_unless}
use Rattle.comp_core.proofs.AskLemmas.{conforms_alike}
use Rattle.comp_core.proofs.LawLemmas.{asked_reads}
use Rattle.comp_core.proofs.ResultLemmas.{each_unless-agree}
use Rattle.logic_components.specs.declared.demand.Demand.{Demand}
use Rattle.logic_components.specs.inner.Demands.{is_met, is_met_at}

-- a test of value nodes by the results of each at some shapes is such a demand
abbrev pub IsDemand : Demand → List ℕ → ((Pair → List ResultRow) → ℕ → Bool) → Type 0
IsDemand demand shapes test = (m : Pair → List ResultRow) (v : ℕ) → is_met_at demand m shapes v ≡ test m v

pub results_of_demand : (demand : Demand) (shapes : List ℕ) (test : (Pair → List ResultRow) → ℕ → Bool)
    → IsDemand demand shapes test → (m : Pair → List ResultRow) (kind : ℕ) (at : At) (vs : List ℕ)
    → each_unless (is_met_at demand m shapes) kind at vs ≡ each_unless (test m) kind at vs
results_of_demand demand shapes test is m kind at vs =
    each_unless-agree (is_met_at demand m shapes) (test m) kind at vs (λ v i. is m v)

pub demands_agree : {C : Type 0} (demand : Demand) (shapes : C → List ℕ)
    (test : C → (Pair → List ResultRow) → ℕ → Bool) (kind : ℕ)
    → ((c : C) → IsDemand demand (shapes c) (test c))
    → Agreement {C = C} (λ c. []) (λ c vs. pairs_asked (shapes c) vs)
    (λ c g m at vs. each_unless (test c m) kind at vs) (λ c g r at vs. asked_keys r (shapes c) vs)
demands_agree demand shapes test kind is c g h m n r q at vs alike same =
    let found = λ (v : ℕ) (i : Contains vs v).
    filter_agree (conforms m v) (conforms n v) (shapes c)
    (conforms_alike g h m n r q (shapes c) vs alike.agree same v i) in
    record {
      rows = each_unless-agree (test c m) (test c n) kind at vs
          (λ v i. sym (is c m v)
          ∙ ap (λ those. is_met demand (length those) (length (shapes c))) (found v i)
          ∙ is c n v);
      reads = asked_reads g h m n r q (pairs_at (shapes c)) vs alike.agree same;
    }

-- one shape
pub is_none_of_one : (is : Bool) (x : ℕ) → (length (if is then x ∷ [] else []) == 0) ≡ not is
is_none_of_one true x = refl
is_none_of_one false x = refl
