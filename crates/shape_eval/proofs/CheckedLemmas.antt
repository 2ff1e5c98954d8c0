-- What is noted of constraints that are checked one behind the other.
use Rattle.std.proofs.Common.{◌≡◌, Bool, true, List, ◌++◌, inl, inr, sym, subst}
use Rattle.std.specs.Prelude.{Contains}
use Rattle.std.proofs.lemmas.List.Elements.{Contains-append_left, Contains-append_cases}
use Rattle.graph_view.specs.declared.key.Key.{Key}
use Rattle.graph_view.specs.Notes.{IsNoting}
use Rattle.shape_eval.specs.inner.Checked.{NotesUnlessClass}

-- what was noted, and what one constraint more reads, are noted together
pub noted_unless : {N : Type 0} {notes : N → N → List Key → Type 0} → IsNoting notes
    → (noted : Bool) (before keys class_keys : List Key)
    → (noted ≡ true → (key : Key) → Contains class_keys key → Contains before key)
    → (old mid new : N) → notes old mid before → NotesUnlessClass notes mid new noted keys class_keys
    → notes old new (before ++ keys)
noted_unless {notes = notes} laws noted before keys class_keys among old mid new first step = elim step [
  | inl more ↦ laws.then before keys first more
  | inr same ↦
      let stays : notes old new before = subst (λ n. notes old n before) (sym same.1.0) first in
      laws.same before (before ++ keys)
      (record {
        each = λ key. (
          Contains-append_left before keys key,
          λ c. elim (Contains-append_cases before keys key c) [
            | inl here ↦ here
            | inr there ↦
                among same.0 key (subst (λ ks. Contains ks key) same.1.1 there)
          ],
        );
      })
      stays
]
