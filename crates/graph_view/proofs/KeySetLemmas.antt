-- Sets of keys: one more of them, and the same set in another form.
use Rattle.std.specs.Prelude.{List, [], ◌∷◌, ◌++◌, Contains}
use Rattle.std.proofs.Common.{subst, inl, inr}
use Rattle.std.specs.List.{IsDistinct}
use Rattle.shx_term.specs.Members.{Adds}
use Rattle.shx_term.proofs.MemberLemmas.{none_in_empty, Contains-one}
use Rattle.graph_view.specs.declared.key.Key.{Key}
use Rattle.graph_view.specs.Key.{same_key}
use Rattle.graph_view.specs.inner.KeyLaws.{same_key_equiv, same_key_exact}
use Rattle.graph_view.proofs.PatchedLemmas.{IsDistinct-append}

-- keys that were moved to another set, and more there
pub Adds-moved : (keys moved new more : List Key) → Adds [] moved keys → Adds moved new more
    → Adds keys new more
Adds-moved keys moved new more first then = record {
  each = λ key. (
    λ c. elim ((then.each key).0 c) [
      | inl d ↦ elim ((first.each key).0 d) [ inl e ↦ absurd (none_in_empty key e) | inr e ↦ inl e ]
      | inr d ↦ inr d
    ],
    λ h. (then.each key).1 (elim h [ inl d ↦ inl ((first.each key).1 (inr d)) | inr d ↦ inr d ]),
  );
}

one_distinct : (key : Key) → IsDistinct same_key (key ∷ [])
unfolding IsDistinct
one_distinct key = (tt, tt)

pub IsDistinct-push : (keys : List Key) (key : Key) → IsDistinct same_key keys → (Contains keys key → ⊥)
    → IsDistinct same_key (keys ++ key ∷ [])
IsDistinct-push keys key distinct absent =
    IsDistinct-append same_key same_key_equiv same_key_exact keys (key ∷ []) distinct (one_distinct key)
    (λ other c d. absent (subst (Contains keys) ((Contains-one key other).0 d) c))
