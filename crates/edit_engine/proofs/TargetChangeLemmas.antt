-- What is added to nothing.
use Rattle.std.specs.Prelude.{◌≡◌, List, [], Contains}
use Rattle.std.proofs.Common.{subst, inl, inr}
use Rattle.shx_term.specs.Members.{Adds, SameMembers}
use Rattle.shx_term.proofs.MemberLemmas.{none_in_empty}

pub SameMembers-from_nothing : {X : Type 0} {old new : List X} (more : List X) → old ≡ [] → Adds old new more
    → SameMembers new more
SameMembers-from_nothing {X} {old} {new} more none adds = record {
  each = λ x. (
    λ c. elim ((adds.each x).0 c) [
      | inl d ↦ absurd (none_in_empty x (subst (λ xs. Contains xs x) none d))
      | inr d ↦ d
    ],
    λ d. (adds.each x).1 (inr d),
  );
}
