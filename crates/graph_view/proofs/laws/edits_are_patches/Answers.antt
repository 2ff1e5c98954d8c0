use Rattle.std.specs.Prelude.{[], ◌∷◌}
use Rattle.shx_term.proofs.SetLemmas.{SameMembers-sym}
use Rattle.graph_view.specs.Patched.{patched}
use Rattle.graph_view.proofs.EditLemmas.{SameMembers-inserted, SameMembers-removed, Agree-same}
use Rattle.graph_view.proofs.EditLemmas.{SameMembers-back, IsPatch-back}
use Rattle.graph_view.proofs.laws.edits_are_patches.Goals as goal

pub returns-clause-inserted : goal.returns-clause-inserted
returns-clause-inserted c = SameMembers-inserted

pub returns-clause-inserted_agree : goal.returns-clause-inserted_agree
returns-clause-inserted_agree c =
    λ g h t terms also. Agree-same (patched g (t ∷ []) []) h terms (SameMembers-inserted g h t also)

pub returns-clause-removed : goal.returns-clause-removed
returns-clause-removed c = SameMembers-removed

pub returns-clause-removed_agree : goal.returns-clause-removed_agree
returns-clause-removed_agree c =
    λ g h t terms without. Agree-same (patched g [] (t ∷ [])) h terms (SameMembers-removed g h t without)

pub returns-clause-exchanged : goal.returns-clause-exchanged
returns-clause-exchanged c =
    λ g h added removed terms same. Agree-same (patched g added removed) h terms (SameMembers-sym same)

pub returns-clause-back : goal.returns-clause-back
returns-clause-back c = SameMembers-back

pub returns-clause-back_is_patch : goal.returns-clause-back_is_patch
returns-clause-back_is_patch c = λ g added removed known patch. IsPatch-back g added removed patch known
