-- Components that ask about each value node at one shape: a step of their loop.
use Rattle.std.proofs.Common.{ℕ, ◌+◌, ◌<◌, List, [], ◌∷◌, append-nil, get_or, length, take}
use Rattle.std.specs.Prelude.{All, flat_map}
use Rattle.shx_term.proofs.MemberLemmas.{All_head, All_part}
use Rattle.graph_view.specs.declared.key.Key.{Key}
use Rattle.graph_view.specs.Notes.{IsNoting}
use Rattle.comp_core.specs.declared.pair.Pair.{Pair}
use Rattle.comp_core.specs.Asking.{asked_keys, pair_of, pairs_asked, pairs_at}
use Rattle.comp_core.proofs.NotingLemmas.{noted_more}

module _ (shape : ℕ) (vs : List ℕ) (i : ℕ) (inside : i < length vs) where
  pub is_held : (held : Pair → Type 0) → All held (pairs_asked (shape ∷ []) vs)
      → held (pair_of (get_or vs i 0) shape)
  is_held held all =
      All_head held (pair_of (get_or vs i 0) shape) []
      (All_part held (pairs_at (shape ∷ [])) vs i 0 inside all)

  pub are_noted : {N : Type 0} {notes : N → N → List Key → Type 0} → IsNoting notes → (r : Pair → List Key)
      → {old mid new : N} → notes old mid (asked_keys r (shape ∷ []) (take i vs))
      → notes mid new (r (pair_of (get_or vs i 0) shape))
      → notes old new (asked_keys r (shape ∷ []) (take (i + 1) vs))
  are_noted laws r before step =
      noted_more laws (λ v. flat_map r (pairs_at (shape ∷ []) v)) vs i 0 inside before (rw append-nil step)
