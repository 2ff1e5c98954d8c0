-- Pairs that leave in turn, each once.
use Rattle.std.specs.Prelude.{◌≡◌, ℕ, ◌+◌, ◌<◌, true, false, List, [], ◌∷◌, ◌++◌, map, length, take}
use Rattle.std.specs.Prelude.{if◌then◌else◌}
use Rattle.std.specs.List.{IsDistinct, list_any}
use Rattle.std.proofs.Common.{refl, sym, ap, ◌∙◌, subst, get_or}
use Rattle.std.proofs.lemmas.List.{map-append, take_more}
use Rattle.std.proofs.lemmas.Map.Keys.{IsDistinct-push}
use Rattle.shx_term.proofs.SetLemmas.{Adds-insert, Adds-then}
use Rattle.comp_core.specs.declared.pair.Pair.{Pair}
use Rattle.comp_core.specs.Pairs.{same_pair, same_pair_equiv, same_pair_exact}
use Rattle.shape_eval.specs.Report.{at_shape}
use Rattle.edit_engine.specs.inner.Parts.{AlsoLeave}

-- a pair that is inserted is there once
inserted_once : (ps : List Pair) (p : Pair) → IsDistinct same_pair ps
    → IsDistinct same_pair (if list_any (same_pair p) ps then ps else ps ++ p ∷ [])
inserted_once ps p once =
    elim (list_any (same_pair p) ps) as
    (λ b. list_any (same_pair p) ps ≡ b → IsDistinct same_pair (if b then ps else ps ++ p ∷ [])) [
      | true ↦ λ _. once
      | false ↦ λ absent. IsDistinct-push same_pair_equiv ps p once absent
    ] refl

module _ (n : ℕ) (nodes : List ℕ) (i : ℕ) (d : ℕ) (inside : i < length nodes) where
  -- the next node of a shape leaves
  pub AlsoLeave-take_one : {old mid new : List Pair}
      → new ≡ (if list_any (same_pair (at_shape n (get_or nodes i d))) mid then mid
      else mid ++ at_shape n (get_or nodes i d) ∷ [])
      → AlsoLeave (map (at_shape n) (take i nodes)) old mid
      → AlsoLeave (map (at_shape n) (take (i + 1) nodes)) old new
  AlsoLeave-take_one {old} {mid} {new} is before =
      let p = at_shape n (get_or nodes i d) in
      let taken = map (at_shape n) (take i nodes) in
      let inserted = if list_any (same_pair p) mid then mid else mid ++ p ∷ [] in
      let all : map (at_shape n) (take (i + 1) nodes) ≡ taken ++ p ∷ [] =
      ap (map (at_shape n)) (take_more nodes i d inside)
      ∙ map-append (at_shape n) (take i nodes) (get_or nodes i d ∷ []) in
      let one = Adds-insert same_pair same_pair_equiv same_pair_exact mid p in
      let adds = Adds-then taken (p ∷ []) before.adds one in
      let leave : AlsoLeave (taken ++ p ∷ []) old inserted =
      record { adds = adds; once = λ o. inserted_once mid p (before.once o) } in
      subst (λ ps. AlsoLeave ps old new) (sym all)
      (subst (AlsoLeave (taken ++ p ∷ []) old) (sym is) leave)
