use Rattle.std.specs.Prelude.{◌≡◌, ◌<◌, ◌+◌, ℕ, List, [], ◌∷◌, get_or, length, map, take}
use Rattle.std.proofs.Common.{sym, ◌∙◌, subst, take_all}
use Rattle.std.proofs.lemmas.List.{map_more}
use Rattle.shx_term.specs.Members.{Adds, SameMembers}
use Rattle.shx_term.proofs.SetLemmas.{Adds-then}
use Rattle.path_eval.proofs.SuperclassLemmas.{SameMembers-added}
use Rattle.plan_swap.specs.Renumbered.{key_renumbered}
use Rattle.plan_swap.specs.Swap.{number_after}
use Rattle.plan_swap.proofs.swap.Swap.reads.Goals as goal

-- a step that adds the image of one more
Adds-image : {X Y : Type 0} (f : X → Y) (xs : List X) (i : ℕ) (d : X) (y : Y) → i < length xs
    → y ≡ f (get_or xs i d) → {mid new : List Y} → Adds [] mid (map f (take i xs)) → Adds mid new (y ∷ [])
    → Adds [] new (map f (take (i + 1) xs))
Adds-image f xs i d y inside is {mid} {new} before step =
    subst (Adds [] new) (sym (map_more f xs i d inside))
    (Adds-then (map f (take i xs)) (f (get_or xs i d) ∷ []) before
    (subst (λ z. Adds mid new (z ∷ [])) is step))

pub loop-key-preserved : goal.loop-key-preserved
loop-key-preserved c =
    Adds-image (key_renumbered (number_after c.args.self.now)) c.keys-key-items.result.now
    c.loop-key.key-index _ c.key.result c.loop-key-test.true c.key.ensures c.loop-key.invariant
    c.in_ok-add.ensures.added

pub returns : goal.returns
returns c =
    let keys = c.args.reads.now in
    let images = map (key_renumbered (number_after c.args.self.now)) in
    let all : take c.loop-key.key-index c.keys-key-items.result.now ≡ keys =
    take_all c.loop-key.key-index c.keys-key-items.result.now c.loop-key-test.false
    ∙ c.keys-key-items.ensures.keys in
    subst (λ found. SameMembers found (images keys)) (sym c.pack.ensures)
    (SameMembers-added c.loop-key.found (images keys)
    (subst (λ ks. Adds [] c.loop-key.found (images ks)) all c.loop-key.invariant))
