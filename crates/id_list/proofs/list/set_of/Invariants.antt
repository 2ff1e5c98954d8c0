use Rattle.std.specs.Prelude.{◌≡◌, ◌==◌, ℕ, take}
use Rattle.std.specs.List.{list_any}
use Rattle.id_list.proofs.list.set_of.Given as goal

abbrev pub invariant-loop-id : goal.invariant-loop-id
invariant-loop-id l =
    (id : ℕ) → list_any (λ other. other == id) l.set.keys
    ≡ list_any (λ other. other == id) (take l.id-index l.ids)
