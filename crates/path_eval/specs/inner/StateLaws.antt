-- The laws of equality of states.
use Rattle.std.specs.Prelude.{◌≡◌, ℕ, Bool, true, ◌&&◌, ◌==◌, List, ◌++◌}
use Rattle.std.specs.Cmp.{IsEquivalence, on_equiv, and_equiv, nat_eq_equiv, first_so, second_so}
use Rattle.std.specs.Hash as fed
use Rattle.std.proofs.lemmas.Bool.{eqb-true}
use Rattle.path_eval.specs.declared.edge.State.{State}

abbrev pub place_of : State → ℕ
place_of t = t.place

abbrev pub node_of : State → ℕ
node_of t = t.node

abbrev pub same_state : State → State → Bool
same_state a b = (place_of a == place_of b) && (node_of a == node_of b)

abbrev pub state_hash_input : State → List (List ℕ)
state_hash_input t = fed.u32 (place_of t) ++ fed.u32 (node_of t)

pub same_state_equiv : IsEquivalence same_state
same_state_equiv = and_equiv (on_equiv place_of nat_eq_equiv) (on_equiv node_of nat_eq_equiv)

pub same_state_exact : (a b : State) → same_state a b ≡ true → a ≡ b
same_state_exact a b h =
    let place = eqb-true (place_of a) (place_of b) (first_so _ _ h) in
    let node = eqb-true (node_of a) (node_of b) (second_so (place_of a == place_of b) _ h) in
    λ i. record { place = place i; node = node i }
