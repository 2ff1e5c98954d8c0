-- Pairs of a shape and a node: when two are the same, what one feeds a hasher, and the key of what was found
-- of one.
use Rattle.std.specs.Prelude.{◌≡◌, Bool, true, ◌&&◌, ◌==◌, ◌++◌}
use Rattle.std.specs.Cmp.{IsEquivalence, on_equiv, and_equiv, nat_eq_equiv, first_so, second_so}
use Rattle.std.specs.Hash as fed
use Rattle.std.proofs.lemmas.Bool.{eqb-true}
use Rattle.graph_view.specs.declared.key.Key.{Key}
use Rattle.graph_view.specs.declared.key.Key.TheVariants.{Answer}
use Rattle.comp_core.specs.declared.pair.Pair.{Pair}

abbrev pub same_pair : Pair → Pair → Bool
same_pair a b = (a.shape == b.shape) && (a.node == b.node)

abbrev pub hashed_pair : Pair → fed.HashWrites
hashed_pair p = fed.u32 p.shape ++ fed.u32 p.node

abbrev pub answer_key : Pair → Key
answer_key p = Answer p.shape p.node

-- ---- laws that the equality of pairs cites

pub same_pair_equiv : IsEquivalence same_pair
same_pair_equiv = and_equiv (on_equiv (λ p. p.shape) nat_eq_equiv) (on_equiv (λ p. p.node) nat_eq_equiv)

pub same_pair_exact : (a b : Pair) → same_pair a b ≡ true → a ≡ b
same_pair_exact a b h =
    let shape = eqb-true a.shape b.shape (first_so (a.shape == b.shape) (a.node == b.node) h) in
    let node = eqb-true a.node b.node (second_so (a.shape == b.shape) (a.node == b.node) h) in
    λ i. record { shape = shape i; node = node i }
