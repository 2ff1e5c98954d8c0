-- What is found of terms that were read before.
use Rattle.std.specs.Prelude.{◌≡◌, ℕ, false, List, [], ◌∷◌, map, Option, Some, None, slice_get}
use Rattle.std.proofs.Common.{refl, ap, sym, ◌∙◌}
use Rattle.shx_term.specs.declared.term.Term.{Term}
use Rattle.graph_view.specs.Graph.{Graph}
use Rattle.value_space.specs.Compared.{Compared, compared_by}
use Rattle.comp_core.specs.declared.pair.At.{At}
use Rattle.comp_core.specs.TermTests.{are_so, are_so_at}
use Rattle.pair_components.specs.declared.orders.Order.{Order}
use Rattle.pair_components.specs.declared.orders.Order.TheVariants.{Less, LessOrEqual}
use Rattle.pair_components.specs.PairResults.{each_beside}
use Rattle.pair_components.specs.inner.Orders.{is_kept, is_kept_by, compared_of, compared_at, beside_read}

kept_beside_none : (order : Order) (a : Option Compared) → is_kept order a None ≡ false
kept_beside_none Less None = refl
kept_beside_none Less (Some a) = refl
kept_beside_none LessOrEqual None = refl
kept_beside_none LessOrEqual (Some a) = refl

kept_alike : (order : Order) (t u : Option Term)
    → are_so (is_kept_by order) t u ≡ is_kept order (compared_of t) (compared_of u)
kept_alike Less None u = refl
kept_alike LessOrEqual None u = refl
kept_alike order (Some t) None = sym (kept_beside_none order (compared_by t))
kept_alike order (Some t) (Some u) = refl

-- what is found of terms is what is found of what was read of them
beside_alike : (order : Order) (g : Graph) (kind : ℕ) (at : At) (node : ℕ) (others : List ℕ)
    → each_beside (are_so_at (is_kept_by order) g) kind at others node
    ≡ beside_read order kind at node (compared_at g node) (map (compared_at g) others)
beside_alike order g kind at node [] = refl
beside_alike order g kind at node (w ∷ ws) =
    rw (kept_alike order (slice_get g.terms node) (slice_get g.terms w), beside_alike order g kind at node ws)
    refl

-- the same where the terms were read before
pub beside_is : (order : Order) (g : Graph) (kind : ℕ) (at : At) (node : ℕ) (others : List ℕ) (t : Term)
    (term : Option Compared) (read : List (Option Compared))
    → slice_get g.terms node ≡ Some t → term ≡ compared_by t → read ≡ map (compared_at g) others
    → beside_read order kind at node term read
    ≡ each_beside (are_so_at (is_kept_by order) g) kind at others node
beside_is order g kind at node others t term read has is same =
    let own : term ≡ compared_at g node = is ∙ ap compared_of (sym has) in
    rw (same, own) (sym (beside_alike order g kind at node others))
