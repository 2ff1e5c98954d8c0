use Rattle.std.specs.Prelude.{[], ◌∷◌}
use Rattle.shx_term.proofs.SetLemmas.{Adds-insert}
use Rattle.graph_view.specs.Key.{same_key}
use Rattle.graph_view.specs.inner.KeyLaws.{same_key_equiv, same_key_exact}
use Rattle.graph_view.proofs.KeySetLemmas.{Adds-moved}
use Rattle.graph_view.proofs.keys.hashed_with.Goals as goal

pub returns-clause-added : goal.returns-clause-added
returns-clause-added c =
    let moved = c.in_ok-all.all.keys in
    rw (c.in_ok-new.ensures.ok, c.in_ok-insert.ensures.keys)
    (Adds-moved c.args.keys.now moved _ (c.args.key ∷ []) c.in_ok-all.ensures
    (Adds-insert same_key same_key_equiv same_key_exact moved c.args.key))
