use Rattle.std.specs.Prelude.{◌≡◌, None}
use Rattle.std.proofs.Common.{sym, ◌∙◌, subst}
use Rattle.pair_results.specs.PairResults.{place_of}
use Rattle.pair_results.specs.inner.Invariant.{SameOtherPlaces}
use Rattle.pair_results.proofs.NodeLemmas.{all-inserted, none_of, KeepPlaces-added}
use Rattle.pair_results.proofs.NodeLemmas.{SameOtherPlaces-added, SameRowsIn-added}
use Rattle.pair_results.proofs.nodes.make_place.Goals as goal

-- where a place was added, there was none
absent : (c : goal.Joined-branch-3) → place_of c.args.nodes.now.entries c.in_ok-copy.field-0 ≡ None
absent c =
    subst (λ node. place_of c.args.nodes.now.entries node ≡ None) (sym c.in_ok-copy.ensures)
    (none_of (place_of c.args.nodes.now.entries c.args.node.now)
    (sym c.contains_key.ensures ∙ c.if-contains_key.false))

pub returns-clause-rows : goal.returns-clause-rows
returns-clause-rows c =
    SameRowsIn-added _ _ _ _ (c.new-rows.ensures ∙ c.new.ensures.items) (absent c)
    c.in_ok-insert.ensures.updates.0

pub returns-clause-places : goal.returns-clause-places
returns-clause-places c =
    KeepPlaces-added _ _ _ _ (c.new-rows.ensures ∙ c.new.ensures.items) (absent c)
    c.in_ok-insert.ensures.updates.0

pub returns-clause-others : goal.returns-clause-others
returns-clause-others c =
    subst (λ node. SameOtherPlaces node c.args.nodes.now.entries c.insert.new.self.entries)
    c.in_ok-copy.ensures (SameOtherPlaces-added _ _ _ _ (c.new-rows.ensures ∙ c.new.ensures.items) (absent c)
    c.in_ok-insert.ensures.updates.0)

pub returns-clause-all : goal.returns-clause-all
returns-clause-all c =
    rw (c.in_ok-insert.ensures.entries, c.new-rows.ensures, c.new.ensures.items)
    (all-inserted c.in_ok-copy.field-0 c.args.nodes.now.entries (absent c))
