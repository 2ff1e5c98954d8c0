use Rattle.std.specs.Prelude.{◌≡◌, []}
use Rattle.std.proofs.Common.{sym, ◌∙◌}
use Rattle.pair_results.specs.PairResults.{rows_in}
use Rattle.pair_results.proofs.NodeLemmas.{all-removed, empty_of, IsFilled-held, IsFilled-removed}
use Rattle.pair_results.proofs.NodeLemmas.{SameOtherPlaces-removed, SameRowsIn-removed}
use Rattle.pair_results.proofs.nodes.vacate.Goals as goal

-- what is taken out has no results
empty : (c : goal.Joined-remove) → rows_in c.args.nodes.now.entries c.args.node.now ≡ []
empty c = sym c.rows_in.ensures
    ∙ empty_of c.rows_in.result.now (sym c.is_empty-is_vacant.ensures ∙ c.if-is_vacant.true)

pub returns-then-is_vacant-clause-rows : goal.returns-then-is_vacant-clause-rows
returns-then-is_vacant-clause-rows c = SameRowsIn-removed _ _ _ c.remove.ensures.updates.0 (empty c)

pub returns-then-is_vacant-clause-others : goal.returns-then-is_vacant-clause-others
returns-then-is_vacant-clause-others c = SameOtherPlaces-removed _ _ _ c.remove.ensures.updates.0

pub returns-then-is_vacant-clause-filled : goal.returns-then-is_vacant-clause-filled
returns-then-is_vacant-clause-filled c = IsFilled-removed _ _ _ c.remove.ensures.updates.0

pub returns-else-is_vacant-clause-filled : goal.returns-else-is_vacant-clause-filled
returns-else-is_vacant-clause-filled c =
    IsFilled-held c.args.nodes.now.entries c.args.node.now
    (rw (← c.rows_in.ensures) (sym c.is_empty-is_vacant.ensures ∙ c.if-is_vacant.false))

pub returns-then-is_vacant-clause-all : goal.returns-then-is_vacant-clause-all
returns-then-is_vacant-clause-all c =
    rw c.remove.ensures.entries (all-removed _ c.args.nodes.now.entries (empty c))
