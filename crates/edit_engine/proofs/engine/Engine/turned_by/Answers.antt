use Rattle.std.proofs.Common.{ap, sym, ◌∙◌}
use Rattle.std.proofs.lemmas.List.{at_drop_all}
use Rattle.edit_engine.specs.inner.Turned.{places_after, places_in}
use Rattle.edit_engine.proofs.NettingLemmas.{left_places, none_kept}
use Rattle.edit_engine.proofs.engine.Engine.turned_by.Goals as goal

pub loop-at-init : goal.loop-at-init
loop-at-init g c =
    ap (λ places. places_after c.args.self.now.graph 0 places c.args.edits.now)
    (none_kept c.with_hasher-turned.result c.with_hasher-turned.ensures.empty)

pub loop-at-preserved : goal.loop-at-preserved
loop-at-preserved g c =
    left_places c.args.self.now.graph c.args.edits.now c.loop-at.at c.index-edits-at.result
    (places_in c.loop-at.turned) (places_in c.turn.new.turned) c.loop-at-test.true c.index-edits-at.is
    c.in_ok-turn.ensures
    ∙ c.loop-at.invariant

pub returns : goal.returns
returns g c =
    sym (at_drop_all (places_after c.args.self.now.graph c.loop-at.at (places_in c.loop-at.turned))
    c.args.edits.now c.loop-at.at c.loop-at-test.false)
    ∙ c.loop-at.invariant
