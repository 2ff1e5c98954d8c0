use Rattle.edit_engine.specs.inner.Turned.{places_in}
use Rattle.edit_engine.proofs.NettingLemmas.{left_in, put_in, taken_out}
use Rattle.edit_engine.proofs.engine.Engine.turn.Goals as goal

pub returns-then-not-turns : goal.returns-then-not-turns
returns-then-not-turns g c =
    taken_out c.args.self.now.graph (places_in c.args.turned.now) (places_in c.swap_remove.new.self)
    c.args.at c.args.edit.now c.stated_by-stated.result c.stated_by-stated.ensures c.if-not-turns.ensures
    c.swap_remove.ensures.updates.0

pub returns-in_ok-insert : goal.returns-in_ok-insert
returns-in_ok-insert g c =
    put_in c.args.self.now.graph (places_in c.args.turned.now) (places_in c.insert.new.self)
    c.args.at c.args.edit.now c.stated_by-stated.result c.stated_by-stated.ensures c.if-not-turns.ensures
    c.if-not-contains_key.ensures c.in_ok-insert.ensures.updates.0

pub returns-else-not-contains_key : goal.returns-else-not-contains_key
returns-else-not-contains_key g c =
    left_in c.args.self.now.graph (places_in c.args.turned.now) (places_in c.args.turned.now)
    c.args.at c.args.edit.now c.stated_by-stated.result c.stated_by-stated.ensures c.if-not-turns.ensures
    c.if-not-contains_key.ensures
