use Rattle.std.proofs.Common.{sym, ◌∙◌, rules}
use Rattle.read_records.proofs.PairLemmas.{AreFound-none, AreFound-skip, Lists-found}
use Rattle.read_records.proofs.PairLemmas.{none_in_target, none_where_none}
use Rattle.read_records.proofs.store.Store.pairs.Goals.{in_default-via-in-OfTarget-1}
use Rattle.read_records.proofs.store.Store.pairs.Goals.{in_default-via-in-OfPair+else-is_some}
use Rattle.read_records.proofs.store.Store.pairs.Goals as goal

pub loop-reader-init : goal.loop-reader-init
loop-reader-init g c =
    rw (← c.self.view_is, c.new-pairs.ensures.items, c.into_iter-reader-iterator.ensures.into_iter_gives.0)
    AreFound-none

pub loop-reader-preserved : goal.loop-reader-preserved
loop-reader-preserved g c =
    AreFound-skip c.in-Some.ensures.steps c.loop-reader.invariant
    (elim c.in_default.branch [
      | in_default-via-in-OfTarget-1 w ↦
          search (rules, none_in_target c.in-Some.reader.now c.in-Some.noted.now)
      | in_default-via-in-OfPair+else-is_some w ↦
          none_where_none c.in-Some.reader.now c.in-Some.noted.now
          (sym w.is_some.ensures ∙ w.if-is_some.false)
    ])

pub returns : goal.returns
returns g c =
    Lists-found (rw (← c.self.view_is) c.into_iter-reader-iterator.ensures.into_iter_gives.5)
    c.loop-reader.invariant c.in-None.ensures.steps.0
