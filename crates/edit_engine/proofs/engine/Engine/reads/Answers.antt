use Rattle.shape_eval.specs.Planned.{plan_of}
use Rattle.edit_engine.proofs.ReachedLemmas.{ReadLaws-asked}
use Rattle.edit_engine.proofs.RecordLemmas.{all_reads}
use Rattle.edit_engine.proofs.engine.Engine.reads.Goals as goal

pub returns-in_ok-all_read-in-Some-clause-reads : goal.returns-in_ok-all_read-in-Some-clause-reads
returns-in_ok-all_read-in-Some-clause-reads g c =
    let own = c.reads_are_own_or_below.ensures in
    let nested = c.nested_pairs_stand_below.ensures in
    let laws = ReadLaws-asked own.parts own.answers nested.below nested.lower (plan_of c.self.inside.plan)
    (g.V.GraphView.graph c.self.inside.view) c.self.invariant.0 in
    all_reads _ c.args.self.now c.self.view_is c.self.inside.kept c.self.invariant.1 laws c.args.pair.now
    c.in-Some.ensures.pair c.in-Some.own.now c.in_ok-all_read-in-Some.field-0 c.in-Some.ensures.reads
    c.in_ok-all_read-in-Some.ensures
