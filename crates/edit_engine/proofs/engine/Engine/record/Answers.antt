use Rattle.edit_engine.proofs.RecordLemmas.{record_pair, record_reads}
use Rattle.edit_engine.proofs.engine.Engine.record.Goals as goal

pub returns-clause-reads : goal.returns-clause-reads
returns-clause-reads g c =
    record_reads _ c.args.self.now c.self.view_is c.self.inside.kept.records c.self.invariant.1.records
    c.args.pair.now c.reads_of.result c.reads_of.ensures

pub returns-clause-pair : goal.returns-clause-pair
returns-clause-pair g c =
    record_pair _ c.args.self.now c.self.view_is c.self.inside.kept.records c.self.invariant.1.records
    c.args.pair.now c.reads_of.result c.reads_of.ensures
