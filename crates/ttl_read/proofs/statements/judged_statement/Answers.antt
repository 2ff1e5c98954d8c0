use Rattle.std.proofs.Common.{rules}
use Rattle.ttl_read.specs.Documents.{setting}
use Rattle.ttl_read.proofs.SoundLemmas.{sound_where_judged, deep_where, nowhere_where}
use Rattle.ttl_read.proofs.statements.judged_statement.Goals as goal

pub returns-in-Ok-clause-sound : goal.returns-in-Ok-clause-sound
returns-in-Ok-clause-sound c = λ before.
    sound_where_judged (setting c.args.text.now c.args.limits.now before) _ _ _ _ _ _ c.utf8.text
    c.in-Ok.ensures.parses c.start.ensures c.judge.ensures

pub returns-in-Some-clause-sound : goal.returns-in-Some-clause-sound
returns-in-Some-clause-sound c = λ before s reads.
    deep_where (setting c.args.text.now c.args.limits.now before) c.args.reader.now s _ c.in-Some.at
    c.utf8.text (rw c.in-Some.is at c.too_deep.ensures)

pub returns-in-None-clause-sound : goal.returns-in-None-clause-sound
returns-in-None-clause-sound c = λ before s reads.
    nowhere_where (setting c.args.text.now c.args.limits.now before) c.args.reader.now c.args.pool.now s _
    c.utf8.text c.in-None.ensures (search rules) reads c.start-in-None.ensures
