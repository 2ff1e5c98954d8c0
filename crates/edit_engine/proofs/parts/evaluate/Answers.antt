use Rattle.edit_engine.proofs.BringsLemmas.{BringsNested-one}
use Rattle.edit_engine.proofs.parts.evaluate.Goals as goal

pub returns-clause-right : goal.returns-clause-right
returns-clause-right g c = record {
  rows = c.in_ok-answer.ensures.rows;
  reads = c.in_ok-answer.ensures.reads;
}

pub returns-clause-nested : goal.returns-clause-nested
returns-clause-nested g c =
    let found = c.in_ok-answer.ensures in
    BringsNested-one c.args.pair found.recall found.nested found.brings
