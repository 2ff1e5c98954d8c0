use Rattle.edit_engine.proofs.KeptPairLemmas.{remains}
use Rattle.edit_engine.proofs.ReachedLemmas.{ReadLaws}
use Rattle.edit_engine.proofs.laws.changes_leave_what_stays.Goals as goal

pub returns : goal.returns
returns c = λ shapes g h changed first now is.
    let own = c.reads_are_own_or_below.ensures in
    let nested = c.nested_pairs_stand_below.ensures in
    let laws : ReadLaws shapes g = record {
      parts = own.parts;
      answers = own.answers;
      below = nested.below;
      lower = nested.lower;
      refers = is.lower;
      known = is.before;
      plan = is.plan;
    } in
    remains shapes g h changed first now is laws c.results_depend_on_reads.ensures own.depend
    c.nested_pairs_are_read.ensures.depend c.nested_pairs_are_read.ensures.read
