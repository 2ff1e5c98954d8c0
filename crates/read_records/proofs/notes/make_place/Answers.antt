use Rattle.read_records.proofs.StoreLemmas.{MakesPlace, MakesPlace-new}
use Rattle.read_records.proofs.notes.make_place.Given.{Over}
use Rattle.read_records.proofs.notes.make_place.Goals as goal

-- the reader has an entry now
entered : (g : Over) (c : goal.Joined-branch-2 g)
    → MakesPlace c.args.notes.now.entries c.insert.new.self.entries c.args.reader
entered g c =
    MakesPlace-new c.args.reader c.args.notes.now c.insert.new.self c.if-not-contains_key.ensures
    c.in_ok-insert.ensures.updates

pub returns-in_ok-insert-clause-reads : goal.returns-in_ok-insert-clause-reads
returns-in_ok-insert-clause-reads g c = (entered g c).reads

pub returns-in_ok-insert-clause-entries : goal.returns-in_ok-insert-clause-entries
returns-in_ok-insert-clause-entries g c = (entered g c).entries

pub returns-in_ok-insert-clause-vacant : goal.returns-in_ok-insert-clause-vacant
returns-in_ok-insert-clause-vacant g c = (entered g c).vacant
