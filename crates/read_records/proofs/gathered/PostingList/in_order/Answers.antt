use Rattle.read_records.proofs.gathered.PostingList.in_order.Goals as goal

pub returns : goal.returns
returns c = rw (← c.self.view_is) c.of_all.ensures
