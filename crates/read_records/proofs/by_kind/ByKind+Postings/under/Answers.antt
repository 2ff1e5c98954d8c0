use Rattle.read_records.proofs.by_kind.ByKind+Postings.under.Goals as goal

pub returns-in-Out : goal.returns-in-Out
returns-in-Out c = rw (← c.place_of-place.ensures, c.in-Out.is) c.under.ensures

pub returns-in-In : goal.returns-in-In
returns-in-In c = rw (← c.place_of-place.ensures, c.in-In.is) c.under-in-In.ensures

pub returns-in-Subject : goal.returns-in-Subject
returns-in-Subject c = rw (← c.place_of-place.ensures, c.in-Subject.is) c.under-in-Subject.ensures

pub returns-in-Predicate : goal.returns-in-Predicate
returns-in-Predicate c = rw (← c.place_of-place.ensures, c.in-Predicate.is) c.under-in-Predicate.ensures

pub returns-in-Answer : goal.returns-in-Answer
returns-in-Answer c = rw (← c.place_of-place.ensures, c.in-Answer.is) c.under-in-Answer.ensures
