use Rattle.std.proofs.Common.{sym, ◌∙◌, subst, inl}
use Rattle.read_records.proofs.GatheredLemmas.{AreGathered-next, AreOfEntries-next, AreOfEntries-none}
use Rattle.read_records.proofs.GatheredLemmas.{AreOfEntries-skip, AreUnder-gathered, HaveRead-gathered}
use Rattle.read_records.proofs.GatheredLemmas.{at_noted, same_noted}
use Rattle.read_records.proofs.ReadingLemmas.{StaysIn-itself}
use Rattle.read_records.specs.inner.Filing.{AddsSome, StandsUnderEach}
use Rattle.read_records.proofs.notes.gathered_from.Goals as goal

pub loop-reader-init : goal.loop-reader-init
loop-reader-init g c =
    rw (c.new-gathered.ensures, c.into_iter-reader-iterator.ensures.into_iter_gives.0) (record {
      gathered = record { each = λ reader noted there. inl there };
      of_entries = AreOfEntries-none;
    })

pub loop-reader-preserved-in-Continue-1 : goal.loop-reader-preserved-in-Continue-1
loop-reader-preserved-in-Continue-1 g c = record {
  gathered = AreGathered-next c.in-Some.reader.now c.in-Some.noted.now c.in-Some.ensures.steps
      c.in_ok-add_all.ensures.stay
      (λ noted is. subst (λ keys. StandsUnderEach c.add_all.new.self keys c.in-Some.reader.now)
      (c.keys.ensures.keys ∙ same_noted (sym c.in-Some-noted.is ∙ is)) c.in_ok-add_all.ensures.added)
      c.loop-reader.invariant.gathered;
  of_entries = AreOfEntries-next c.in-Some.reader.now c.in-Some-noted.noted
      (at_noted c.in-Some.reader.now c.in-Some.ensures.steps c.in-Some-noted.is)
      (subst (λ keys. AddsSome c.loop-reader.gathered c.add_all.new.self keys c.in-Some.reader.now)
      c.keys.ensures.keys c.in_ok-add_all.ensures.only)
      c.loop-reader.invariant.of_entries;
}

pub loop-reader-preserved : goal.loop-reader-preserved
loop-reader-preserved g c = record {
  gathered = AreGathered-next c.in-Some.reader.now c.in-Some.noted.now c.in-Some.ensures.steps StaysIn-itself
      (λ noted is. absurd (c.in_default.not-Some noted is)) c.loop-reader.invariant.gathered;
  of_entries = AreOfEntries-skip c.in-Some.reader.now c.in-Some.noted.now c.in-Some.ensures.steps
      c.loop-reader.invariant.of_entries;
}

pub returns-clause-under : goal.returns-clause-under
returns-clause-under g c =
    AreUnder-gathered c.loop-reader.invariant.gathered c.in-None.ensures.steps.0

pub returns-clause-read : goal.returns-clause-read
returns-clause-read g c =
    HaveRead-gathered c.into_iter-reader-iterator.ensures.into_iter_gives.5
    c.loop-reader.invariant.of_entries
