use Rattle.pair_slice.proofs.slice.touching.Goals as goal

pub returns-in_ok-objects-in-Out : goal.returns-in_ok-objects-in-Out
returns-in_ok-objects-in-Out g c =
    rw (c.in-Out.is, ← c.in_ok-objects-in-Out.ensures.objects, ← c.deref.ensures.value) c.with_objects.ensures

pub returns-in_ok-subjects-in-In : goal.returns-in_ok-subjects-in-In
returns-in_ok-subjects-in-In g c =
    rw (c.in-In.is, ← c.in_ok-subjects-in-In.ensures.subjects, ← c.deref-in-In.ensures.value)
    c.with_subjects.ensures
