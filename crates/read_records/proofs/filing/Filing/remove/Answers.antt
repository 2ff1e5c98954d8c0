use Rattle.std.proofs.Common.{ap, ◌∙◌}
use Rattle.read_records.specs.inner.Postings.{whom}
use Rattle.read_records.proofs.FiledLemmas.{AreTargets-left, IsLeft-pair, IsLeft-target}
use Rattle.read_records.proofs.filing.Filing.remove.Goals as goal

pub invariant_of-self : goal.invariant_of-self
invariant_of-self c = AreTargets-left c.remove.ensures c.self.invariant

pub returns-in-OfTarget : goal.returns-in-OfTarget
returns-in-OfTarget c =
    rw (← c.self.view_is, c.in-OfTarget.is)
    (IsLeft-target c.self.inside.targets c.self.inside.pairs c.args.key c.in-OfTarget.field-0
    (c.whom_of.ensures ∙ ap whom c.in-OfTarget.is) c.remove.ensures)

pub returns-in-OfPair : goal.returns-in-OfPair
returns-in-OfPair c =
    rw (← c.self.view_is, c.in-OfPair.is)
    (IsLeft-pair c.self.inside.targets c.self.inside.pairs c.args.key c.in-OfPair.field-0
    (c.whom_of-in-OfPair.ensures ∙ ap whom c.in-OfPair.is) c.remove-in-OfPair.ensures)
