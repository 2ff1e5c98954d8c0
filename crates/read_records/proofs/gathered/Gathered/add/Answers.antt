use Rattle.std.proofs.Common.{ap, ◌∙◌}
use Rattle.std.proofs.lemmas.Result.{on_ok_weaker}
use Rattle.read_records.specs.inner.Postings.{whom}
use Rattle.read_records.proofs.FiledLemmas.{AddsOne-pair, AddsOne-target, AreTargets-tried}
use Rattle.read_records.proofs.gathered.Gathered.add.Goals as goal

pub invariant_of-self : goal.invariant_of-self
invariant_of-self c =
    AreTargets-tried c.push.result c.args.key.now c.in-OfTarget.field-0
    (c.whom_of.ensures ∙ ap whom c.in-OfTarget.is) c.push.ensures.added c.push.ensures.refused
    c.self.invariant

pub returns-in-OfTarget : goal.returns-in-OfTarget
returns-in-OfTarget c =
    rw (← c.self.view_is, c.in-OfTarget.is)
    (on_ok_weaker c.push.result (AddsOne-target c.self.inside.targets c.self.inside.pairs c.args.key.now
    c.in-OfTarget.field-0 (c.whom_of.ensures ∙ ap whom c.in-OfTarget.is)) c.push.ensures.added)

pub returns-in-OfPair : goal.returns-in-OfPair
returns-in-OfPair c =
    rw (← c.self.view_is, c.in-OfPair.is)
    (on_ok_weaker c.push-in-OfPair.result
    (AddsOne-pair c.self.inside.targets c.self.inside.pairs c.args.key.now c.in-OfPair.field-0
    (c.whom_of-in-OfPair.ensures ∙ ap whom c.in-OfPair.is)) c.push-in-OfPair.ensures.added)
