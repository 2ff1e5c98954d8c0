use Rattle.std.proofs.Common.{ap, ◌∙◌}
use Rattle.std.proofs.lemmas.Result.{on_ok_weaker}
use Rattle.read_records.specs.inner.Postings.{whom}
use Rattle.read_records.proofs.FiledLemmas.{AddsOne-pair, AddsOne-target, AreTargets-tried}
use Rattle.read_records.proofs.filing.Filing.insert.Goals as goal

pub invariant_of-self : goal.invariant_of-self
invariant_of-self c =
    AreTargets-tried c.insert.result c.args.key c.in-OfTarget.field-0
    (c.whom_of.ensures ∙ ap whom c.in-OfTarget.is) c.insert.ensures.added c.insert.ensures.refused
    c.self.invariant

pub returns-in-OfTarget-clause-added : goal.returns-in-OfTarget-clause-added
returns-in-OfTarget-clause-added c =
    rw (← c.self.view_is, c.in-OfTarget.is)
    (on_ok_weaker c.insert.result (AddsOne-target c.self.inside.targets c.self.inside.pairs c.args.key
    c.in-OfTarget.field-0 (c.whom_of.ensures ∙ ap whom c.in-OfTarget.is)) c.insert.ensures.added)

pub returns-in-OfPair-clause-added : goal.returns-in-OfPair-clause-added
returns-in-OfPair-clause-added c =
    rw (← c.self.view_is, c.in-OfPair.is)
    (on_ok_weaker c.insert-in-OfPair.result (AddsOne-pair c.self.inside.targets c.self.inside.pairs c.args.key
    c.in-OfPair.field-0 (c.whom_of-in-OfPair.ensures ∙ ap whom c.in-OfPair.is))
    c.insert-in-OfPair.ensures.added)
