use Rattle.std.specs.Prelude.{◌++◌, map}
use Rattle.std.proofs.Common.{ap, ◌∙◌, take_all}
use Rattle.std.proofs.lemmas.Result.{IfOk-weaker}
use Rattle.comp_core.specs.Pairs.{answer_key}
use Rattle.read_records.proofs.ReachedLemmas.{Lists-reached}
use Rattle.read_records.proofs.records.Records.touched_by_change.Goals as goal

pub returns : goal.returns
returns c =
    let own = c.in_ok-keys.keys.items in
    let answers = c.args.answers.now in
    let all = take_all c.loop-pair.pair-index answers c.loop-pair-test.false in
    rw (← c.self.view_is)
    (IfOk-weaker c.readers_of.result _ _
    (λ found. Lists-reached c.self.inside.store (c.args.added.now ++ c.args.removed.now) answers own
    c.deref.result.now found.items c.in_ok-keys.ensures
    (c.deref.ensures.value ∙ c.loop-pair.invariant ∙ ap (λ ps. own ++ map answer_key ps) all))
    c.readers_of.ensures)
