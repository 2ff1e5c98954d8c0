use Rattle.std.proofs.Common.{◌≡◌, ◌∙◌, false, rules, tests}
use Rattle.std.specs.Slice.Iter.{split_rest, split_done, split_callee}
use Rattle.std.proofs.lemmas.Iterator.Consumers.{YieldsList-end}
use Rattle.std.proofs.lemmas.Iterator.Splits.{YieldsList-from_slice_split}
use Rattle.text_input.specs.Lines.{is_line_feed}
use Rattle.shacl_drill.proofs.TallyLemmas.{told-next, told_of_lines}
use Rattle.shacl_drill.proofs.tally.Tally.of.Goals as goal

pub loop-line-preserved : goal.loop-line-preserved
loop-line-preserved c =
    told-next c.loop-line.yielded c.in-Some.line c.loop-line.tally c.add.new.self c.loop-line.invariant
    c.in_ok-add.ensures

pub returns : goal.returns
returns c =
    let gives = c.into_iter-line-iterator.ensures.into_iter_gives in
    let items = c.split-line-items.ensures in
    let rest : split_rest c.into_iter-line-iterator.result ≡ c.args.output.now = cc (gives, items.rest) in
    let done : split_done c.into_iter-line-iterator.result ≡ false = cc (gives, items.done) in
    let callee : split_callee c.into_iter-line-iterator.result ≡ split_callee c.split-line-items.result =
    cc (gives) in
    let whole = YieldsList-end (YieldsList-from_slice_split _ is_line_feed c.args.output.now rest done
    (callee ∙ items.closure) (λ x b q k. search (rules, tests))) c.loop-line.yielded _
    c.loop-line.yielded_by _ _ c.in-None.is c.next.ensures.steps in
    c.loop-line.invariant ∙ told_of_lines c.args.output.now _ whole.0
