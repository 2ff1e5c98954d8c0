use Rattle.std.proofs.Common.{◌∙◌, sym, rules}
use Rattle.text_input.proofs.LinePartLemmas.{part-cut, part-inner, part-last}
use Rattle.text_input.proofs.script_reader.ScriptReader.take_part.Goals as goal

pub returns-then-count-pending_len-clause-part : goal.returns-then-count-pending_len-clause-part
returns-then-count-pending_len-clause-part c =
    part-cut c.args.self.now c.args.self.now c.within-within.result.now c.args.most c.within-within.ensures
    (sym c.first_feed.ensures ∙ c.in-None.is) (search rules)

pub returns-in_ok-keep-in-Some-clause-part : goal.returns-in_ok-keep-in-Some-clause-part
returns-in_ok-keep-in-Some-clause-part c =
    let found = sym c.first_feed.ensures ∙ c.in-Some.is in
    part-last c.args.self.now c.skip.new.self c.within-within.result.now c.args.most c.within-within.ensures
    c.args.line.now.items c.keep.new.line.items c.in-Some.place found
    c.in_ok-keep-in-Some.ensures c.skip.ensures.pending c.skip.ensures.budget

pub returns-in_ok-keep-in-None-clause-part : goal.returns-in_ok-keep-in-None-clause-part
returns-in_ok-keep-in-None-clause-part c =
    let none = sym c.first_feed.ensures ∙ c.in-None.is in
    let skip = c.skip-in-None in
    part-inner c.args.self.now skip.new.self c.within-within.result.now c.args.most c.within-within.ensures
    c.args.line.now.items c.keep-in-None.new.line.items none c.requires.some (search rules)
    c.in_ok-keep-in-None.ensures skip.ensures.pending skip.ensures.budget
