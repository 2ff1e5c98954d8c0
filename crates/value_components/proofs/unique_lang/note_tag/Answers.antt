use Rattle.value_components.proofs.TagLemmas.{noted_again, noted_first}
use Rattle.value_components.proofs.unique_lang.note_tag.Goals as goal

pub returns-in_ok-insert-2 : goal.returns-in_ok-insert-2
returns-in_ok-insert-2 c =
    rw c.in-Some.is (noted_again c.in-Some.tag c.args.seen.now.keys c.args.again.now.keys
    c.insert.new.self.keys c.in_ok-insert.field-0 c.in_ok-insert.ensures.added c.in_ok-insert.ensures.keys
    c.insert-then-not-branch.new.self.keys c.if-not-branch.true c.in_ok-insert-2.ensures.keys)

pub returns-else-not-branch : goal.returns-else-not-branch
returns-else-not-branch c =
    rw c.in-Some.is (noted_first c.in-Some.tag c.args.seen.now.keys c.args.again.now.keys
    c.insert.new.self.keys c.in_ok-insert.field-0 c.in_ok-insert.ensures.added c.in_ok-insert.ensures.keys
    c.if-not-branch.false)
