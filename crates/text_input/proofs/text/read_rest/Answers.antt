use Rattle.std.proofs.Common.{◌≡◌, ◌++◌, take, rules, arith}
use Rattle.std.proofs.lemmas.List.{take-append-le}
use Rattle.text_input.proofs.RestLemmas.{stays_opened, HasRead-start, HasRead-on, IsRestRead-failed}
use Rattle.text_input.proofs.RestLemmas.{IsRestRead-whole, IsRestRead-memory, IsRestRead-longer}
use Rattle.text_input.proofs.text.read_rest.Goals as goal

pub loop-count-init : goal.loop-count-init
loop-count-init g c = let I = g.I.Inputs in
    HasRead-start c.args.role c.args.most (I.state c.args.host.now) (I.admits c.args.host.now)
    c.args.text.now.items c.requires.opened c.requires.unread

pub returns-in_err-count : goal.returns-in_err-count
returns-in_err-count g c =
    let read = c.read.ensures in
    let stays = stays_opened read.opened read.opens read.whole read.others read.admitted read.texts in
    IsRestRead-failed c.loop-count.text.items c.loop-count.invariant stays c.from_residual.result
    c.in_err-count.ensures.failed c.in_err-count.ensures.cause.failed c.from_residual.ensures.1

pub returns-then-count-eq0 : goal.returns-then-count-eq0
returns-then-count-eq0 g c =
    let read = c.read.ensures in
    let stays = stays_opened read.opened read.opens read.whole read.others read.admitted read.texts in
    let count = c.in_ok-count.ensures in
    IsRestRead-whole c.loop-count.text.items c.loop-count.invariant stays _ count.took count.cause.quiet tt
    (search rules) (count.end c.if-count-eq0.true)

pub returns-in_err-extend_from_slice : goal.returns-in_err-extend_from_slice
returns-in_err-extend_from_slice g c =
    let read = c.read.ensures in
    let stays = stays_opened read.opened read.opens read.whole read.others read.admitted read.texts in
    let count = c.in_ok-count.ensures in
    IsRestRead-memory c.loop-count.text.items c.loop-count.invariant stays _ count.took count.cause.quiet
    c.extend_from_slice.new.self.items c.from_residual-in_err-extend_from_slice.result (search rules)
    c.from_residual-in_err-extend_from_slice.ensures.1

pub returns-then-len-most : goal.returns-then-len-most
returns-then-len-most g c =
    let read = c.read.ensures in
    let stays = stays_opened read.opened read.opens read.whole read.others read.admitted read.texts in
    let count = c.in_ok-count.ensures in
    let text = c.extend_from_slice.new.self.items in
    let all : text ≡ c.loop-count.text.items ++ take c.in_ok-count.count c.read.new.room =
    grind (arith, take-append-le) in
    IsRestRead-longer c.loop-count.text.items c.loop-count.invariant stays _ count.took count.cause.quiet
    text all (search rules) (search rules)

pub loop-count-preserved : goal.loop-count-preserved
loop-count-preserved g c =
    let read = c.read.ensures in
    let stays = stays_opened read.opened read.opens read.whole read.others read.admitted read.texts in
    let count = c.in_ok-count.ensures in
    let text = c.extend_from_slice.new.self.items in
    let all : text ≡ c.loop-count.text.items ++ take c.in_ok-count.count c.read.new.room =
    grind (arith, take-append-le) in
    HasRead-on c.loop-count.text.items c.loop-count.invariant stays _ count.took count.cause.quiet
    text all (search rules)
