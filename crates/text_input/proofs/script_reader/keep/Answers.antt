use Rattle.std.proofs.Common.{rules, arith, sym}
use Rattle.text_input.proofs.LinePartLemmas.{kept-front}
use Rattle.text_input.proofs.script_reader.keep.Goals as goal

pub returns-then-room-bytes : goal.returns-then-room-bytes
returns-then-room-bytes c =
    let line = c.args.line.now.items in
    let front = kept-front line c.args.bytes.now c.len-len.result c.args.most (search rules) (omega arith) in
    rw (sym front) (search rules)
