use Rattle.std.proofs.Common.{◌<◌, length, arith}
use Rattle.std.proofs.lemmas.Str.{IsCharBoundary-after_ascii}
use Rattle.ttl_tokens.proofs.FirstByteLemmas.{cut_here, lacks_byte}
use Rattle.ttl_tokens.proofs.cut.cut_at.Goals as goal

pub range_from-requires : goal.range_from-requires
range_from-requires c = λ _.
    let bytes = c.as_bytes-b-items.ensures in
    let here = rw bytes.value at c.if-b-byte.true in
    IsCharBoundary-after_ascii c.args.text.now c.loop-at.at c.utf8.text
    (omega (arith, bytes.len, c.loop-at-test.true)) (omega (arith, here, c.requires))

pub returns-then-b-byte : goal.returns-then-b-byte
returns-then-b-byte c =
    let bytes = c.as_bytes-b-items.ensures in
    let inside : c.loop-at.at < length c.args.text.now = omega (arith, bytes.len, c.loop-at-test.true) in
    cut_here _ _ _ _ _ inside (rw bytes.value at c.if-b-byte.true) c.loop-at.invariant
    c.range.ensures.value c.range_from.ensures.value

pub returns : goal.returns
returns c =
    lacks_byte _ _ _ (rw c.as_bytes-b-items.ensures.value at c.loop-at-test.false) c.loop-at.invariant
