use Rattle.std.proofs.Common.{rules, arith}
use Rattle.std.specs.Str.{IsUtf8}
use Rattle.ttl_tokens.proofs.FirstByteLemmas.{is_cut, no_mark}
use Rattle.ttl_tokens.proofs.UndoneLemmas.{cut_shorter, grown_on, pushed_last, written_on, written_all}
use Rattle.ttl_tokens.proofs.meaning.undo_onto.Goals as goal

pub loop-plain-smaller : goal.loop-plain-smaller
loop-plain-smaller c =
    let plain_utf8 : IsUtf8 c.in-Some.plain.now = search rules in
    let escape_utf8 : IsUtf8 c.in-Some.escape.now = search rules in
    let found = c.in-Some.ensures in
    let cut = is_cut 92 (omega arith) _ _ _ c.loop-plain.invariant.0 plain_utf8 escape_utf8 found.0 found.1 in
    rw c.decoded-meant.ensures.behind (cut_shorter cut _)

pub loop-plain-preserved : goal.loop-plain-preserved
loop-plain-preserved c =
    let plain_utf8 : IsUtf8 c.in-Some.plain.now = search rules in
    let escape_utf8 : IsUtf8 c.in-Some.escape.now = search rules in
    let found = c.in-Some.ensures in
    let cut = is_cut 92 (omega arith) _ _ _ c.loop-plain.invariant.0 plain_utf8 escape_utf8 found.0 found.1 in
    let plain = c.in_ok-push_str.ensures.bytes in
    let more = rw (plain, c.decoded-meant.ensures.meant) at c.in_ok-push.ensures.bytes in (
      search rules,
      rw c.decoded-meant.ensures.behind
          (written_on _ _ _ _ _ _ cut plain_utf8 c.loop-plain.invariant.1 more),
      grown_on _ _ _ _ (grown_on _ _ _ _ c.loop-plain.invariant.2 plain) c.in_ok-push.ensures.bytes,
    )

pub returns : goal.returns
returns c =
    let rest_utf8 = c.loop-plain.invariant.0 in
    let none = no_mark 92 (omega arith) _ rest_utf8 c.in_default.ensures in
    let all = written_all _ _ _ rest_utf8 none c.loop-plain.invariant.1 in
    let ends = pushed_last _ _ _ _ _ _ c.loop-plain.invariant.2 all c.push_str-2.ensures.bytes in
    record { ok = ends.0; err = ends.1 }
