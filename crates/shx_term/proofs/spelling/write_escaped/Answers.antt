use Rattle.std.proofs.Common.{◌∙◌, sym}
use Rattle.shx_term.proofs.EscapedLemmas.{found_byte, slice-behind, escaped-step, escaped-none}
use Rattle.shx_term.proofs.spelling.write_escaped.Goals as goal

pub escape-requires : goal.escape-requires
escape-requires g c =
    rw c.split_at.ensures.back (found_byte c.loop-at.rest.now c.in-Some.at (sym c.in-Some.ensures)).1

pub loop-at-preserved : goal.loop-at-preserved
loop-at-preserved g c =
    let in_turn = g.met.W.Pieces.added_in_turn in
    let so_far = c.loop-at.invariant in
    let run = rw c.split_at.ensures.front at c.write_run.ensures in
    let byte = rw c.escape.ensures at c.add.ensures in (
      _,
      in_turn _ _ _ _ _ so_far.1 (in_turn _ _ _ _ _ run byte),
      escaped-step c.loop-at.rest.now _ _ so_far.0 _ c.in-Some.at (sym c.in-Some.ensures)
          c.split_at.ensures.back (slice-behind c.split_at.result.1.now) so_far.2,
    )

pub returns : goal.returns
returns g c =
    let so_far = c.loop-at.invariant in
    rw (← so_far.2, escaped-none c.loop-at.rest.now (sym c.first_escaped.ensures ∙ c.in_default.is))
    (g.met.W.Pieces.added_in_turn _ _ _ _ _ so_far.1 c.write_run-2.ensures)
