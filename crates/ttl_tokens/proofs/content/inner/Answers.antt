use Rattle.std.proofs.Common.{arith}
use Rattle.ttl_tokens.proofs.MarkLemmas.{bytes_length, begin_boundary, end_boundary, between_chars}
use Rattle.ttl_tokens.proofs.content.inner.Goals as goal

pub overflow_sub-piece : goal.overflow_sub-piece
overflow_sub-piece c = omega (arith, bytes_length c.args.marks c.args.piece.now c.utf8.piece c.requires)

pub range-requires-clause-start_le_end : goal.range-requires-clause-start_le_end
range-requires-clause-start_le_end c =
    omega (arith, bytes_length c.args.marks c.args.piece.now c.utf8.piece c.requires)

pub range-requires-clause-start_boundary : goal.range-requires-clause-start_boundary
range-requires-clause-start_boundary c = begin_boundary _ _ c.utf8.piece c.requires

pub range-requires-clause-end_boundary : goal.range-requires-clause-end_boundary
range-requires-clause-end_boundary c = end_boundary _ _ c.utf8.piece c.requires

pub returns : goal.returns
returns c = between_chars _ _ c.utf8.piece c.requires _ c.range.utf8 c.range.ensures.value
