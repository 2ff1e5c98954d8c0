use Rattle.std.proofs.Common.{rules}
use Rattle.text_output.proofs.WriterLemmas.{Writes-finished}
use Rattle.text_output.proofs.term.write_term.Goals as goal

pub returns : goal.returns
returns g c =
    let (same, written) =
    Writes-finished _ _ c.finish.result c.new-writer.ensures c.write_term.ensures c.finish.ensures in
    search rules
