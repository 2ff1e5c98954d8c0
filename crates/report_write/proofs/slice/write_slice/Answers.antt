use Rattle.std.proofs.Common.{rules}
use Rattle.text_output.proofs.WriterLemmas.{Writes-finished}
use Rattle.report_write.proofs.slice.write_slice.Goals as goal

pub returns : goal.returns
returns g c =
    let (same, written) =
    Writes-finished _ _ c.finish.result c.new-writer.ensures c.add_answers.ensures c.finish.ensures in
    search rules
