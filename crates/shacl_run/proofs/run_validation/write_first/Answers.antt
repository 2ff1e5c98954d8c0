use Rattle.std.proofs.Common.{◌∙◌, rules}
use Rattle.std.proofs.lemmas.List.{length-map}
use Rattle.text_output.specs.inner.AddedLaws.{Added-then}
use Rattle.text_output.proofs.WriterLemmas.{Writes-finished}
use Rattle.shacl_run.proofs.run_validation.write_first.Goals as goal

pub returns : goal.returns
returns g c =
    let (items, drains, rows) = c.add_rows.ensures in
    let long = length-map items (λ row. row.now) ∙ c.requires.counted items drains in
    let report = Added-then (Added-then c.add_head.ensures rows) c.add_tail.ensures in
    let (same, written) =
    Writes-finished _ _ c.finish.result c.new-writer.ensures (Added-then c.add_notice.ensures report)
    c.finish.ensures in
    (items, drains, rw long (search rules))
