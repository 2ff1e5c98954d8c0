use Rattle.std.specs.List.{list_any}
use Rattle.std.proofs.Common.{sym, ap, ◌∙◌}
use Rattle.read_records.specs.Reader.{same_reader}
use Rattle.read_records.specs.inner.ReaderLaws.{same_reader_equiv}
use Rattle.record_rows.proofs.OnceLemmas.{once_with}
use Rattle.record_rows.proofs.tests.steps.add_entry.Goals as goal

pub returns : goal.returns
returns c =
    rw c.in_ok-push.ensures.items
    (once_with same_reader same_reader_equiv c.args.all.now.items _ c.requires
    (sym (c.is_among.ensures
    ∙ ap (list_any (λ e. same_reader c.in_ok-reader.reader e.0)) c.deref.ensures.value)
    ∙ c.if-is_among.false))
