use Rattle.std.specs.List.{list_any}
use Rattle.std.proofs.Common.{sym, ap, ◌∙◌}
use Rattle.comp_core.specs.Pairs.{same_pair, same_pair_equiv}
use Rattle.record_rows.proofs.OnceLemmas.{once_with}
use Rattle.record_rows.proofs.tests.recall.add_answer.Goals as goal

pub returns : goal.returns
returns c =
    rw c.in_ok-push.ensures.items
    (once_with same_pair same_pair_equiv c.args.all.now.items _ c.requires
    (sym (c.is_among.ensures
    ∙ ap (list_any (λ e. same_pair c.in_ok-pair.pair e.0)) c.deref.ensures.value)
    ∙ c.if-is_among.false))
