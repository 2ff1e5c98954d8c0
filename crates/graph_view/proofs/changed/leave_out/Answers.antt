use Rattle.std.proofs.Common.{sym, rules}
use Rattle.std.specs.Prelude.{not}
use Rattle.std.specs.List.{list_any}
use Rattle.std.proofs.lemmas.Fn.{filter_same}
use Rattle.graph_view.proofs.PatchedLemmas.{without-empty}
use Rattle.graph_view.proofs.changed.leave_out.Goals as goal

pub returns-then-not-is_empty : goal.returns-then-not-is_empty
returns-then-not-is_empty g c =
    let same = g.T.PartialEq.eq in
    filter_same _ (λ x. not (list_any (λ y. same y x) c.args.gone.now)) _ (λ x b f k. search rules)
    c.args.found.now.items c.retain.new.self.items c.retain.ensures.filtered

pub returns-else-not-is_empty : goal.returns-else-not-is_empty
returns-else-not-is_empty g c =
    without-empty g.T.PartialEq.eq c.args.found.now.items c.args.gone.now (sym c.if-not-is_empty.ensures)
