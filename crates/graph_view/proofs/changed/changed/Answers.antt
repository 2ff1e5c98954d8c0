use Rattle.std.specs.Prelude.{not}
use Rattle.std.specs.List.{list_any}
use Rattle.std.proofs.lemmas.List.Kept.{IsStrictlySortedBy-filter}
use Rattle.graph_view.proofs.changed.changed.Goals as goal

pub merged-requires : goal.merged-requires
merged-requires g c =
    let cmp = g.T.Found.order c.args.pool.now.terms in
    record {
      sorted = rw c.leave_out.ensures
          (IsStrictlySortedBy-filter cmp (λ x. not (list_any (λ y. g.T.PartialEq.eq y x) c.args.gone.now))
          c.args.found.items c.requires.sorted);
    }
