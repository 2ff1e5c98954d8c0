use Rattle.std.specs.Prelude.{◌<◌, length}
use Rattle.std.specs.List.{AllWithin}
use Rattle.due_view.proofs.valid.are_known.Given as goal

abbrev pub invariant-loop-id : goal.invariant-loop-id
invariant-loop-id g l =
    AllWithin (λ id. id < length (g.V.GraphView.graph l.view).terms) l.ids 0 l.id-index
