use Rattle.std.proofs.Common.{sym, ap, ◌∙◌}
use Rattle.shape_order.proofs.ReferenceLemmas.{refs_at}
use Rattle.shape_order.proofs.references.shapes_of.Goals as goal

pub returns : goal.returns
returns c = c.deref.ensures.value ∙ ap (λ v. v.items) c.index-refs-shape.is
    ∙ sym (refs_at c.args.refs.now c.args.shape c.index-refs-shape.result c.requires)
