use Rattle.std.specs.Prelude.{Contains}
use Rattle.std.proofs.Common.{ap, ◌∙◌}
use Rattle.shape_decl.specs.Declarations.{told_decl, values_under}
use Rattle.shape_compile.specs.inner.Shapes.{shape_predicate}
use Rattle.shape_compile.proofs.NamedLemmas.{All_value}
use Rattle.shape_compile.proofs.of_shape.add_of_shape.Goals as goal

pub number_of-requires : goal.number_of-requires
number_of-requires c =
    let d = told_decl c.args.decl.now in
    All_value (Contains c.args.order.now.nodes.keys) (values_under d (shape_predicate c.args.parameter))
    c.values_of-value-items.result.now
    (c.values_of-value-items.ensures ∙ ap (values_under d) c.predicate.ensures) c.requires
    c.loop-value.value-index c.loop-value-test.true
