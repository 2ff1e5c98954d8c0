use Rattle.std.specs.Prelude.{Contains}
use Rattle.shx_term.specs.declared.vocabulary.TheConstants.{SH_QUALIFIED_VALUE_SHAPE}
use Rattle.shape_decl.specs.Declarations.{told_decl, values_under}
use Rattle.shape_compile.proofs.NamedLemmas.{All_value}
use Rattle.shape_compile.proofs.of_count.add_at_shapes.Goals as goal

pub number_of-requires : goal.number_of-requires
number_of-requires c =
    All_value (Contains c.args.order.now.nodes.keys)
    (values_under (told_decl c.args.decl.now) SH_QUALIFIED_VALUE_SHAPE) c.values_of-shape-items.result.now
    c.values_of-shape-items.ensures c.requires.shapes c.loop-shape.shape-index c.loop-shape-test.true
