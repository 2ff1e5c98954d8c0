use Rattle.std.specs.Prelude.{Contains}
use Rattle.std.proofs.Common.{arith}
use Rattle.shape_decl.specs.Declarations.{told_decl}
use Rattle.shape_compile.proofs.NamedLemmas.{All_members, All_values}
use Rattle.shape_compile.proofs.constraints.add_shapes.Goals as goal

pub add_of_shape-requires : goal.add_of_shape-requires
add_of_shape-requires c =
    All_values (Contains c.args.order.now.nodes.keys) (told_decl c.args.decl.now) c.requires 0 (omega arith)

pub add_of_shape_list-requires : goal.add_of_shape_list-requires
add_of_shape_list-requires c =
    All_members (Contains c.args.order.now.nodes.keys) (told_decl c.args.decl.now) c.requires 0 (omega arith)

pub add_of_shape_list-requires-2 : goal.add_of_shape_list-requires-2
add_of_shape_list-requires-2 c =
    All_members (Contains c.args.order.now.nodes.keys) (told_decl c.args.decl.now) c.requires 1 (omega arith)

pub add_of_shape_list-requires-3 : goal.add_of_shape_list-requires-3
add_of_shape_list-requires-3 c =
    All_members (Contains c.args.order.now.nodes.keys) (told_decl c.args.decl.now) c.requires 2 (omega arith)

pub add_of_shape-requires-2 : goal.add_of_shape-requires-2
add_of_shape-requires-2 c =
    All_values (Contains c.args.order.now.nodes.keys) (told_decl c.args.decl.now) c.requires 1 (omega arith)

pub add_of_shape-requires-3 : goal.add_of_shape-requires-3
add_of_shape-requires-3 c =
    All_values (Contains c.args.order.now.nodes.keys) (told_decl c.args.decl.now) c.requires 2 (omega arith)
