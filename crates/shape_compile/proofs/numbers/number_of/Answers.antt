use Rattle.std.proofs.Common.{sym, ◌∙◌}
use Rattle.shape_compile.proofs.NumberLemmas.{node_of_found, none_not_found}
use Rattle.shape_compile.proofs.numbers.number_of.Goals as goal

pub unreachable-requires : goal.unreachable-requires
unreachable-requires c =
    none_not_found c.args.order.now.nodes.keys c.args.node c.requires (sym c.number.ensures ∙ c.in-None.is)

pub returns : goal.returns
returns c =
    node_of_found c.args.order.now.nodes.keys c.args.node c.in-Some.number
    (sym c.number.ensures ∙ c.in-Some.is)
