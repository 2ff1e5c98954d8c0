use Rattle.std.specs.Prelude.{nat_eq, get_or, position}
use Rattle.std.proofs.lemmas.List.{get_or_default}
use Rattle.shape_eval.specs.Plan.{if_any}
use Rattle.shape_eval.proofs.ItemLemmas.{flat_map-take_item}
use Rattle.shape_eval.proofs.planning.find_numbers.Goals as goal

pub loop-node-preserved : goal.loop-node-preserved
loop-node-preserved c =
    let nodes = c.args.nodes.now in
    let i = c.loop-node.node-index in
    let node = get_or nodes i 0 in
    let inside = c.loop-node-test.true in
    flat_map-take_item (λ n. if_any (position (nat_eq n) c.args.places.now.keys)) nodes i node inside
    (get_or_default nodes i 0 node inside) c.loop-node.found.items c.add_number.new.found.items
    c.loop-node.invariant c.in_ok-add_number.ensures
