use Rattle.shape_eval.proofs.PlaceLemmas.{next_node}
use Rattle.shape_eval.proofs.planning.places_of.Goals as goal

pub loop-shape-preserved : goal.loop-shape-preserved
loop-shape-preserved c =
    next_node c.args.shapes.now c.requires c.loop-shape.shape-index c.shape-item.result c.loop-shape-test.true
    c.shape-item.is c.loop-shape.places.keys c.insert.new.self.keys c.loop-shape.invariant
    c.in_ok-insert.ensures.keys
