use Rattle.path_eval.specs.declared.direction.Direction.TheVariants.{Forward}
use Rattle.path_eval.specs.Superclasses.{superclass_route}
use Rattle.path_eval.specs.Values.{nodes_reached, path_reads}
use Rattle.path_eval.proofs.JoinLemmas.{notes-take_list}
use Rattle.path_eval.proofs.SuperclassLemmas.{any_more}
use Rattle.path_eval.proofs.superclasses.Superclasses.is_of_any.Goals as goal

pub loop-kind-preserved : goal.loop-kind-preserved
loop-kind-preserved g c =
    let graph = g.V.GraphView.graph c.args.view.now in
    let types = c.args.types.now in
    let at = c.loop-kind.kind-index in
    record {
      known = c.is_wider.ensures.known;
      is = any_more c.args.class (nodes_reached graph Forward superclass_route) types at _
          c.loop-kind-test.true c.loop-kind.is c.in_ok-wider.wider c.loop-kind.invariant.is
          c.in_ok-wider.ensures.is;
      reads = notes-take_list g.met.N.Notes.laws (path_reads graph Forward superclass_route) types at _
          c.loop-kind-test.true c.loop-kind.invariant.reads c.in_ok-wider.ensures.reads;
    }
