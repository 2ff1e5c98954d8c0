use Rattle.std.proofs.Common.{sym}
use Rattle.std.proofs.lemmas.Result.{on_ok_weaker}
use Rattle.shx_term.proofs.SetLemmas.{Adds-same}
use Rattle.path_eval.specs.declared.direction.Direction.TheVariants.{Forward}
use Rattle.path_eval.specs.Superclasses.{superclass_route}
use Rattle.path_eval.specs.Values.{nodes_reached, path_reads}
use Rattle.path_eval.proofs.SuperclassLemmas.{Joins-adds, found_wider}
use Rattle.path_eval.proofs.superclasses.Superclasses.add_above.Goals as goal

pub returns-clause-classes : goal.returns-clause-classes
returns-clause-classes g c =
    let graph = g.V.GraphView.graph c.args.view.now in
    let wider = c.in-Some.wider.now in
    let right = found_wider graph c.find.new.self.found.entries c.find.ensures.known.above c.args.class wider
    (sym c.in-Some.ensures.value) in
    on_ok_weaker c.add_all.result
    (Joins-adds wider.classes.keys (nodes_reached graph Forward superclass_route c.args.class) right.classes)
    c.add_all.ensures.classes

pub returns-clause-reads : goal.returns-clause-reads
returns-clause-reads g c =
    let graph = g.V.GraphView.graph c.args.view.now in
    let wider = c.in-Some.wider.now in
    let right = found_wider graph c.find.new.self.found.entries c.find.ensures.known.above c.args.class wider
    (sym c.in-Some.ensures.value) in
    on_ok_weaker c.add_all.result
    (Adds-same wider.reads (path_reads graph Forward superclass_route c.args.class) right.keys)
    c.add_all.ensures.reads
