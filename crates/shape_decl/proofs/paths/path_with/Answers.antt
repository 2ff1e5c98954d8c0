use Rattle.std.proofs.Common.{Ok, Err, sym, ap, ◌∙◌}
use Rattle.path_eval.specs.Route.{route_of}
use Rattle.shape_decl.specs.declared.path_fault.PathFault.TheVariants as fault
use Rattle.shape_decl.specs.PathReadings.{Read}
use Rattle.shape_decl.proofs.PathReadingLemmas.{counted_reading}
use Rattle.shape_decl.proofs.paths.path_with.Goals as goal

pub returns-in_ok-new-in-Ok-clause-path : goal.returns-in_ok-new-in-Ok-clause-path
returns-in_ok-new-in-Ok-clause-path g c =
    let graph = g.V.GraphView.graph c.args.graph.now in
    ap (λ path. Read (route_of path)) c.in_ok-new-in-Ok.ensures ∙ ap Read c.in-Ok.ensures.path
    ∙ sym (counted_reading c.args.limits.now graph c.args.head (Ok c.read_node.new.parts)
    c.in-Ok.ensures.counted)

pub returns-in-Err-Broken-clause-path : goal.returns-in-Err-Broken-clause-path
returns-in-Err-Broken-clause-path g c =
    let graph = g.V.GraphView.graph c.args.graph.now in
    let counted = rw c.in-Err-Broken.field-0-is at c.in-Err-Broken.ensures.fault in
    sym (counted_reading c.args.limits.now graph c.args.head (Err fault.Broken) (counted (λ e. cc)))

pub returns-in-Err-TooDeep-clause-path : goal.returns-in-Err-TooDeep-clause-path
returns-in-Err-TooDeep-clause-path g c =
    let graph = g.V.GraphView.graph c.args.graph.now in
    let counted = rw c.in-Err-TooDeep.field-0-is at c.in-Err-TooDeep.ensures.fault in
    sym (counted_reading c.args.limits.now graph c.args.head (Err fault.TooDeep) (counted (λ e. cc)))
