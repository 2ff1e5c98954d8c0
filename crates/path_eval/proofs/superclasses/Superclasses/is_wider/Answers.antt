use Rattle.std.specs.Prelude.{◌≡◌, nat_eq}
use Rattle.std.specs.List.{list_any}
use Rattle.std.proofs.Common.{sym, ◌∙◌}
use Rattle.std.proofs.lemmas.Result.{IfOk-weaker, on_ok_weaker}
use Rattle.path_eval.specs.declared.direction.Direction.TheVariants.{Forward}
use Rattle.path_eval.specs.Superclasses.{superclass_route}
use Rattle.path_eval.specs.Values.{nodes_reached, path_reads}
use Rattle.path_eval.proofs.SuperclassLemmas.{any_alike, found_wider}
use Rattle.path_eval.proofs.superclasses.Superclasses.is_wider.Goals as goal

pub returns-clause-is : goal.returns-clause-is
returns-clause-is g c =
    let graph = g.V.GraphView.graph c.args.view.now in
    let wider = c.in-Some.wider.now in
    let class = c.args.class in
    let above = nodes_reached graph Forward superclass_route c.args.kind in
    let right = found_wider graph c.find.new.self.found.entries c.find.ensures.known.above c.args.kind wider
    (sym c.in-Some.ensures.value) in
    IfOk-weaker c.tell.result (λ is. is ≡ list_any (nat_eq class) wider.classes.keys)
    (λ is. is ≡ list_any (nat_eq class) above)
    (λ is told. told ∙ any_alike class wider.classes.keys above right.classes) c.tell.ensures.is

pub returns-clause-reads : goal.returns-clause-reads
returns-clause-reads g c =
    let graph = g.V.GraphView.graph c.args.view.now in
    let wider = c.in-Some.wider.now in
    let right = found_wider graph c.find.new.self.found.entries c.find.ensures.known.above c.args.kind wider
    (sym c.in-Some.ensures.value) in
    on_ok_weaker c.tell.result
    (g.met.N.Notes.laws.same wider.reads (path_reads graph Forward superclass_route c.args.kind) right.keys)
    c.tell.ensures.reads
