use Rattle.std.specs.Prelude.{◌≡◌, nat_eq, [], ◌∷◌, flat_map}
use Rattle.std.specs.List.{list_any}
use Rattle.std.proofs.Common.{subst, ◌∙◌}
use Rattle.std.proofs.lemmas.Result.{IfOk-weaker, on_ok_weaker}
use Rattle.shx_term.specs.declared.vocabulary.TheConstants.{RDF_TYPE}
use Rattle.path_eval.specs.declared.direction.Direction.TheVariants.{Forward}
use Rattle.path_eval.specs.Instances.{instance_route, is_instance}
use Rattle.path_eval.specs.Relation.{step_key}
use Rattle.path_eval.specs.Superclasses.{superclass_route}
use Rattle.path_eval.specs.Values.{nodes_reached, path_reads}
use Rattle.path_eval.specs.Way.{step_to}
use Rattle.path_eval.proofs.SuperclassLemmas.{any_alike, instance_any, instance_reads}
use Rattle.path_eval.proofs.superclasses.Superclasses.is_of_class.Goals as goal

pub returns-in-Some-clause-is : goal.returns-in-Some-clause-is
returns-in-Some-clause-is g c =
    let graph = g.V.GraphView.graph c.args.view.now in
    let all = c.in-Some.all.now in
    let class = c.args.class in
    let right = c.in-Some.ensures graph c.requires.known in
    let test = is_instance graph c.args.node class in
    IfOk-weaker c.tell.result (λ is. is ≡ list_any (nat_eq class) all.classes.keys) (λ is. is ≡ test)
    (λ is told. ◌∙◌ {c = test} told
    (any_alike class all.classes.keys (nodes_reached graph Forward instance_route c.args.node) right.classes))
    c.tell.ensures.is

pub returns-clause-is : goal.returns-clause-is
returns-clause-is g c =
    let graph = g.V.GraphView.graph c.args.view.now in
    let types = c.deref-2.result.now in
    let class = c.args.class in
    let test = is_instance graph c.args.node class in
    let objects = step_to graph Forward RDF_TYPE c.args.node in
    let are = ◌∙◌ {c = objects} c.deref-2.ensures.value c.in_ok-types.ensures.found in
    IfOk-weaker c.is_of_any.result
    (λ is. is ≡ list_any (nat_eq class) (flat_map (nodes_reached graph Forward superclass_route) types))
    (λ is. is ≡ test)
    (λ is told. ◌∙◌ {c = test} told (instance_any graph c.args.node types are class))
    c.is_of_any.ensures.is

pub returns-clause-reads : goal.returns-clause-reads
returns-clause-reads g c =
    let graph = g.V.GraphView.graph c.args.view.now in
    let types = c.deref-2.result.now in
    let keys = step_key Forward RDF_TYPE c.args.node ∷ [] in
    let more = flat_map (path_reads graph Forward superclass_route) types in
    let objects = step_to graph Forward RDF_TYPE c.args.node in
    let are = ◌∙◌ {c = objects} c.deref-2.ensures.value c.in_ok-types.ensures.found in
    on_ok_weaker c.is_of_any.result
    (λ noted. subst (g.N.Notes.notes c.args.reads.now c.is_of_any.new.reads)
    (instance_reads graph c.args.node types are)
    (g.met.N.Notes.laws.then keys more c.in_ok-types.ensures.reads noted))
    c.is_of_any.ensures.reads
