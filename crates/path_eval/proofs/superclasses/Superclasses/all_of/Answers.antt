use Rattle.std.specs.Prelude.{[], ◌∷◌, flat_map, take}
use Rattle.std.proofs.Common.{subst, ◌∙◌}
use Rattle.std.proofs.lemmas.List.{take_all}
use Rattle.shx_term.specs.Members.{Adds}
use Rattle.shx_term.specs.declared.vocabulary.TheConstants.{RDF_TYPE}
use Rattle.shx_term.proofs.SetLemmas.{Adds-take_more}
use Rattle.path_eval.specs.declared.direction.Direction.TheVariants.{Forward}
use Rattle.path_eval.specs.Relation.{step_key}
use Rattle.path_eval.specs.Superclasses.{superclass_route}
use Rattle.path_eval.specs.Values.{nodes_reached, path_reads}
use Rattle.path_eval.proofs.SuperclassLemmas.{gathered}
use Rattle.path_eval.proofs.superclasses.Superclasses.all_of.Goals as goal

pub loop-kind-preserved : goal.loop-kind-preserved
loop-kind-preserved g c =
    let graph = g.V.GraphView.graph c.args.view.now in
    let types = c.args.types.now in
    let at = c.loop-kind.kind-index in
    record {
      known = c.add_above.ensures.known;
      classes = Adds-take_more (nodes_reached graph Forward superclass_route) types at _ c.loop-kind-test.true
          c.loop-kind.invariant.classes c.in_ok-add_above.ensures.classes;
      reads = Adds-take_more (path_reads graph Forward superclass_route) types at _ c.loop-kind-test.true
          c.loop-kind.invariant.reads c.in_ok-add_above.ensures.reads;
    }

pub returns-clause-all : goal.returns-clause-all
returns-clause-all g c =
    let graph = g.V.GraphView.graph c.args.view.now in
    let types = c.args.types.now in
    let at = c.loop-kind.kind-index in
    let all = c.loop-kind.all in
    let done = flat_map (nodes_reached graph Forward superclass_route) (take at types) in
    gathered graph c.args.node (take at types) (take_all at types c.loop-kind-test.false ∙ c.requires.types)
    all c.add.new.self
    (subst (λ old. Adds old c.add.new.self (step_key Forward RDF_TYPE c.args.node ∷ []))
    c.new-all.ensures.reads c.in_ok-add.ensures.added)
    (subst (λ old. Adds old all.classes.keys done) c.new-all.ensures.classes c.loop-kind.invariant.classes)
    c.loop-kind.invariant.reads
