use Rattle.std.specs.Prelude.{◌++◌, flat_map, get_or, take}
use Rattle.std.proofs.Common.{◌∙◌, ap, refl, subst}
use Rattle.std.proofs.lemmas.List.{get_or_default}
use Rattle.shx_term.specs.Members.{SameMembers}
use Rattle.shx_term.proofs.SetLemmas.{SameMembers-append}
use Rattle.comp_core.proofs.NotingLemmas.{noted_more}
use Rattle.shape_eval.specs.declared.target.Target.TheVariants as target
use Rattle.shape_eval.specs.Planned.{plan_of}
use Rattle.shape_eval.specs.Targets.{nodes_of_target, reads_of_target}
use Rattle.shape_eval.proofs.ItemLemmas.{flat_map-take_item}
use Rattle.shape_eval.proofs.TargetLemmas.{known_with, target_number_known}
use Rattle.shape_eval.proofs.targets.nodes_found.Goals as goal

pub nodes_of_target-requires : goal.nodes_of_target-requires
nodes_of_target-requires g c =
    target_number_known (g.V.GraphView.graph c.args.view.now) (plan_of c.args.plan.now).shapes c.requires.plan
    c.args.shape c.shape.result.now c.shape.ensures c.deref-target-items.result.now
    c.deref-target-items.ensures.value c.loop-target.target-index (target.Node 0) c.loop-target-test.true

pub loop-target-preserved : goal.loop-target-preserved
loop-target-preserved g c =
    let view = g.V.GraphView.graph c.args.view.now in
    let targets = c.deref-target-items.result.now in
    let i = c.loop-target.target-index in
    let inside = c.loop-target-test.true in
    let item = get_or targets i (target.Node 0) in
    let before = c.loop-target.found.items in
    let found = c.in_ok-nodes.nodes.items in
    let due = flat_map (nodes_of_target view) (take i targets) in
    record {
      nodes = subst (SameMembers c.extend_from_slice.new.self.items)
          (flat_map-take_item (nodes_of_target view) targets i item inside
          (get_or_default targets i (target.Node 0) item inside) due (due ++ nodes_of_target view item)
          refl refl)
          (rw (c.in_ok-extend_from_slice.ensures.items ∙ ap (λ ys. before ++ ys) c.deref.ensures.value)
          (SameMembers-append before found due (nodes_of_target view item) c.loop-target.invariant.nodes
          c.in_ok-nodes.ensures.nodes));
      reads = noted_more g.met.N.Notes.laws (reads_of_target view) targets i (target.Node 0) inside
          c.loop-target.invariant.reads c.in_ok-nodes.ensures.reads;
      known = known_with view c.loop-target.found.items c.in_ok-nodes.nodes.items
          c.extend_from_slice.new.self.items c.loop-target.invariant.known c.in_ok-nodes.ensures.known
          (c.in_ok-extend_from_slice.ensures.items
          ∙ ap (λ ys. c.loop-target.found.items ++ ys) c.deref.ensures.value);
    }
