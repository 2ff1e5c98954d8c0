use Rattle.std.proofs.Common.{◌≡◌, ℕ, ◌+◌, List, ◌++◌, length, get_or, map, take, sym, ap, ◌∙◌, subst}
use Rattle.std.proofs.Common.{arith, length-append, rules}
use Rattle.std.specs.Prelude.{flat_map}
use Rattle.std.proofs.lemmas.Grind.{flat_map-append}
use Rattle.std.proofs.lemmas.List.{length-map, take_all}
use Rattle.path_eval.proofs.JoinLemmas.{flat_map-more}
use Rattle.comp_core.specs.declared.pair.Pair.{Pair}
use Rattle.comp_core.specs.declared.row.ResultRow.{ResultRow}
use Rattle.shape_eval.specs.Answered.{answered}
use Rattle.shape_eval.specs.Planned.{plan_of}
use Rattle.shape_eval.specs.Recalled.{BringsNested}
use Rattle.shape_eval.specs.Report.{at_shape, pairs}
use Rattle.shape_eval.specs.Results.{results}
use Rattle.shape_eval.specs.Targets.{target_nodes}
use Rattle.shacl_run.proofs.NestedLemmas.{BringsNested-none, BringsNested-then, IsRecallOf-none}
use Rattle.shacl_run.proofs.NestedLemmas.{answered-none, nested_counted}
use Rattle.shacl_run.proofs.evaluation.evaluate.Goals as goal

pub loop-shape-init : goal.loop-shape-init
loop-shape-init g c =
    let shapes = (plan_of c.args.plan.now).shapes in
    let graph = g.V.GraphView.graph c.args.view.now in
    let old = answered c.new-answers.result in
    record {
      known = search rules;
      rows = search rules;
      steps = search rules;
      nested = BringsNested-none (λ a keys. Unit {0}) shapes graph old c.args.nested.now
          (IsRecallOf-none (λ a keys. Unit {0}) shapes graph old
          (answered-none c.new-answers.result c.new-answers.ensures));
    }

pub loop-shape-preserved : goal.loop-shape-preserved
loop-shape-preserved g c =
    let shapes = (plan_of c.args.plan.now).shapes in
    let graph = g.V.GraphView.graph c.args.view.now in
    let l = c.loop-shape in
    let i = l.shape-index in
    let targeted = c.targeted-shape-items.result.now in
    let shape = get_or targeted i 0 in
    let at : ℕ → List Pair = λ n. map (at_shape n) (target_nodes shapes graph n) in
    let seen = flat_map at (take i targeted) in
    let more : flat_map at (take (i + 1) targeted) ≡ seen ++ at shape =
    flat_map-more at targeted i 0 c.loop-shape-test.true in
    let found : Pair → List ResultRow = results shapes graph in
    let added = c.in_ok-add_shape.ensures in
    record {
      known = added.known;
      rows = added.rows ∙ ap (λ rows. rows ++ flat_map found (at shape)) l.invariant.rows
          ∙ sym (ap (λ ps. flat_map found ps) more ∙ flat_map-append found seen (at shape));
      steps = omega (
        arith,
        added.steps,
        l.invariant.steps,
        ap (λ ps. length ps) more,
        length-append seen (at shape),
        length-map (target_nodes shapes graph shape) (at_shape shape),
      );
      nested = BringsNested-then (λ a keys. Unit {0}) shapes graph (answered c.new-answers.result)
          (answered l.answers) (answered c.add_shape.new.answers) seen (at shape)
          (flat_map at (take (i + 1) targeted)) c.args.nested.now l.nested c.add_shape.new.nested more
          l.invariant.nested added.nested;
    }

pub returns-clause-steps : goal.returns-clause-steps
returns-clause-steps g c =
    let shapes = (plan_of c.args.plan.now).shapes in
    let graph = g.V.GraphView.graph c.args.view.now in
    let l = c.loop-shape in
    let at : ℕ → List Pair = λ n. map (at_shape n) (target_nodes shapes graph n) in
    l.invariant.steps
    ∙ ap (λ (ns : List ℕ). c.args.steps.now + length (flat_map at ns))
    (take_all l.shape-index c.targeted-shape-items.result.now c.loop-shape-test.false
    ∙ c.targeted-shape-items.ensures.targeted)

pub returns-clause-nested : goal.returns-clause-nested
returns-clause-nested g c =
    let shapes = (plan_of c.args.plan.now).shapes in
    let graph = g.V.GraphView.graph c.args.view.now in
    let l = c.loop-shape in
    let targeted = c.targeted-shape-items.result.now in
    let old = answered c.new-answers.result in
    let new = answered l.answers in
    let all : take l.shape-index targeted ≡ (plan_of c.args.plan.now).targeted =
    take_all l.shape-index targeted c.loop-shape-test.false ∙ c.targeted-shape-items.ensures.targeted in
    nested_counted (λ a keys. Unit {0}) shapes graph old new
    (answered-none c.new-answers.result c.new-answers.ensures) (pairs (plan_of c.args.plan.now) graph)
    c.args.nested.now l.nested
    (subst (λ (ns : List ℕ). BringsNested (λ a keys. Unit {0}) shapes graph old new
    (flat_map (λ n. map (at_shape n) (target_nodes shapes graph n)) ns) c.args.nested.now l.nested) all
    l.invariant.nested)
