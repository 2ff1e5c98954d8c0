use Rattle.std.proofs.Common.{◌≡◌, ℕ, ◌+◌, List, [], ◌∷◌, ◌++◌, get_or, map, take, sym, ap, ◌∙◌, arith, rules}
use Rattle.std.specs.Prelude.{flat_map}
use Rattle.std.proofs.lemmas.Grind.{common_steps}
use Rattle.std.proofs.lemmas.List.{map-append, take_more}
use Rattle.path_eval.proofs.JoinLemmas.{flat_map-more}
use Rattle.comp_core.specs.declared.row.ResultRow.{ResultRow}
use Rattle.shape_eval.specs.Answered.{answered}
use Rattle.shape_eval.specs.Planned.{plan_of}
use Rattle.shape_eval.specs.Report.{at_shape}
use Rattle.shape_eval.specs.Results.{results}
use Rattle.shacl_run.specs.inner.NodeRows.{entry_if_any}
use Rattle.shacl_run.proofs.NestedLemmas.{BringsNested-none, BringsNested-one, BringsNested-then}
use Rattle.shacl_run.proofs.evaluation.rows_at.Goals as goal

pub loop-node-init : goal.loop-node-init
loop-node-init g c = record {
  known = c.requires.known;
  rows = search rules;
  steps = search rules;
  nested = BringsNested-none (λ a keys. Unit {0}) (plan_of c.args.plan.now).shapes
      (g.V.GraphView.graph c.args.view.now) (answered c.args.answers.now) c.args.nested.now
      c.requires.recall;
}

pub loop-node-preserved : goal.loop-node-preserved
loop-node-preserved g c =
    let shapes = (plan_of c.args.plan.now).shapes in
    let graph = g.V.GraphView.graph c.args.view.now in
    let l = c.loop-node in
    let i = l.node-index in
    let nodes = c.args.nodes.now in
    let node = get_or nodes i 0 in
    let pair = at_shape c.args.shape in
    let found = c.in_ok-answer.ensures in
    let mid = answered l.answers in
    let new = answered c.eval_pair.new.memo in
    let right : c.in_ok-answer.answer.rows.items ≡ results shapes graph (pair node) = found.rows in
    let kept : ℕ → List (ℕ × List ResultRow) = λ n. entry_if_any n (results shapes graph (pair n)) in
    record {
      known = found.known;
      rows = c.in_ok-keep_rows.ensures
          ∙ ap (λ es. es ++ entry_if_any node c.in_ok-answer.answer.rows.items) l.invariant.rows
          ∙ ap (λ rows. flat_map kept (take i nodes) ++ entry_if_any node rows) right
          ∙ sym (flat_map-more kept nodes i 0 c.loop-node-test.true);
      steps = grind (arith, common_steps);
      nested = BringsNested-then (λ a keys. Unit {0}) shapes graph (answered c.args.answers.now) mid new
          (map pair (take i nodes)) (pair node ∷ []) (map pair (take (i + 1) nodes))
          c.args.nested.now l.nested c.eval_pair.new.nested
          (ap (λ ns. map pair ns) (take_more nodes i 0 c.loop-node-test.true)
          ∙ map-append pair (take i nodes) (node ∷ []))
          l.invariant.nested
          (BringsNested-one (λ a keys. Unit {0}) shapes graph mid new (pair node) l.nested
          c.eval_pair.new.nested found.recall found.nested found.brings);
    }
