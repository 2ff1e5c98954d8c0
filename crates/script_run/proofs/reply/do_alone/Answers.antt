use Rattle.script_run.specs.Work.{evaluating}
use Rattle.script_run.proofs.ScriptRunLemmas.{Replies-answers, Replies-nothing, Replies-report}
use Rattle.script_run.proofs.ChangingLemmas.{MovesOn-counted}
use Rattle.script_run.proofs.reply.do_alone.Goals as goal

pub returns-in-Report-clause-replies : goal.returns-in-Report-clause-replies
returns-in-Report-clause-replies g c = λ manner s same is.
    let script = c.args.script.now in
    let alike = c.same_graphs_answer_alike.ensures.report script.engine.plan s.graph script.engine.graph
    is.stores c.view.ensures.asked in
    rw (c.in-Report.is, c.said.ensures.reply, c.said.ensures.counted)
    (Replies-report manner s script is (evaluating c.args.steps.now c.args.nested.now) alike)

pub returns-in-Count-clause-replies : goal.returns-in-Count-clause-replies
returns-in-Count-clause-replies g c = λ manner s same is.
    let script = c.args.script.now in
    rw (
      c.in-Count.is,
      c.said-in-Count.ensures.reply,
      c.said-in-Count.ensures.counted,
      ← c.count-answer.ensures manner s is,
    ) (Replies-answers manner s script is (evaluating c.args.steps.now c.args.nested.now)
    c.count-answer.result)

pub returns-in-Begin-clause-replies : goal.returns-in-Begin-clause-replies
returns-in-Begin-clause-replies g c = λ manner s same is.
    rw c.in-Begin.is (c.begin.ensures.replies manner s (evaluating c.args.steps.now c.args.nested.now) is)

pub returns-in-Abandon-clause-replies : goal.returns-in-Abandon-clause-replies
returns-in-Abandon-clause-replies g c = λ manner s same is.
    rw c.in-Abandon.is (c.abandon.ensures.replies manner s (evaluating c.args.steps.now c.args.nested.now) is)

pub returns-in-Slice-clause-replies : goal.returns-in-Slice-clause-replies
returns-in-Slice-clause-replies g c = λ manner s same is.
    rw c.in-Slice.is (c.slice.ensures.replies manner s (evaluating c.args.steps.now c.args.nested.now) is)

pub returns-in-Nothing-clause-replies : goal.returns-in-Nothing-clause-replies
returns-in-Nothing-clause-replies g c = λ manner s same is.
    rw (c.in-Nothing.is, c.said-in-Nothing.ensures.reply, c.said-in-Nothing.ensures.counted)
    (Replies-nothing manner s c.args.script.now is (evaluating c.args.steps.now c.args.nested.now))

pub returns-in-Report-clause-moves : goal.returns-in-Report-clause-moves
returns-in-Report-clause-moves g c =
    rw c.said.ensures.counted (MovesOn-counted c.args.script.now c.requires.goes_on
    c.said.result (evaluating c.args.steps.now c.args.nested.now))

pub returns-in-Count-clause-moves : goal.returns-in-Count-clause-moves
returns-in-Count-clause-moves g c =
    rw c.said-in-Count.ensures.counted (MovesOn-counted c.args.script.now c.requires.goes_on
    c.said-in-Count.result (evaluating c.args.steps.now c.args.nested.now))

pub returns-in-Nothing-clause-moves : goal.returns-in-Nothing-clause-moves
returns-in-Nothing-clause-moves g c =
    rw c.said-in-Nothing.ensures.counted (MovesOn-counted c.args.script.now c.requires.goes_on
    c.said-in-Nothing.result (evaluating c.args.steps.now c.args.nested.now))

pub returns-in-Begin-clause-moves : goal.returns-in-Begin-clause-moves
returns-in-Begin-clause-moves g c = c.begin.ensures.moves (evaluating c.args.steps.now c.args.nested.now)

pub returns-in-Abandon-clause-moves : goal.returns-in-Abandon-clause-moves
returns-in-Abandon-clause-moves g c = c.abandon.ensures.moves (evaluating c.args.steps.now c.args.nested.now)

pub returns-in-Slice-clause-moves : goal.returns-in-Slice-clause-moves
returns-in-Slice-clause-moves g c = c.slice.ensures.moves (evaluating c.args.steps.now c.args.nested.now)
