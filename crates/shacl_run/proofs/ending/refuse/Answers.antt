use Rattle.shape_text.specs.declared.stop.Stop.TheVariants.{Write}
use Rattle.shacl_run.specs.Run.{refused}
use Rattle.shacl_run.proofs.EndLemmas.{Ends-answer, Ends-answer_short, passed_on}
use Rattle.std.proofs.Common.{refl}
use Rattle.shacl_run.proofs.ending.refuse.Goals as goal

pub returns-in_err-write_answer-clause-ends : goal.returns-in_err-write_answer-clause-ends
returns-in_err-write_answer-clause-ends g c = λ at.
    let exit = c.from_residual in
    rw (passed_on exit.result Write exit.ensures.1)
    (Ends-answer_short (refused c.args.format c.args.pool.now.terms c.args.answer.now)
    (record at { sink = g.O.Sink.state c.args.out.now })
    (record at { sink = g.O.Sink.state c.write_answer.new.out }) refl
    c.in_err-write_answer.ensures.err)

pub returns-clause-ends : goal.returns-clause-ends
returns-clause-ends g c = λ at.
    Ends-answer (refused c.args.format c.args.pool.now.terms c.args.answer.now)
    (record at { sink = g.O.Sink.state c.args.out.now })
    (record at { sink = g.O.Sink.state c.write_answer.new.out }) tt (λ no. no) refl
    c.in_ok-write_answer.ensures.ok
