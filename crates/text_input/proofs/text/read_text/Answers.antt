use Rattle.text_input.proofs.RestLemmas.{IsTextRead-closed, IsTextRead-whole, IsTextRead-part}
use Rattle.text_input.proofs.text.read_text.Goals as goal

pub returns-in_err-open : goal.returns-in_err-open
returns-in_err-open g c =
    let opened = c.in_err-open.ensures in
    IsTextRead-closed c.args.name.now c.args.most c.from_residual.result opened.opened opened.opens
    opened.cause.failed opened.others opened.admitted opened.texts c.from_residual.ensures.1

pub returns-in_err-read_rest : goal.returns-in_err-read_rest
returns-in_err-read_rest g c =
    let opened = c.in_ok-open.ensures in
    IsTextRead-part c.args.name.now c.args.most
    (record {
      opens = opened.opens;
      whole = opened.whole;
      rest = opened.rest;
      quiet = opened.cause.quiet;
      others = opened.others;
      admitted = opened.admitted;
      texts = opened.texts;
    })
    c.in_err-read_rest.field-0.0 c.read_rest.new.text.items c.from_residual-in_err-read_rest.result
    c.in_err-read_rest.ensures c.from_residual-in_err-read_rest.ensures.1

pub returns : goal.returns
returns g c =
    let opened = c.in_ok-open.ensures in
    IsTextRead-whole c.args.name.now c.args.most
    (record {
      opens = opened.opens;
      whole = opened.whole;
      rest = opened.rest;
      quiet = opened.cause.quiet;
      others = opened.others;
      admitted = opened.admitted;
      texts = opened.texts;
    })
    c.in_ok-read_rest.field-0 c.read_rest.new.text c.in_ok-read_rest.ensures
