use Rattle.std.proofs.Common.{Err}
use Rattle.std.proofs.lemmas.Result.{IfErr-weaker, err_from_is_err_and}
use Rattle.script_lines.proofs.LineLemmas.{insert_terms, remove_terms, insert_asked, remove_asked}
use Rattle.script_lines.proofs.LineLemmas.{insert_refused, remove_refused, slice_asked}
use Rattle.script_lines.proofs.line.command_of.Goals as goal

pub read_triple-requires : goal.read_triple-requires
read_triple-requires c =
    insert_terms c.args.line.now c.args.form.now c.in-Insert.terms c.in-Insert.is c.requires

pub returns-in_err-triple-in-Insert-clause-refused :
    goal.returns-in_err-triple-in-Insert-clause-refused
returns-in_err-triple-in-Insert-clause-refused c =
    let exit = err_from_is_err_and c.from_residual.result c.from_residual.ensures.1 in
    rw (exit.1, exit.2)
    (λ other. insert_refused c.args.line.now c.args.document.now c.args.form.now c.in-Insert.terms
    c.in-Insert.is c.in_err-triple-in-Insert.field-0.0
    (c.in_err-triple-in-Insert.ensures.refused other))

pub read_triple-requires-in-Remove : goal.read_triple-requires-in-Remove
read_triple-requires-in-Remove c =
    remove_terms c.args.line.now c.args.form.now c.in-Remove.terms c.in-Remove.is c.requires

pub returns-in_err-triple-in-Remove-clause-refused :
    goal.returns-in_err-triple-in-Remove-clause-refused
returns-in_err-triple-in-Remove-clause-refused c =
    let exit = err_from_is_err_and c.from_residual-in_err-triple-in-Remove.result
    c.from_residual-in_err-triple-in-Remove.ensures.1 in
    rw (exit.1, exit.2)
    (λ other. remove_refused c.args.line.now c.args.document.now c.args.form.now c.in-Remove.terms
    c.in-Remove.is c.in_err-triple-in-Remove.field-0.0
    (c.in_err-triple-in-Remove.ensures.refused other))

pub returns-in_ok-triple-in-Insert-clause-command :
    goal.returns-in_ok-triple-in-Insert-clause-command
returns-in_ok-triple-in-Insert-clause-command c =
    insert_asked c.args.line.now c.args.document.now c.args.form.now c.in-Insert.terms c.in-Insert.is
    c.in_ok-triple-in-Insert.triple c.in_ok-triple-in-Insert.ensures.triple

pub returns-in_ok-triple-in-Remove-clause-command :
    goal.returns-in_ok-triple-in-Remove-clause-command
returns-in_ok-triple-in-Remove-clause-command c =
    remove_asked c.args.line.now c.args.document.now c.args.form.now c.in-Remove.terms c.in-Remove.is
    c.in_ok-triple-in-Remove.triple c.in_ok-triple-in-Remove.ensures.triple

pub returns-in-Slice-clause-refused : goal.returns-in-Slice-clause-refused
returns-in-Slice-clause-refused c =
    IfErr-weaker c.read_pair.result _ _
    (λ fault read other. slice_asked c.args.line.now c.args.document.now c.args.form.now c.in-Slice.pair
    c.in-Slice.is (Err fault) (read other))
    c.read_pair.ensures.refused
