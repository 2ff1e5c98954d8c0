use Rattle.ttl_read.specs.Documents.{setting}
use Rattle.shape_text.specs.Turtle.{role_of}
use Rattle.shape_text.proofs.ReadingLemmas.{document_known, fault_read}
use Rattle.shape_text.proofs.DocumentLemmas.{valid_document}
use Rattle.shape_text.proofs.turtle.read_turtle.Goals as goal

pub returns-in-Ok-clause-valid : goal.returns-in-Ok-clause-valid
returns-in-Ok-clause-valid c = λ narrow.
    let states = c.in-Ok.ensures.document in
    let bounds = (setting c.deref.result.now c.args.limits.now c.args.pool.now).bounds in
    valid_document bounds states.0 c.in-Ok.document c.read_document.new.pool states.2 narrow

pub returns-in-Ok-clause-known : goal.returns-in-Ok-clause-known
returns-in-Ok-clause-known c =
    document_known c.args.limits.now c.args.base.now c.args.scope c.deref.result.now c.args.pool.now
    c.requires.limit c.in-Ok.document c.read_document.new.pool c.in-Ok.ensures.document

pub returns-in-Err-At-clause-refused : goal.returns-in-Err-At-clause-refused
returns-in-Err-At-clause-refused c =
    rw c.role_of.ensures
    (fault_read c.args.limits.now c.args.base.now c.args.scope c.args.text.items c.args.pool.now
    c.requires.limit (role_of c.args.scope) c.in-Err-At.code c.in-Err-At.at c.requires.within
    (rw (c.in-Err-At.field-0-is, c.deref.ensures.value) at c.in-Err-At.ensures.fault))
