use Rattle.std.proofs.Common.{refl, ◌∙◌}
use Rattle.ttl_meaning.specs.State.{first_state}
use Rattle.ttl_read.specs.declared.reader.Reader.{Reader}
use Rattle.ttl_read.specs.Documents.{setting}
use Rattle.ttl_read.proofs.DocumentLemmas.{states_where, fault_where, before_where, holds_read}
use Rattle.ttl_read.proofs.DocumentLemmas.{holds_nothing}
use Rattle.ttl_read.proofs.document.read_text.Goals as goal

pub returns-in_err-reading-clause-pool : goal.returns-in_err-reading-clause-pool
returns-in_err-reading-clause-pool c =
    holds_nothing (setting c.args.text.now c.args.limits.now c.args.pool.now) c.args.scope c.args.base.now
    c.args.pool.now refl

pub returns-in_err-statements-clause-fault : goal.returns-in_err-statements-clause-fault
returns-in_err-statements-clause-fault c =
    let before = c.args.pool.now in
    let reader : Reader = record { tokens = c.at-tokens.result; reading = c.in_ok-reading.reading } in
    fault_where (setting c.args.text.now c.args.limits.now before) c.args.scope c.args.base.now reader
    before c.statements.new.reader c.statements.new.pool c.in_err-statements.field-0.0 _
    c.from_residual-in_err-statements.ensures.1 c.utf8.text
    (c.at-tokens.ensures.place ∙ c.first_byte.ensures.place) c.in_ok-reading.ensures
    (c.in_err-statements.ensures.concludes before)

pub returns-in_err-statements-clause-pool : goal.returns-in_err-statements-clause-pool
returns-in_err-statements-clause-pool c =
    let before = c.args.pool.now in
    let reader : Reader = record { tokens = c.at-tokens.result; reading = c.in_ok-reading.reading } in
    holds_read (setting c.args.text.now c.args.limits.now before) c.args.scope c.args.base.now reader before
    c.statements.new.pool c.len.ensures.count c.len.ensures.within
    (c.at-tokens.ensures.place ∙ c.first_byte.ensures.place) c.in_ok-reading.ensures
    (c.statements.ensures.holds before (first_state c.args.scope c.args.base.now))

pub returns-in_err-statements-clause-before : goal.returns-in_err-statements-clause-before
returns-in_err-statements-clause-before c =
    let before = c.args.pool.now in
    let reader : Reader = record { tokens = c.at-tokens.result; reading = c.in_ok-reading.reading } in
    before_where (setting c.args.text.now c.args.limits.now before) c.args.scope c.args.base.now reader
    before c.statements.new.reader c.statements.new.pool c.in_err-statements.field-0.0 _
    c.len.ensures.count c.len.ensures.within c.from_residual-in_err-statements.ensures.1 c.utf8.text
    (c.at-tokens.ensures.place ∙ c.first_byte.ensures.place) c.in_ok-reading.ensures
    (c.in_err-statements.ensures.concludes before)

pub returns-in_err-finish-clause-pool : goal.returns-in_err-finish-clause-pool
returns-in_err-finish-clause-pool c =
    let before = c.args.pool.now in
    let reader : Reader = record { tokens = c.at-tokens.result; reading = c.in_ok-reading.reading } in
    holds_read (setting c.args.text.now c.args.limits.now before) c.args.scope c.args.base.now reader before
    c.statements.new.pool c.len.ensures.count c.len.ensures.within
    (c.at-tokens.ensures.place ∙ c.first_byte.ensures.place) c.in_ok-reading.ensures
    (c.statements.ensures.holds before (first_state c.args.scope c.args.base.now))

pub returns-clause-document : goal.returns-clause-document
returns-clause-document c =
    let before = c.args.pool.now in
    let reader : Reader = record { tokens = c.at-tokens.result; reading = c.in_ok-reading.reading } in
    states_where (setting c.args.text.now c.args.limits.now before) c.args.scope c.args.base.now reader
    before c.statements.new.reader c.statements.new.pool c.in_ok-statements.field-0
    c.in_ok-finish.field-0 c.len.ensures.count c.len.ensures.within c.utf8.text
    (c.at-tokens.ensures.place ∙ c.first_byte.ensures.place) c.in_ok-reading.ensures
    (c.in_ok-statements.ensures.concludes before)
    (λ s none fits reads. c.in_ok-finish.ensures _ s _ none fits reads)

pub returns-clause-pool : goal.returns-clause-pool
returns-clause-pool c =
    let before = c.args.pool.now in
    let reader : Reader = record { tokens = c.at-tokens.result; reading = c.in_ok-reading.reading } in
    holds_read (setting c.args.text.now c.args.limits.now before) c.args.scope c.args.base.now reader before
    c.statements.new.pool c.len.ensures.count c.len.ensures.within
    (c.at-tokens.ensures.place ∙ c.first_byte.ensures.place) c.in_ok-reading.ensures
    (c.statements.ensures.holds before (first_state c.args.scope c.args.base.now))
