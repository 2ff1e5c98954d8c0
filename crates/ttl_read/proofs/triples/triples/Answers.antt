use Rattle.std.proofs.Common.{◌≡◌, ◌<◌, true, false, sym, ◌∙◌, arith}
use Rattle.ttl_tokens.specs.declared.token.TokenKind.TheVariants.{OpenSquare}
use Rattle.ttl_read.specs.Grammar.{object, predicate_object_list, triples, is_kind}
use Rattle.ttl_read.proofs.AnswerLemmas.{passed_on, then_parses}
use Rattle.ttl_read.proofs.HereLemmas.{is_here, none_nowhere}
use Rattle.ttl_read.proofs.PassLemmas.{nowhere_refuses}
use Rattle.ttl_read.proofs.ReadLemmas.{nothing_goes_on, then_refuses}
use Rattle.ttl_read.proofs.TriplesLemmas.{triples_of_node, triples_of_subject, triples_take}
use Rattle.ttl_read.proofs.triples.triples.Goals.{else-depth-gt0-via-then-depth-gt0+else-eq}
use Rattle.ttl_read.proofs.triples.triples.Goals.{else-depth-gt0-via-else-depth-gt0}
use Rattle.ttl_read.proofs.triples.triples.Goals as goal

pub returns-in_default-clause-parses : goal.returns-in_default-clause-parses
returns-in_default-clause-parses c =
    let text = c.args.text.now in
    nowhere_refuses (none_nowhere text (triples text c.args.depth) c.in_default.field-0 c.args.reader.now
    c.args.pool.now c.utf8.text c.requires.stands c.in_default.is (triples_take text c.args.depth))

pub returns-then-eq-clause-parses : goal.returns-then-eq-clause-parses
returns-then-eq-clause-parses c =
    let here = is_here c.args.reader.now c.utf8.text c.requires.stands c.in-Ok.is in
    let bracket : is_kind OpenSquare c.in-Ok.token.kind ≡ true =
    sym c.eq.ensures ∙ c.if-eq.true in
    triples_of_node c.args.depth c.if-depth-gt0.true here bracket _ _ _ c.node_triples.result
    c.node_triples.ensures.parses

pub returns-in_err-subject-clause-parses : goal.returns-in_err-subject-clause-parses
returns-in_err-subject-clause-parses c =
    let text = c.args.text.now in
    let here = is_here c.args.reader.now c.utf8.text c.requires.stands c.in-Ok.is in
    let other : 0 < c.args.depth → is_kind OpenSquare c.in-Ok.token.kind ≡ false =
    elim c.else-depth-gt0.branch [
      | else-depth-gt0-via-then-depth-gt0+else-eq w ↦ λ some.
          sym w.eq.ensures ∙ w.if-eq.false
      | else-depth-gt0-via-else-depth-gt0 w ↦ λ some. absurd (omega (arith, some, w.if-depth-gt0.false))
    ] in
    let list = predicate_object_list text (object text c.args.depth) in
    let result = c.from_residual.result in
    triples_of_subject c.args.depth here other _ _ _ result
    (passed_on _ _ c.in_err-subject.field-0.0 result c.from_residual.ensures.1 c.in_err-subject.ensures.parses
    (λ n. then_refuses (nothing_goes_on list) n))

pub returns-clause-parses : goal.returns-clause-parses
returns-clause-parses c =
    let text = c.args.text.now in
    let here = is_here c.args.reader.now c.utf8.text c.requires.stands c.in-Ok.is in
    let other : 0 < c.args.depth → is_kind OpenSquare c.in-Ok.token.kind ≡ false =
    elim c.else-depth-gt0.branch [
      | else-depth-gt0-via-then-depth-gt0+else-eq w ↦ λ some.
          sym w.eq.ensures ∙ w.if-eq.false
      | else-depth-gt0-via-else-depth-gt0 w ↦ λ some. absurd (omega (arith, some, w.if-depth-gt0.false))
    ] in
    let list = predicate_object_list text (object text c.args.depth) in
    let result = c.predicate_object_list.result in
    triples_of_subject c.args.depth here other _ _ _ result
    (then_parses (nothing_goes_on list) c.in_ok-subject.ensures.parses _ _ result
    c.predicate_object_list.ensures.parses)
