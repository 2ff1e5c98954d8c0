use Rattle.std.proofs.Common.{◌≡◌, ◌<◌, true, false, sym, ◌∙◌, arith}
use Rattle.ttl_tokens.specs.declared.token.TokenKind.TheVariants.{OpenRound}
use Rattle.ttl_read.specs.Grammar.{is_kind}
use Rattle.ttl_read.proofs.AnswerLemmas.{alone_parses}
use Rattle.ttl_read.proofs.HereLemmas.{is_here}
use Rattle.ttl_read.proofs.TriplesLemmas.{collection_subject, node_subject}
use Rattle.ttl_read.proofs.triples.subject.Goals.{else-depth-gt0-via-then-depth-gt0+else-eq}
use Rattle.ttl_read.proofs.triples.subject.Goals.{else-depth-gt0-via-else-depth-gt0}
use Rattle.ttl_read.proofs.triples.subject.Goals as goal

pub returns-then-eq-clause-parses : goal.returns-then-eq-clause-parses
returns-then-eq-clause-parses c =
    let here = is_here c.args.reader.now c.utf8.text c.requires.stands c.requires.next in
    let bracket : is_kind OpenRound c.args.token.kind ≡ true =
    sym c.eq.ensures ∙ c.if-eq.true in
    collection_subject c.args.depth c.if-depth-gt0.true here bracket _ _ _ c.collection.result
    c.collection.ensures.parses

pub returns-clause-parses : goal.returns-clause-parses
returns-clause-parses c =
    let here = is_here c.args.reader.now c.utf8.text c.requires.stands c.requires.next in
    let other : 0 < c.args.depth → is_kind OpenRound c.args.token.kind ≡ false =
    elim c.else-depth-gt0.branch [
      | else-depth-gt0-via-then-depth-gt0+else-eq w ↦ λ some.
          sym w.eq.ensures ∙ w.if-eq.false
      | else-depth-gt0-via-else-depth-gt0 w ↦ λ some. absurd (omega (arith, some, w.if-depth-gt0.false))
    ] in
    node_subject c.args.depth here other _ _ _ c.node.result
    (alone_parses _ _ _ _ _ _ _ c.node.result c.node.ensures.parses)
