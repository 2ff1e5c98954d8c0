use Rattle.std.proofs.Common.{sym, ap, ◌∙◌, refl, List, ℕ, inl, inr}
use Rattle.std.proofs.lemmas.Result.{err_from_is_err_and}
use Rattle.shx_term.specs.declared.term.Term.TheVariants.{Iri}
use Rattle.ttl_tokens.specs.declared.token.TokenKind.TheVariants.{WordA}
use Rattle.ttl_read.specs.ReadTerm.{A, IsFound}
use Rattle.ttl_read.proofs.KindLemmas.{kind_is, kind_is_not}
use Rattle.script_lines.specs.Lines.{IsPredicateFound}
use Rattle.script_lines.proofs.TermLemmas.{read_weaker}
use Rattle.script_lines.proofs.term.predicate_at.Goals as goal

pub returns-in_err-from_str : goal.returns-in_err-from_str
returns-in_err-from_str c =
    let exit = err_from_is_err_and c.from_residual.result c.from_residual.ensures.1 in
    rw (exit.1, exit.2) (λ other. absurd (other refl))

pub returns-then-eq : goal.returns-then-eq
returns-then-eq c =
    let token = c.args.token.now in
    let word = kind_is WordA token.kind (sym c.eq.ensures ∙ c.if-eq.true) in
    let iri = c.new.ensures ∙ c.in_ok-from_str.ensures.ok in
    (token.end, inl (word, ap (λ (iri : List ℕ). A (Iri iri) token.end) iri))

pub returns : goal.returns
returns c =
    let line = c.args.line.now in
    let token = c.args.token.now in
    let document = c.args.document.now in
    let other = kind_is_not WordA token.kind (sym c.eq.ensures ∙ c.if-eq.false) in
    read_weaker (IsFound line token document) (IsPredicateFound line token document)
    (λ found is. inr (other, is)) c.term_at.result c.term_at.ensures
