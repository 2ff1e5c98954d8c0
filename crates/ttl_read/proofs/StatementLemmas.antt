-- Statements: a directive, or triples and a dot.
use Rattle.std.proofs.Common.{◌≡◌, ℕ, zero, suc, Bool, true, false, ◌&&◌, ◌||◌, List, refl, Result}
use Rattle.shx_term.specs.Pool.{Pooled}
use Rattle.ttl_tokens.specs.declared.token.Token.{Token}
use Rattle.ttl_tokens.specs.declared.token.TokenKind.{TokenKind}
use Rattle.ttl_tokens.specs.declared.token.TokenKind.TheVariants.{End, LangTag, WordPrefix, WordBase, Dot}
use Rattle.ttl_tokens.specs.Form.{Then, Or}
use Rattle.ttl_meaning.specs.Items.{begin_statement}
use Rattle.ttl_meaning.specs.inner.IsReading.{Does}
use Rattle.ttl_read.specs.declared.reader.Reader.{Reader}
use Rattle.ttl_read.specs.declared.reader.Refused.{Refused}
use Rattle.ttl_read.specs.Grammar.{Rule, mark, directive, triples, statement, is_kind}
use Rattle.ttl_read.specs.Depth.{is_prefix_or_base}
use Rattle.ttl_read.specs.inner.Follows.{Avoids, takes_no_token, may_begin}
use Rattle.ttl_read.specs.inner.Reads.{ParsesAlone}
use Rattle.ttl_read.specs.inner.Stops.{predicates_go_on}
use Rattle.ttl_read.proofs.AnswerLemmas.{then_alone, left_alone, right_alone}
use Rattle.ttl_read.proofs.HereLemmas.{IsHere, here_nowhere}
use Rattle.ttl_read.proofs.KindLemmas.{at_kind, apart}
use Rattle.ttl_read.proofs.PassLemmas.{do_passes, then_nowhere}
use Rattle.ttl_read.proofs.TriplesLemmas.{triples_take}

abbrev pub triples_and_dot : List ℕ → ℕ → Rule
triples_and_dot text depth = Then (triples text depth) (mark Dot)

-- a statement behind its beginning
abbrev pub statement_body : List ℕ → ℕ → Rule
statement_body text depth = Or (directive text) (triples_and_dot text depth)

-- ---- with which tokens they begin

-- a statement takes a token
pub body_takes : (text : List ℕ) (depth : ℕ) → takes_no_token (statement_body text depth) ≡ false
body_takes text zero = refl
body_takes text (suc depth) = refl

-- what begins a directive
abbrev pub begins_directive : TokenKind → Bool
begins_directive k = is_kind LangTag k || is_prefix_or_base k

-- triples begin with no such token
pub directive_or_triples : (text : List ℕ) (depth start stop : ℕ) (k : TokenKind)
    → begins_directive k && may_begin (triples text depth) (record { kind = k; start = start; end = stop })
    ≡ false
directive_or_triples text zero start stop End = refl
directive_or_triples text zero start stop k = refl
directive_or_triples text (suc depth) start stop End = refl
directive_or_triples text (suc depth) start stop k = refl

dot_other : (k : TokenKind) → predicates_go_on (at_kind k) && is_kind Dot k ≡ false
dot_other End = refl
dot_other k = refl

-- what follows triples may be a dot
pub dot_avoids : Avoids predicates_go_on (mark Dot)
dot_avoids = record { some = refl; other = λ t e. apart _ _ (dot_other t.kind) e }

-- ---- statements

-- the statement began, and the answer is on the rest of it
pub begun_alone : (text : List ℕ) (depth : ℕ) (r m : Reader) (p : Pooled)
    → Does begin_statement r.reading p m.reading p → m.tokens ≡ r.tokens → (r' : Reader)
    (p' : Pooled) (result : Result (Unit {0}) Refused)
    → ParsesAlone text (statement_body text depth) m p r' p' result
    → ParsesAlone text (statement text depth) r p r' p' result
begun_alone text depth r m p begins same r' p' result a =
    then_alone (do_passes text begin_statement r p m p begins same) _ r' p' result a

-- a directive begins here, and the answer is on it
pub directive_alone : {text : List ℕ} {r : Reader} {t : Token} (depth : ℕ) → IsHere text r t
    → begins_directive t.kind ≡ true → (p : Pooled) (r' : Reader) (p' : Pooled)
    (result : Result (Unit {0}) Refused)
    → ParsesAlone text (directive text) r p r' p' result
    → ParsesAlone text (statement_body text depth) r p r' p' result
directive_alone {text = text} {t = t} depth here begins p r' p' result a =
    let other = apart _ _ (directive_or_triples text depth t.start t.end t.kind) begins in
    left_alone (then_nowhere (here_nowhere (triples text depth) p here (triples_take text depth) other))
    _ r' p' result a

-- no directive begins here, and the answer is on triples and their dot
pub triples_alone : {text : List ℕ} {r : Reader} {t : Token} (depth : ℕ) → IsHere text r t
    → is_kind LangTag t.kind ≡ false → is_kind WordPrefix t.kind ≡ false → is_kind WordBase t.kind ≡ false
    → (p : Pooled) (r' : Reader) (p' : Pooled) (result : Result (Unit {0}) Refused)
    → ParsesAlone text (triples_and_dot text depth) r p r' p' result
    → ParsesAlone text (statement_body text depth) r p r' p' result
triples_alone {text = text} depth here tag prefix base p r' p' result a =
    right_alone (here_nowhere (directive text) p here refl (rw (tag, prefix, base) refl)) _ r' p' result a
