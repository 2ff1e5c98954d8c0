-- What belongs to a string, and what is answered of a term.
use Rattle.std.proofs.Common.{◌≡◌, ◌≢◌, ℕ, true, List, Result, Ok, Err, ap, ◌∙◌, subst}
use Rattle.std.specs.Prelude.{IfOk}
use Rattle.std.specs.Str.{IsUtf8}
use Rattle.ttl_tokens.specs.declared.token.Token.{Token}
use Rattle.ttl_tokens.specs.declared.token.TokenKind.{TokenKind}
use Rattle.ttl_tokens.specs.declared.token.TokenKind.TheVariants.{LangTag, Carets}
use Rattle.ttl_tokens.specs.Tokens.{IsTokenAt, IsNoTokenAt}
use Rattle.ttl_tokens.proofs.OneTokenLemmas.{one_token, token_or_none}
use Rattle.ttl_meaning.specs.declared.document.Document.{Document}
use Rattle.ttl_read.specs.declared.fault.TtlFault.{TtlFault}
use Rattle.ttl_read.specs.declared.fault.TtlFault.TheVariants.{At, Memory}
use Rattle.ttl_read.specs.declared.term.Reading.{Reading}
use Rattle.ttl_read.specs.declared.suffix.Suffix.TheVariants.{Nothing}
use Rattle.ttl_read.specs.Found.{Answers, HasSuffix}
use Rattle.ttl_read.specs.Grammar.{is_iri}
use Rattle.ttl_read.specs.ReadTerm.{Found, A, No, IsFound, HasTag, HasDatatype}

-- ---- answers

pub Answers-weaker : (P Q : Found → Type 0) → ((answer : Found) → P answer → Q answer)
    → (r : Result Reading TtlFault) → Answers P r → Answers Q r
Answers-weaker P Q more (Ok reading) h = more (A reading.term reading.end) h
Answers-weaker P Q more (Err (At code at)) h = more (No code at) h
Answers-weaker P Q more (Err Memory) h = tt

module _ (text : List ℕ) (token : Token) (document : Document) where
  pub term_found : (r : Result Reading TtlFault) → Answers (IsFound text token document) r
      → IfOk r (λ reading. IsFound text token document (A reading.term reading.end))
  term_found (Ok reading) h = h
  term_found (Err fault) h = tt

-- ---- the next token

-- where the next token is another, none such comes next
pub other_next : (text : List ℕ) (at : ℕ) (Such : TokenKind → Type 0) (next : Token) → IsUtf8 text
    → IsTokenAt text at next → (Such next.kind → ⊥) → (other : Token) → IsTokenAt text at other
    → Such other.kind → ⊥
other_next text at Such next utf8 here none other also is =
    none (subst (λ (t : Token). Such t.kind) (one_token text at other next utf8 also here) is)

-- ---- what belongs to a string

pub tag_or_carets : {k : TokenKind} → k ≡ LangTag → k ≡ Carets → ⊥
tag_or_carets tag carets = absurd (cc)

module _ (text : List ℕ) (string : Token) (utf8 : IsUtf8 text) where
  pub one_tag : (t u : Token) → HasTag text string t → HasTag text string u → t ≡ u
  one_tag t u has also = one_token text string.end t u utf8 has.0 also.0

  pub one_datatype : (t u : Token) → HasDatatype text string t → HasDatatype text string u → t ≡ u
  one_datatype t u has also =
      let same : has.0 ≡ also.0 = one_token text string.end has.0 also.0 utf8 has.1 also.1 in
      one_token text also.0.end t u utf8 (subst (λ (c : Token). IsTokenAt text c.end t) same has.3) also.3

  pub tag_or_datatype : (t u : Token) → HasTag text string t → HasDatatype text string u → ⊥
  tag_or_datatype t u tag datatype =
      let same : t ≡ datatype.0 = one_token text string.end t datatype.0 utf8 tag.0 datatype.1 in
      tag_or_carets tag.1 (ap (λ (t : Token). t.kind) same ∙ datatype.2)

  -- no token comes next
  pub nothing_at_none : (fault : ℕ) → IsNoTokenAt text string.end fault → HasSuffix text string Nothing
  nothing_at_none fault none = (
    λ other tag. token_or_none text string.end fault other utf8 tag.0 none,
    λ other datatype. token_or_none text string.end fault datatype.0 utf8 datatype.1 none,
  )

  module _ (next : Token) (here : IsTokenAt text string.end next) where
    -- neither a tag nor carets come next
    pub nothing_at_other : next.kind ≢ LangTag → next.kind ≢ Carets → HasSuffix text string Nothing
    nothing_at_other untagged none = (
      λ other tag.
          other_next text string.end (λ k. k ≡ LangTag) next utf8 here untagged other tag.0 tag.1,
      λ other datatype.
          other_next text string.end (λ k. k ≡ Carets) next utf8 here none datatype.0 datatype.1 datatype.2,
    )

    -- carets come next, and behind them no IRI
    pub nothing_at_carets : next.kind ≡ Carets
        → ((other : Token) → IsTokenAt text next.end other → is_iri other.kind ≡ true → ⊥)
        → HasSuffix text string Nothing
    nothing_at_carets carets none = (
      λ other tag.
          other_next text string.end (λ k. k ≡ LangTag) next utf8 here (λ e. tag_or_carets e carets) other
          tag.0 tag.1,
      λ other datatype.
          let same : datatype.0 ≡ next = one_token text string.end datatype.0 next utf8 datatype.1 here in
          none other (subst (λ (t : Token). IsTokenAt text t.end other) same datatype.3) datatype.4,
    )
