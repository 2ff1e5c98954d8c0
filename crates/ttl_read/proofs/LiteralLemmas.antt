-- What follows a string: its tag, its datatype or neither.
use Rattle.std.proofs.Common.{◌≡◌, ℕ, true, false, List, refl, Result, Err}
use Rattle.std.specs.Str.{IsUtf8}
use Rattle.shx_term.specs.Pool.{Pooled}
use Rattle.ttl_tokens.specs.declared.token.Token.{Token}
use Rattle.ttl_tokens.specs.declared.token.NoToken.{NoToken}
use Rattle.ttl_tokens.specs.Form.{Then}
use Rattle.ttl_meaning.specs.declared.iris.IriRole.TheVariants.{Datatype}
use Rattle.ttl_meaning.specs.inner.IsReading.{Does}
use Rattle.ttl_meaning.specs.Items.{on_tag, plain_string}
use Rattle.ttl_read.specs.declared.reader.Reader.{Reader}
use Rattle.ttl_read.specs.declared.reader.Refused.{Refused}
use Rattle.ttl_tokens.specs.declared.token.TokenKind.TheVariants.{LangTag, Carets}
use Rattle.ttl_read.specs.Grammar.{Rule, mark, token, iri, string_end, is_kind}
use Rattle.ttl_read.specs.inner.Reads.{Stands, ParsesAlone, Reads, Parses}
use Rattle.ttl_read.specs.inner.Stops.{goes_on}
use Rattle.ttl_read.proofs.AnswerLemmas.{then_alone, alone_parses, left_parses, right_parses}
use Rattle.ttl_read.proofs.HereLemmas.{IsHere, token_passes, mark_passes}
use Rattle.ttl_read.proofs.HereLemmas.{here_refuses, here_stops, none_nowhere}
use Rattle.ttl_read.proofs.KindLemmas.{kind_is}
use Rattle.ttl_read.proofs.PassLemmas.{do_passes, passes_reads, nowhere_refuses}
use Rattle.ttl_read.proofs.ReadLemmas.{left_reads, right_reads, or_refuses, do_refuses}

abbrev datatype : List ℕ → Rule
datatype text = Then (mark Carets) (iri text Datatype)

-- its tag was passed
pub tag_ends : {text : List ℕ} {r r' : Reader} {p p' : Pooled} {t : Token} → IsHere text r t
    → is_kind LangTag t.kind ≡ true → Does (on_tag text t) r.reading p r'.reading p' → r'.tokens.place ≡ t.end
    → Reads text (string_end text) goes_on r p r' p'
tag_ends {text = text} {p = p} {t = t} here tag does behind =
    let is = kind_is LangTag t.kind tag in
    left_reads (passes_reads (token_passes LangTag (on_tag text) here tag does behind))
    (or_refuses (here_refuses (datatype text) p goes_on here refl (rw is refl))
    (do_refuses (here_stops goes_on here (rw is refl))))

-- carets were passed, and the answer is on its datatype
pub datatype_ends : {text : List ℕ} {r : Reader} {t : Token} → IsHere text r t → is_kind Carets t.kind ≡ true
    → (m : Reader) → m.reading ≡ r.reading → m.tokens.place ≡ t.end → (p : Pooled) (r' : Reader) (p' : Pooled)
    (result : Result (Unit {0}) Refused) → ParsesAlone text (iri text Datatype) m p r' p' result
    → Parses text (string_end text) goes_on r p r' p' result
datatype_ends {text = text} {r = r} {t = t} here carets m same behind p r' p' result a =
    let is = kind_is Carets t.kind carets in
    right_parses (here_refuses (token LangTag (on_tag text)) p goes_on here refl (rw is refl))
    _ r' p' result
    (left_parses (do_refuses (here_stops goes_on here (rw is refl))) _ r' p' result
    (alone_parses text (datatype text) goes_on r p r' p' result
    (then_alone (mark_passes Carets m p here carets same behind) _ r' p' result a)))

-- another token is next
pub plain_ends : {text : List ℕ} {r r' : Reader} {p p' : Pooled} {t : Token} → IsHere text r t
    → is_kind LangTag t.kind ≡ false → is_kind Carets t.kind ≡ false
    → Does plain_string r.reading p r'.reading p' → r'.tokens ≡ r.tokens
    → Reads text (string_end text) goes_on r p r' p'
plain_ends {text = text} {r = r} {r' = r'} {p = p} {p' = p'} here tag carets does same =
    right_reads (here_refuses (token LangTag (on_tag text)) p goes_on here refl tag)
    (right_reads (here_refuses (datatype text) p goes_on here refl (rw carets refl))
    (passes_reads (do_passes text plain_string r p r' p' does same)))

-- no token is next
pub plain_at_none : (text : List ℕ) (n : NoToken) (r : Reader) (p : Pooled) (r' : Reader) (p' : Pooled)
    → IsUtf8 text → Stands text r.tokens → r.tokens.next ≡ Err n → Does plain_string r.reading p r'.reading p'
    → r'.tokens ≡ r.tokens → Reads text (string_end text) goes_on r p r' p'
plain_at_none text n r p r' p' utf8 stands next does same =
    let tag = none_nowhere text (token LangTag (on_tag text)) n r p utf8 stands next refl in
    let carets = none_nowhere text (datatype text) n r p utf8 stands next refl in
    right_reads (nowhere_refuses tag)
    (right_reads (nowhere_refuses carets) (passes_reads (do_passes text plain_string r p r' p' does same)))
