-- Objects, by the token that comes next, and lists of them.
use Rattle.std.proofs.Common.{◌≡◌, ℕ, ◌-◌, ◌<◌, zero, suc, Bool, true, false, ◌&&◌, List, refl, sym, subst}
use Rattle.std.proofs.Common.{true≢false, Result}
use Rattle.std.proofs.lemmas.Bool.{or_from, or_left, or_right}
use Rattle.shx_term.specs.Pool.{Pooled}
use Rattle.ttl_tokens.specs.declared.token.Token.{Token}
use Rattle.ttl_tokens.specs.declared.token.TokenKind.{TokenKind}
use Rattle.ttl_tokens.specs.declared.token.TokenKind.TheVariants.{End, Comma, OpenSquare, OpenRound}
use Rattle.ttl_tokens.specs.Form.{Then, Or, Many}
use Rattle.ttl_read.specs.declared.reader.Reader.{Reader}
use Rattle.ttl_read.specs.declared.reader.Refused.{Refused}
use Rattle.ttl_read.specs.inner.Follows.{Avoids, may_begin}
use Rattle.ttl_read.specs.Grammar.{Rule, mark, object, plain_object, collection, property_list, is_kind}
use Rattle.ttl_read.specs.inner.Reads.{Reads, Refuses, Parses}
use Rattle.ttl_read.specs.inner.Stops.{goes_on, stops_nowhere, list_goes_on}
use Rattle.ttl_read.proofs.AnswerLemmas.{handed_on, left_parses, right_parses}
use Rattle.ttl_read.proofs.HereLemmas.{IsHere, here_refuses, here_stops, mark_passes}
use Rattle.ttl_read.proofs.KindLemmas.{at_kind, apart, one_more, kind_is}
use Rattle.ttl_read.proofs.ReadLemmas.{Goes, goes_on_with, goes_wrong, passes_then_reads, passes_then_refuses}
use Rattle.ttl_read.proofs.ReadLemmas.{reads_before, refuses_before}

-- what nothing goes on with, whatever would go on
never_stops : (stop : Token → Bool) (t : Token) → stops_nowhere t ≡ true → stop t ≡ true
never_stops stop t e = absurd (true≢false (sym e))

-- ---- an object that is a collection, a property list or neither

-- a bracket where none may open
pub no_bracket : {text : List ℕ} {r : Reader} {t : Token} (depth : ℕ) (p : Pooled) → IsHere text r t
    → may_begin (plain_object text) t ≡ false → depth ≡ 0 → Refuses text (object text depth) goes_on r p
unfolding object
no_bracket {text = text} {r = r} depth p here other none =
    subst (λ d. Refuses text (object text d) goes_on r p) (sym none)
    (here_refuses (plain_object text) p goes_on here refl other)

-- a collection
pub collection_object : {text : List ℕ} {r : Reader} {t : Token} (depth : ℕ) → 0 < depth
    → IsHere text r t → is_kind OpenRound t.kind ≡ true → (p : Pooled) (r' : Reader) (p' : Pooled)
    (result : Result (Unit {0}) Refused)
    → Parses text (collection (object text (depth - 1))) stops_nowhere r p r' p' result
    → Parses text (object text depth) goes_on r p r' p' result
unfolding object
collection_object {text = text} {r = r} {t = t} depth some here bracket p r' p' result a =
    let o = object text (depth - 1) in
    let round = kind_is OpenRound t.kind bracket in
    subst (λ d. Parses text (object text d) goes_on r p r' p' result) (sym (one_more depth some))
    (right_parses (here_refuses (plain_object text) p goes_on here refl (rw round refl)) _ r' p' result
    (left_parses (here_refuses (property_list text o) p goes_on here refl (rw round refl)) _ r' p' result
    (handed_on result a (λ a. reads_before (never_stops goes_on) a)
    (λ n. refuses_before (never_stops goes_on) n))))

-- a list of properties
pub property_list_object : {text : List ℕ} {r : Reader} {t : Token} (depth : ℕ) → 0 < depth
    → IsHere text r t → is_kind OpenSquare t.kind ≡ true → (p : Pooled) (r' : Reader) (p' : Pooled)
    (result : Result (Unit {0}) Refused)
    → Parses text (property_list text (object text (depth - 1))) stops_nowhere r p r' p' result
    → Parses text (object text depth) goes_on r p r' p' result
unfolding object
property_list_object {text = text} {r = r} {t = t} depth some here bracket p r' p' result a =
    let o = object text (depth - 1) in
    let square = kind_is OpenSquare t.kind bracket in
    subst (λ d. Parses text (object text d) goes_on r p r' p' result) (sym (one_more depth some))
    (right_parses (here_refuses (plain_object text) p goes_on here refl (rw square refl)) _ r' p' result
    (right_parses (here_refuses (collection o) p goes_on here refl (rw square refl)) _ r' p' result
    (handed_on result a (λ a. reads_before (never_stops goes_on) a)
    (λ n. refuses_before (never_stops goes_on) n))))

-- none of both
pub other_object : {text : List ℕ} {r : Reader} {t : Token} (depth : ℕ) → IsHere text r t
    → is_kind OpenRound t.kind ≡ false → is_kind OpenSquare t.kind ≡ false → (p : Pooled) (r' : Reader)
    (p' : Pooled) (result : Result (Unit {0}) Refused)
    → Parses text (plain_object text) goes_on r p r' p' result
    → Parses text (object text depth) goes_on r p r' p' result
unfolding object
other_object zero here round square p r' p' result a = a
other_object {text = text} {t = t} (suc depth) here round square p r' p' result a =
    let o = object text depth in
    left_parses (here_refuses (Or (collection o) (property_list text o)) p goes_on here refl
    (rw (round, square) refl)) _ r' p' result a

-- ---- lists of objects

comma_other : (o : Rule) (k : TokenKind)
    → goes_on (at_kind k) && may_begin (Then (mark Comma) o) (at_kind k) ≡ false
comma_other o End = refl
comma_other o k = refl

-- behind an object stands a comma, or what may follow the list
pub commas_avoid : (o h : Rule) → Avoids list_goes_on h
    → Avoids goes_on (Then (Many (Then (mark Comma) o)) h)
commas_avoid o h free = record {
  some = free.some;
  other = λ t e. or_from _ _ (apart _ _ (comma_other o t.kind) e) (free.other t (or_left _ _ e));
}

-- another object stands behind a comma
pub no_comma : (o : Rule) (t : Token) → is_kind Comma t.kind ≡ false
    → may_begin (Then (mark Comma) o) t ≡ false
no_comma o t e = or_from _ _ e refl

-- a comma is here, and an object behind it
pub another_object : {text : List ℕ} {f o : Rule} {r m r' : Reader} {p q p' : Pooled} {t : Token} (n : Reader)
    → IsHere text m t → is_kind Comma t.kind ≡ true → n.reading ≡ m.reading → n.tokens.place ≡ t.end
    → Goes text f (Then (mark Comma) o) list_goes_on r p m q → Reads text o goes_on n q r' p'
    → Goes text f (Then (mark Comma) o) list_goes_on r p r' p'
another_object {o = o} {q = q} {t = t} n here comma same behind goes a =
    goes_on_with (commas_avoid o)
    (here_stops list_goes_on here (or_right (goes_on t) (is_kind Comma t.kind) comma)) goes
    (passes_then_reads (mark_passes Comma n q here comma same behind) a)

-- ... or none
pub no_other_object : {text : List ℕ} {f o : Rule} {r m : Reader} {p q : Pooled} {t : Token} (n : Reader)
    → IsHere text m t → is_kind Comma t.kind ≡ true → n.reading ≡ m.reading → n.tokens.place ≡ t.end
    → Goes text f (Then (mark Comma) o) list_goes_on r p m q → Refuses text o goes_on n q
    → Refuses text f list_goes_on r p
no_other_object {o = o} {q = q} {t = t} n here comma same behind goes none =
    goes_wrong (commas_avoid o)
    (here_stops list_goes_on here (or_right (goes_on t) (is_kind Comma t.kind) comma)) goes
    (passes_then_refuses (mark_passes Comma n q here comma same behind) none)
