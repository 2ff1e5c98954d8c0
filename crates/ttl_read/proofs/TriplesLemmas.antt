-- Predicates with their objects, and the triples of a subject, by the token that comes next.
use Rattle.std.proofs.Common.{◌≡◌, ℕ, ◌-◌, ◌<◌, zero, suc, Bool, true, false, ◌&&◌, ◌||◌, List, refl, sym}
use Rattle.std.proofs.Common.{subst, arith, Result}
use Rattle.std.proofs.lemmas.Bool.{or_from, or_left, or_right}
use Rattle.shx_term.specs.Pool.{Pooled}
use Rattle.ttl_tokens.specs.declared.token.Token.{Token}
use Rattle.ttl_tokens.specs.declared.token.TokenKind.{TokenKind}
use Rattle.ttl_tokens.specs.declared.token.TokenKind.TheVariants.{End, Semicolon, OpenSquare, OpenRound}
use Rattle.ttl_tokens.specs.Form.{Then, Many, Maybe}
use Rattle.ttl_read.specs.declared.reader.Reader.{Reader}
use Rattle.ttl_read.specs.declared.reader.Refused.{Refused}
use Rattle.ttl_read.specs.inner.Follows.{Avoids, takes_no_token, may_begin}
use Rattle.ttl_read.specs.Grammar.{Rule, begins_verb, mark, node, collection, object, verb_objects}
use Rattle.ttl_read.specs.Grammar.{predicate_object_list, subject, subject_triples, node_triples, triples}
use Rattle.ttl_read.specs.Grammar.{is_kind}
use Rattle.ttl_read.specs.inner.Reads.{Reads, Refuses, Parses}
use Rattle.ttl_read.specs.inner.Stops.{list_goes_on, predicates_go_on, stops_nowhere, verbs_go_on}
use Rattle.ttl_read.proofs.AnswerLemmas.{left_parses, right_parses}
use Rattle.ttl_read.proofs.HereLemmas.{IsHere, here_refuses, here_stops, mark_passes}
use Rattle.ttl_read.proofs.KindLemmas.{at_kind, apart, one_more, kind_is}
use Rattle.ttl_read.proofs.ReadLemmas.{Goes, goes_on_with, goes_wrong, passes_then_reads, passes_then_refuses}

-- behind a semicolon a verb and its objects, or nothing
abbrev pub more_verbs : List ℕ → Rule → Rule
more_verbs text o = Then (mark Semicolon) (Maybe (verb_objects text o))

semicolon_other : (text : List ℕ) (o : Rule) (k : TokenKind)
    → verbs_go_on (at_kind k) && may_begin (more_verbs text o) (at_kind k) ≡ false
semicolon_other text o End = refl
semicolon_other text o k = refl

-- one test more
between : (a b c : Bool) → a || c ≡ true → a || (b || c) ≡ true
between true b c e = refl
between false b c e = or_right b c e

-- behind a verb and its objects stands a semicolon, or what may follow all of them
pub semicolons_avoid : (text : List ℕ) (o h : Rule) → Avoids predicates_go_on h
    → Avoids verbs_go_on (Then (Many (more_verbs text o)) h)
semicolons_avoid text o h free = record {
  some = free.some;
  other = λ t e. or_from _ _ (apart _ _ (semicolon_other text o t.kind) e)
      (free.other t (between (list_goes_on t) _ (begins_verb t.kind) e));
}

-- ... and begins with a semicolon
pub no_semicolon : (text : List ℕ) (o : Rule) (t : Token) → is_kind Semicolon t.kind ≡ false
    → may_begin (more_verbs text o) t ≡ false
no_semicolon text o t e = or_from _ _ e refl

-- a semicolon goes on
semicolon_goes_on : (t : Token) → is_kind Semicolon t.kind ≡ true → predicates_go_on t ≡ true
semicolon_goes_on t e =
    or_right (list_goes_on t) (is_kind Semicolon t.kind || begins_verb t.kind)
    (or_left (is_kind Semicolon t.kind) (begins_verb t.kind) e)

-- a semicolon is here, and what may stand behind it
pub more_predicates : {text : List ℕ} {f o : Rule} {r m r' : Reader} {p q p' : Pooled} {t : Token}
    (n : Reader) → IsHere text m t → is_kind Semicolon t.kind ≡ true → n.reading ≡ m.reading
    → n.tokens.place ≡ t.end
    → Goes text f (more_verbs text o) predicates_go_on r p m q
    → Reads text (Maybe (verb_objects text o)) verbs_go_on n q r' p'
    → Goes text f (more_verbs text o) predicates_go_on r p r' p'
more_predicates {text = text} {o = o} {q = q} {t = t} n here semicolon same behind goes a =
    goes_on_with (semicolons_avoid text o) (here_stops predicates_go_on here (semicolon_goes_on t semicolon))
    goes (passes_then_reads (mark_passes Semicolon n q here semicolon same behind) a)

-- ... or not
pub no_more_predicates : {text : List ℕ} {f o : Rule} {r m : Reader} {p q : Pooled} {t : Token} (n : Reader)
    → IsHere text m t → is_kind Semicolon t.kind ≡ true → n.reading ≡ m.reading → n.tokens.place ≡ t.end
    → Goes text f (more_verbs text o) predicates_go_on r p m q
    → Refuses text (Maybe (verb_objects text o)) verbs_go_on n q → Refuses text f predicates_go_on r p
no_more_predicates {text = text} {o = o} {q = q} {t = t} n here semicolon same behind goes none =
    goes_wrong (semicolons_avoid text o) (here_stops predicates_go_on here (semicolon_goes_on t semicolon))
    goes (passes_then_refuses (mark_passes Semicolon n q here semicolon same behind) none)

verb_other : (text : List ℕ) (o : Rule) (k : TokenKind) → begins_verb k ≡ false
    → may_begin (verb_objects text o) (at_kind k) ≡ false
verb_other text o End e = refl
verb_other text o k e = e

-- a verb and its objects begin with a verb
pub no_verb : (text : List ℕ) (o : Rule) (t : Token) → begins_verb t.kind ≡ false
    → may_begin (verb_objects text o) t ≡ false
no_verb text o t e = verb_other text o t.kind e

-- predicates with their objects begin with a verb
pub no_verb_list : (text : List ℕ) (o : Rule) (t : Token) → begins_verb t.kind ≡ false
    → may_begin (predicate_object_list text o) t ≡ false
no_verb_list text o t e = or_from _ _ (no_verb text o t e) refl

-- a verb goes on
pub verb_goes_on : (t : Token) → begins_verb t.kind ≡ true → predicates_go_on t ≡ true
verb_goes_on t e =
    or_right (list_goes_on t) (is_kind Semicolon t.kind || begins_verb t.kind)
    (or_right (is_kind Semicolon t.kind) (begins_verb t.kind) e)

-- what goes on with a list of objects goes on behind a semicolon too
pub fewer_verbs : (t : Token) → list_goes_on t ≡ true → verbs_go_on t ≡ true
fewer_verbs t e = or_left (list_goes_on t) (begins_verb t.kind) e

-- ---- subjects

-- a subject that is a collection
pub collection_subject : {text : List ℕ} {r : Reader} {t : Token} (depth : ℕ) → 0 < depth
    → IsHere text r t → is_kind OpenRound t.kind ≡ true → (p : Pooled) (r' : Reader) (p' : Pooled)
    (result : Result (Unit {0}) Refused)
    → Parses text (collection (object text (depth - 1))) stops_nowhere r p r' p' result
    → Parses text (subject text depth) stops_nowhere r p r' p' result
collection_subject {text = text} {r = r} {t = t} depth some here bracket p r' p' result a =
    let round = kind_is OpenRound t.kind bracket in
    subst (λ d. Parses text (subject text d) stops_nowhere r p r' p' result) (sym (one_more depth some))
    (right_parses (here_refuses (node text) p stops_nowhere here refl (rw round refl)) _ r' p' result a)

-- ... or none
pub node_subject : {text : List ℕ} {r : Reader} {t : Token} (depth : ℕ) → IsHere text r t
    → (0 < depth → is_kind OpenRound t.kind ≡ false) → (p : Pooled) (r' : Reader) (p' : Pooled)
    (result : Result (Unit {0}) Refused)
    → Parses text (node text) stops_nowhere r p r' p' result
    → Parses text (subject text depth) stops_nowhere r p r' p' result
node_subject zero here other p r' p' result a = a
node_subject {text = text} (suc depth) here other p r' p' result a =
    left_parses (here_refuses (collection (object text depth)) p stops_nowhere here refl
    (or_from _ _ (other (omega arith)) refl)) _ r' p' result a

-- ---- triples

-- triples of a list of properties
pub triples_of_node : {text : List ℕ} {r : Reader} {t : Token} (depth : ℕ) → 0 < depth
    → IsHere text r t → is_kind OpenSquare t.kind ≡ true → (p : Pooled) (r' : Reader) (p' : Pooled)
    (result : Result (Unit {0}) Refused)
    → Parses text (node_triples text (depth - 1)) predicates_go_on r p r' p' result
    → Parses text (triples text depth) predicates_go_on r p r' p' result
triples_of_node {text = text} {r = r} {t = t} depth some here bracket p r' p' result a =
    let square = kind_is OpenSquare t.kind bracket in
    subst (λ d. Parses text (triples text d) predicates_go_on r p r' p' result) (sym (one_more depth some))
    (right_parses (here_refuses (subject_triples text (suc (depth - 1))) p predicates_go_on here refl
    (rw square refl)) _ r' p' result a)

-- ... and of a subject
pub triples_of_subject : {text : List ℕ} {r : Reader} {t : Token} (depth : ℕ)
    → IsHere text r t → (0 < depth → is_kind OpenSquare t.kind ≡ false) → (p : Pooled) (r' : Reader)
    (p' : Pooled) (result : Result (Unit {0}) Refused)
    → Parses text (subject_triples text depth) predicates_go_on r p r' p' result
    → Parses text (triples text depth) predicates_go_on r p r' p' result
triples_of_subject zero here other p r' p' result a = a
triples_of_subject {text = text} (suc depth) here other p r' p' result a =
    left_parses (here_refuses (node_triples text depth) p predicates_go_on here refl
    (or_from _ _ (or_from _ _ (other (omega arith)) refl) refl)) _ r' p' result a

-- triples take a token
pub triples_take : (text : List ℕ) (depth : ℕ) → takes_no_token (triples text depth) ≡ false
triples_take text zero = refl
triples_take text (suc depth) = refl
