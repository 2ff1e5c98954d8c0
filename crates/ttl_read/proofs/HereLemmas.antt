-- Laws of the next token: what passes it, and what is not here.
use Rattle.std.proofs.Common.{◌≡◌, ◌<◌, ◌≤◌, ℕ, Bool, true, false, List, refl, sym, ap, ◌∙◌, subst}
use Rattle.std.proofs.Common.{true≢false, Result, Ok, Err, Option, Some, None, if◌then◌else◌, arith}
use Rattle.std.specs.Prelude.{is_some}
use Rattle.std.specs.Str.{IsUtf8}
use Rattle.shx_term.specs.Pool.{Pooled}
use Rattle.ttl_tokens.specs.declared.token.Token.{Token}
use Rattle.ttl_tokens.specs.declared.token.NoToken.{NoToken}
use Rattle.ttl_tokens.specs.declared.token.TokenKind.{TokenKind}
use Rattle.ttl_tokens.specs.declared.token.TokenKind.TheVariants.{End}
use Rattle.ttl_tokens.specs.Form.{Item}
use Rattle.ttl_tokens.specs.Tokens.{IsTokenAt}
use Rattle.ttl_tokens.specs.Walks.{Only}
use Rattle.ttl_tokens.proofs.OneTokenLemmas.{some_token}
use Rattle.ttl_meaning.specs.declared.reader_state.ReaderState.{ReaderState}
use Rattle.ttl_meaning.specs.inner.IsReading.{IsReading, Does}
use Rattle.ttl_meaning.specs.State.{State}
use Rattle.ttl_read.specs.declared.reader.Reader.{Reader}
use Rattle.ttl_read.specs.declared.reader.Tokens.{Tokens}
use Rattle.ttl_read.specs.inner.Follows.{takes_no_token, may_begin}
use Rattle.ttl_read.specs.Grammar.{Rule, StepsTo, One, is_kind, one_of, token, sign, mark}
use Rattle.ttl_read.specs.inner.Reads.{Stands, Advances, IsNext, Passes, IsNowhere, Refuses, place, next_if}
use Rattle.ttl_read.proofs.PassLemmas.{nowhere_refuses}
use Rattle.ttl_read.proofs.ReadLemmas.{NoFollower}
use Rattle.ttl_read.proofs.StepLemmas.{one_only, never_here, never_at_none}

-- ---- the token that comes next

-- this one comes next
pub record IsHere (text : List ℕ) (r : Reader) (t : Token) : Type 0 where
  pub utf8 : IsUtf8 text
  pub stands : Stands text r.tokens
  pub next : r.tokens.next ≡ Ok t

-- ... by what a reader knows where it stands
pub is_here : (r : Reader) {text : List ℕ} {t : Token} → IsUtf8 text → Stands text r.tokens
    → r.tokens.next ≡ Ok t → IsHere text r t
is_here r utf8 stands next = record { utf8 = utf8; stands = stands; next = next }

-- it stands in the text at the reader's place
token_here : {text : List ℕ} {r : Reader} {t : Token} → IsHere text r t → IsTokenAt text r.tokens.place t
token_here {text = text} {r = r} h =
    subst (λ (n : Result Token NoToken). IsNext text r.tokens.place n) h.next h.stands.next

-- an item that takes it is passed, and done
pub item_passes : {text : List ℕ} {r r' : Reader} {p p' : Pooled} {t : Token} (test : Token → Bool)
    (act : Token → State → State) → IsHere text r t → test t ≡ true → Does (act t) r.reading p r'.reading p'
    → r'.tokens.place ≡ t.end → Passes text (Item (One test act)) r p r' p'
item_passes {text = text} {r = r} {t = t} test act h holds does behind = record {
  on = λ bounds s reads. (
    act t s,
    does bounds s reads,
    subst (λ (n : ℕ). Only (StepsTo text) (Item (One test act)) (place r s)
        (record { at = n; state = act t s }))
        (sym behind) (one_only text test act (place r s) t h.utf8 (token_here h) holds),
  );
}

-- ... by its group
pub group_passes : {text : List ℕ} {r r' : Reader} {p p' : Pooled} {t : Token} (group : TokenKind → Bool)
    (act : Token → State → State) → IsHere text r t → group t.kind ≡ true
    → Does (act t) r.reading p r'.reading p' → r'.tokens.place ≡ t.end
    → Passes text (one_of group act) r p r' p'
group_passes group act h holds does behind = item_passes (λ u. group u.kind) act h holds does behind

-- ... by its kind
pub token_passes : {text : List ℕ} {r r' : Reader} {p p' : Pooled} {t : Token} (kind : TokenKind)
    (act : Token → State → State) → IsHere text r t → is_kind kind t.kind ≡ true
    → Does (act t) r.reading p r'.reading p' → r'.tokens.place ≡ t.end
    → Passes text (token kind act) r p r' p'
token_passes kind act h holds does behind = group_passes (is_kind kind) act h holds does behind

-- ... whatever it says
pub sign_passes : {text : List ℕ} {r r' : Reader} {p p' : Pooled} {t : Token} (kind : TokenKind)
    (act : State → State) → IsHere text r t → is_kind kind t.kind ≡ true → Does act r.reading p r'.reading p'
    → r'.tokens.place ≡ t.end → Passes text (sign kind act) r p r' p'
sign_passes kind act h holds does behind = token_passes kind (λ u. act) h holds does behind

-- what is read stays as it is
pub keeps_reading : (r m : Reader) (p : Pooled) → m.reading ≡ r.reading
    → Does (λ s. s) r.reading p m.reading p
keeps_reading r m p same = λ bounds s reads.
    subst (λ (x : ReaderState). IsReading bounds s x p) (sym same) reads

-- ... where nothing is done
pub mark_passes : {text : List ℕ} {r : Reader} {t : Token} (kind : TokenKind) (r' : Reader) (p : Pooled)
    → IsHere text r t → is_kind kind t.kind ≡ true → r'.reading ≡ r.reading → r'.tokens.place ≡ t.end
    → Passes text (mark kind) r p r' p
mark_passes {r = r} kind r' p h holds same behind =
    sign_passes kind (λ s. s) h holds (keeps_reading r r' p same) behind

-- a form that begins otherwise is nowhere
pub here_nowhere : {text : List ℕ} {r : Reader} {t : Token} (f : Rule) (p : Pooled) → IsHere text r t
    → takes_no_token f ≡ false → may_begin f t ≡ false → IsNowhere text f r p
here_nowhere {text = text} {r = r} {t = t} f p h some other = record {
  none = λ bounds s reads. never_here text f (place r s) t h.utf8 some other (token_here h);
}

-- ... whatever may follow
pub here_refuses : {text : List ℕ} {r : Reader} {t : Token} (f : Rule) (p : Pooled) (stop : Token → Bool)
    → IsHere text r t → takes_no_token f ≡ false → may_begin f t ≡ false → Refuses text f stop r p
here_refuses f p stop h some other = nowhere_refuses (here_nowhere f p h some other)

-- nothing that may follow is here, where this token goes on
pub here_stops : {text : List ℕ} {r : Reader} {t : Token} (stop : Token → Bool) → IsHere text r t
    → stop t ≡ true → NoFollower text stop r
here_stops {text = text} {r = r} {t = t} stop h on = record {
  none = λ s f avoids.
      never_here text f (place r s) t h.utf8 avoids.some (avoids.other t on) (token_here h);
}

-- past it, where it is not the end, the reader is further on
pub pass_advances : {text : List ℕ} {r : Reader} {t : Token} (test : TokenKind → Bool) (after : Tokens)
    → IsHere text r t → test t.kind ≡ true → test End ≡ false → Stands text after → after.place ≡ t.end
    → Advances text r.tokens after
pass_advances {text = text} {r = r} {t = t} test after h holds apart stands place =
    let here : IsTokenAt text r.tokens.place t = token_here h in
    let some : t.start < t.end =
    some_token text r.tokens.place t here (λ e. true≢false (sym holds ∙ ap test e ∙ apart)) in
    record { stands = stands; further = omega (arith, here.from, some, place) }

-- ... and further on from there
pub advances_then : {text : List ℕ} {a b c : Tokens} → Advances text a b → Advances text b c
    → Advances text a c
advances_then s t = record { stands = t.stands; further = omega (arith, s.further, t.further) }

-- ... or at least no further back
pub advances_on : {text : List ℕ} {a b : Tokens} (c : Tokens) → Advances text a b → Stands text c
    → b.place ≤ c.place → Advances text a c
advances_on c s stands on = record { stands = stands; further = omega (arith, s.further, on) }

-- ---- no token comes next

-- no form is here
pub none_nowhere : (text : List ℕ) (f : Rule) (n : NoToken) (r : Reader) (p : Pooled)
    → IsUtf8 text → Stands text r.tokens → r.tokens.next ≡ Err n → takes_no_token f ≡ false
    → IsNowhere text f r p
none_nowhere text f n r p utf8 stands next some = record {
  none = λ bounds s reads.
      never_at_none text f (place r s) n.at utf8 some
      (subst (λ (n : Result Token NoToken). IsNext text r.tokens.place n) next stands.next);
}

-- ... nor anything that may follow
pub none_stops : (text : List ℕ) (stop : Token → Bool) (n : NoToken) (r : Reader) → IsUtf8 text
    → Stands text r.tokens → r.tokens.next ≡ Err n → NoFollower text stop r
none_stops text stop n r utf8 stands next = record {
  none = λ s h avoids.
      never_at_none text h (place r s) n.at utf8 avoids.some
      (subst (λ (n : Result Token NoToken). IsNext text r.tokens.place n) next stands.next);
}

-- ---- a token that is looked for

-- a token that is chosen by a test, or is not
picked : (b : Bool) (t u : Token) → (if b then Some u else None) ≡ Some t → (u ≡ t) × (b ≡ true)
picked true t u e = (cc, refl)
picked false t u e = absurd (cc)

unpicked : (b : Bool) (u : Token) → (if b then Some u else None) ≡ None → b ≡ false
unpicked true u e = absurd (cc)
unpicked false u e = refl

-- the token that is found comes next, and is such
pub next_is : (test : TokenKind → Bool) (n : Result Token NoToken) (t : Token) → next_if test n ≡ Some t
    → (n ≡ Ok t) × (test t.kind ≡ true)
next_is test (Err none) t e = absurd (cc)
next_is test (Ok u) t e =
    let is = picked (test u.kind) t u e in
    (ap Ok is.0, sym (ap (λ (v : Token). test v.kind) is.0) ∙ is.1)

-- ... where a reader stands
pub found_here : {text : List ℕ} (r : Reader) (test : TokenKind → Bool) (t : Token) → IsUtf8 text
    → Stands text r.tokens → next_if test r.tokens.next ≡ Some t → IsHere text r t × (test t.kind ≡ true)
found_here r test t utf8 stands e =
    let is = next_is test r.tokens.next t e in
    (is_here r utf8 stands is.0, is.1)

-- what begins otherwise than with such a token is here, or nothing
pub no_follower_unless : (text : List ℕ) (test : TokenKind → Bool) (stop : Token → Bool) (r : Reader)
    → IsUtf8 text → Stands text r.tokens → ((t : Token) → test t.kind ≡ false → stop t ≡ true)
    → next_if test r.tokens.next ≡ None → NoFollower text stop r
no_follower_unless text test stop r utf8 stands on none = go r.tokens.next refl none
  where
    go : (n : Result Token NoToken) → r.tokens.next ≡ n → next_if test n ≡ None → NoFollower text stop r
    go (Err n) is none = none_stops text stop n r utf8 stands is
    go (Ok t) is none = here_stops stop (is_here r utf8 stands is) (on t (unpicked (test t.kind) t none))

-- a form that begins with such a token alone is not here
pub nowhere_unless : (text : List ℕ) (test : TokenKind → Bool) (f : Rule) (r : Reader) (p : Pooled)
    → IsUtf8 text → Stands text r.tokens → takes_no_token f ≡ false
    → ((t : Token) → test t.kind ≡ false → may_begin f t ≡ false) → next_if test r.tokens.next ≡ None
    → IsNowhere text f r p
nowhere_unless text test f r p utf8 stands some other none = go r.tokens.next refl none
  where
    go : (n : Result Token NoToken) → r.tokens.next ≡ n → next_if test n ≡ None → IsNowhere text f r p
    go (Err n) is none = none_nowhere text f n r p utf8 stands is some
    go (Ok t) is none =
        here_nowhere f p (is_here r utf8 stands is) some (other t (unpicked (test t.kind) t none))

-- ... whatever may follow
pub refuses_unless : (text : List ℕ) (test : TokenKind → Bool) (f : Rule) (stop : Token → Bool) (r : Reader)
    (p : Pooled) → IsUtf8 text → Stands text r.tokens → takes_no_token f ≡ false
    → ((t : Token) → test t.kind ≡ false → may_begin f t ≡ false) → next_if test r.tokens.next ≡ None
    → Refuses text f stop r p
refuses_unless text test f stop r p utf8 stands some other none =
    nowhere_refuses (nowhere_unless text test f r p utf8 stands some other none)

-- whether a token was found
pub found : (o : Option Token) → is_some o ≡ true → (t : Token) × (o ≡ Some t)
found None e = absurd (cc)
found (Some t) e = (t, refl)

pub not_found : (o : Option Token) → is_some o ≡ false → o ≡ None
not_found None e = refl
not_found (Some t) e = absurd (cc)
