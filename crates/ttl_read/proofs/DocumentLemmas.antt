-- The statements of a text, one after the other.
use Rattle.std.proofs.Common.{◌≡◌, ℕ, zero, suc, ◌≤◌, false, List, length, refl, sym, ap}
use Rattle.std.proofs.Common.{◌∙◌, ◌⊎◌, subst, inl, inr, arith, Option, Some, None, Result, Ok}
use Rattle.std.proofs.Common.{Err}
use Rattle.std.specs.Prelude.{IfErr, IsErrAnd}
use Rattle.std.specs.Str.{IsUtf8, IsValidUpTo}
use Rattle.std.proofs.lemmas.Str.{utf8_valid_len-IsValidUpTo}
use Rattle.shx_term.specs.declared.term.Scope.{Scope}
use Rattle.shx_term.specs.Pool.{Pooled}
use Rattle.ttl_tokens.specs.declared.token.Token.{Token}
use Rattle.ttl_tokens.specs.declared.token.NoToken.{NoToken}
use Rattle.ttl_tokens.specs.declared.token.TokenKind.TheVariants.{End}
use Rattle.ttl_tokens.specs.Form.{Times}
use Rattle.ttl_tokens.proofs.OneTokenLemmas.{one_token, token_or_none, same_place}
use Rattle.ttl_tokens.proofs.RestLemmas.{longest_one}
use Rattle.ttl_meaning.specs.declared.document.Document.{Document}
use Rattle.ttl_meaning.specs.declared.stated.Excess.{Excess}
use Rattle.ttl_meaning.specs.declared.stated.Excess.TheVariants.{Triples, Terms}
use Rattle.ttl_meaning.specs.declared.stated.Stated.{Stated}
use Rattle.ttl_meaning.specs.inner.DocumentOf.{IsDocumentOf}
use Rattle.ttl_meaning.specs.inner.IsReading.{IsReading}
use Rattle.ttl_meaning.specs.IsStated.{Bounds, IsWithin, terms_with}
use Rattle.ttl_meaning.specs.State.{State, first_state}
use Rattle.ttl_read.specs.declared.fault.TtlFault.{TtlFault}
use Rattle.ttl_read.specs.declared.fault.TtlFault.TheVariants.{At, Memory}
use Rattle.ttl_read.specs.declared.reader.Reader.{Reader}
use Rattle.ttl_read.specs.Documents.{Setting, IsStatement, HasCause, IsAtEnd, BeginsAt, HasBadStatement}
use Rattle.ttl_read.specs.Documents.{HasFault, Reaches}
use Rattle.ttl_read.specs.Documents.{first_byte, start_of, code_of, place_of}
use Rattle.ttl_read.specs.Grammar.{Place}
use Rattle.ttl_read.specs.inner.Reads.{Stands, IsNext, place, start_of_next}
use Rattle.ttl_read.specs.inner.Sound.{IsSound, Led, LedWrong, Concludes, Holds, IsGood, is_end_next}
use Rattle.ttl_read.specs.Stated.{States, FaultStands, HoldsRead, HoldsBefore, HoldsAllBefore}
use Rattle.ttl_read.specs.Unique.{One, IsOneFault}
use Rattle.ttl_read.proofs.KindLemmas.{kind_is_not}
use Rattle.ttl_read.proofs.UniqueLemmas.{chain, end_never}

-- ---- one statement more

times_more : (R : Place → Place → Type 0) (n : ℕ) (x y z : Place) → Times R n x y → R y z
    → Times R (suc n) x z
times_more R zero x y z e r = (z, subst (λ (u : Place). R u z) (sym e) r, refl)
times_more R (suc n) x y z s r = (s.0, s.1, times_more R n s.0 y z s.2 r)

abbrev pub Leading : Setting → Reader → Pooled → Reader → Pooled → Type 0
Leading t r p r' p' = (s : State) → IsReading t.bounds s r.reading p → Led t r p s r' p'

pub leading_on : (t : Setting) (r : Reader) (p : Pooled) (m : Reader) (q : Pooled) (r' : Reader) (p' : Pooled)
    (u : Unit {0}) → Leading t r p m q → IsSound t m q r' p' (Ok u) → Leading t r p r' p'
leading_on t r p m q r' p' u leading sound s reads =
    let here = leading s reads in
    let next = sound here.state here.reads in
    record {
      state = next.0;
      reads = next.1;
      count = suc here.count;
      statements =
          times_more (One t) here.count (place r s) (place m here.state) (place r' next.0) here.statements
          next.2;
    }

-- ---- the end, and a statement with a fault

begins_here : (text : List ℕ) (at : ℕ) (n : Result Token NoToken) → IsNext text at n
    → BeginsAt text at (start_of_next n)
begins_here text at (Ok token) here = inl (token, here, refl)
begins_here text at (Err none) here = inr here

not_at_end : (text : List ℕ) (at : ℕ) (n : Result Token NoToken) → IsUtf8 text → IsNext text at n
    → is_end_next n ≡ false → IsAtEnd text at → ⊥
not_at_end text at (Ok token) utf8 here more end =
    let same : token ≡ end.0 = one_token text at token end.0 utf8 here end.1 in
    kind_is_not End token.kind more (ap (λ (t : Token). t.kind) same ∙ end.2)
not_at_end text at (Err none) utf8 here more end = token_or_none text at none.at end.0 utf8 end.1 here

pub begins_once : (text : List ℕ) (at n m : ℕ) → IsUtf8 text → BeginsAt text at n → BeginsAt text at m → n ≡ m
begins_once text at n m utf8 (inl a) (inl b) =
    sym a.2 ∙ ap (λ (t : Token). t.start) (one_token text at a.0 b.0 utf8 a.1 b.1) ∙ b.2
begins_once text at n m utf8 (inl a) (inr b) = absurd (token_or_none text at m a.0 utf8 a.1 b)
begins_once text at n m utf8 (inr a) (inl b) = absurd (token_or_none text at n b.0 utf8 b.1 a)
begins_once text at n m utf8 (inr a) (inr b) =
    same_place text n m utf8 (omega (arith, a.within)) (omega (arith, b.within)) a.begin b.begin
    (longest_one a.behind b.behind)

-- ---- within the limits

good_behind : (t : Setting) (n : ℕ) (x y : Place) → Times (IsStatement t) n x y → IsGood t.bounds x.state
    → IsGood t.bounds y.state
good_behind t zero x y e good = subst (λ (z : Place). IsGood t.bounds z.state) e good
good_behind t (suc n) x y s good =
    good_behind t n s.0 y s.2 (record { terms = s.1.terms; triples = s.1.triples; room = s.1.room })

no_excess : (o : Option Excess) (bounds : Bounds) (s : State) (stated : Stated) (p : Pooled) → IsGood bounds s
    → IsWithin o bounds s.triples stated p → o ≡ None
no_excess None bounds s stated p good within = refl
no_excess (Some Terms) bounds s stated p good within = absurd (omega (arith, good.room, within.2))
no_excess (Some Triples) bounds s stated p good within = absurd (omega (arith, good.triples, within.1))

sound_chain : (t : Setting) (n : ℕ) (x y : Place) → Times (One t) n x y → Times (IsStatement t) n x y
sound_chain t zero x y e = e
sound_chain t (suc n) x y s = (s.0, s.1.is, sound_chain t n s.0 y s.2)

-- ---- the pool

-- where statements without fault lead, the pool holds their terms
led_terms : (t : Setting) (r : Reader) (p : Pooled) (m : Reader) (q : Pooled) (s : State)
    (here : Led t r p s m q) → IsGood t.bounds s → q.terms ≡ terms_with t.bounds here.state.triples
led_terms t r p m q s here good =
    let y = place m here.state in
    let statements = sound_chain t here.count (place r s) y here.statements in
    let behind = good_behind t here.count (place r s) y statements good in
    let within = (here.reads.keeps behind.terms).stated.within in
    let none = no_excess m.reading.stated.excess t.bounds here.state m.reading.stated q behind within in
    let all = subst (λ (e : Option Excess). IsWithin e t.bounds here.state.triples m.reading.stated q) none
    within in
    all.2

-- whatever is kept behind statements without fault, the pool holds their terms
pub holds_led : (t : Setting) (r : Reader) (p : Pooled) (m : Reader) (q : Pooled) (s : State) (p' : Pooled)
    → Leading t r p m q → p'.terms ≡ q.terms → Holds t r p s p'
holds_led t r p m q s p' leading same = λ good reads.
    let here = leading s reads in
    let statements = sound_chain t here.count (place r s) (place m here.state) here.statements in
    (place m here.state, (here.count, statements), same ∙ led_terms t r p m q s here good)

-- ... and where the next one has a fault
pub concludes_wrong : (t : Setting) (r : Reader) (p : Pooled) (m : Reader) (q : Pooled) (n : Reader)
    (o : Pooled)
    (r' : Reader) (p' : Pooled) (e : TtlFault) (result : Result (Unit {0}) TtlFault)
    → IsUtf8 t.text → p'.terms ≡ q.terms → IsErrAnd result (λ z. z ≡ e) → Leading t r p m q
    → Stands t.text m.tokens → is_end_next m.tokens.next ≡ false → IsSound t m q n o (Err e)
    → Concludes t r p r' p' result
concludes_wrong t r p m q n o r' p' e (Ok u) utf8 same is leading stands more sound = absurd is
concludes_wrong t r p m q n o r' p' e (Err (At code at)) utf8 same is leading stands more sound = λ s reads.
    let here = leading s reads in
    let fault = subst (λ (f : TtlFault). IsSound t m q n o (Err f)) (sym is) sound in
    record {
      reached = place m here.state;
      count = here.count;
      statements = here.statements;
      start = start_of_next m.tokens.next;
      begins = begins_here t.text m.tokens.place m.tokens.next stands.next;
      more = not_at_end t.text m.tokens.place m.tokens.next utf8 stands.next more;
      cause = fault here.state here.reads;
      terms = λ good. same ∙ led_terms t r p m q s here good;
    }
concludes_wrong t r p m q n o r' p' e (Err Memory) utf8 same is leading stands more sound = tt

-- at the start, where so many terms are held
first_good : (t : Setting) (scope : Scope) (base : List ℕ) {n : ℕ} → n ≡ length t.bounds.held
    → n ≤ t.bounds.terms → IsGood t.bounds (first_state scope base)
first_good t scope base count room = record {
  terms = refl;
  triples = omega arith;
  room = omega (arith, count, room);
}

pub holds_read : (t : Setting) (scope : Scope) (base : List ℕ) (r : Reader) (p p' : Pooled) {n : ℕ}
    → n ≡ length t.bounds.held → n ≤ t.bounds.terms → r.tokens.place ≡ first_byte t.text
    → IsReading t.bounds (first_state scope base) r.reading p → Holds t r p (first_state scope base) p'
    → HoldsRead t scope base p'
holds_read t scope base r p p' count room start reads holds =
    let s = first_state scope base in
    let led = holds (first_good t scope base count room) reads in
    record {
      reached = led.0;
      statements = subst (λ (n : ℕ). Reaches t (record { at = n; state = s }) led.0) start led.1;
      terms = led.2;
    }

-- where nothing was read it holds what it held
pub holds_nothing : (t : Setting) (scope : Scope) (base : List ℕ) (pool : Pooled)
    → pool.terms ≡ t.bounds.held → HoldsRead t scope base pool
holds_nothing t scope base pool same = record {
  reached = start_of t.text scope base;
  statements = (zero, refl);
  terms = same;
}

-- ---- a text

-- where statements lead to the end, they lead to no other end, and to no fault
end_only : (t : Setting) (n m : ℕ) (x y z : Place) → IsUtf8 t.text → Times (One t) n x y → IsAtEnd t.text y.at
    → Times (IsStatement t) m x z → IsAtEnd t.text z.at → y ≡ z
end_only t n m x y z utf8 r end s other = go (chain t n m x y z r s)
  where
    go : ((k : ℕ) × Times (IsStatement t) k y z) ⊎ ((w : Place) × One t z w) → y ≡ z
    go (inl (zero, e)) = e
    go (inl (suc k, more)) = absurd (end_never t y more.0 utf8 end more.1)
    go (inr one) = absurd (end_never t z one.0 utf8 other one.1.is)

end_sound : (t : Setting) (n : ℕ) (x y : Place) (code at : ℕ) → IsUtf8 t.text → Times (One t) n x y
    → IsAtEnd t.text y.at → HasBadStatement t x code at → ⊥
end_sound t n x y code at utf8 r end bad = go (chain t n bad.statements.0 x y bad.reached r bad.statements.1)
  where
    go : ((k : ℕ) × Times (IsStatement t) k y bad.reached) ⊎ ((w : Place) × One t bad.reached w) → ⊥
    go (inl (zero, e)) = bad.more (subst (λ (v : Place). IsAtEnd t.text v.at) e end)
    go (inl (suc k, more)) = end_never t y more.0 utf8 end more.1
    go (inr one) = one.1.sound bad.cause.0 bad.cause.1

-- where they lead to a fault, they lead to no other, and to no end
wrong_place : (t : Setting) (x : Place) (pool : Pooled) (code at c a : ℕ) (wrong : LedWrong t x pool code at)
    (bad : HasBadStatement t x c a) → wrong.reached ≡ bad.reached
wrong_place t x pool code at c a wrong bad =
    go (chain t wrong.count bad.statements.0 x wrong.reached bad.reached wrong.statements bad.statements.1)
  where
    go : ((k : ℕ) × Times (IsStatement t) k wrong.reached bad.reached) ⊎ ((w : Place) × One t bad.reached w)
        → wrong.reached ≡ bad.reached
    go (inl (zero, e)) = e
    go (inl (suc k, more)) = absurd (wrong.cause.1.none more.0 more.1)
    go (inr one) = absurd (one.1.sound bad.cause.0 bad.cause.1)

fault_only : (t : Setting) (x : Place) (pool : Pooled) (code at c a : ℕ) → IsUtf8 t.text
    → LedWrong t x pool code at → HasBadStatement t x c a → (code ≡ c) × (at ≡ a)
fault_only t x pool code at c a utf8 wrong bad =
    let e = wrong_place t x pool code at c a wrong bad in
    let cause : wrong.cause.0 ≡ bad.cause.0 =
    wrong.cause.1.only bad.cause.0 (subst (λ (v : Place). HasCause t v bad.cause.0) (sym e) bad.cause.1) in
    let begin : wrong.start ≡ bad.start =
    begins_once t.text wrong.reached.at wrong.start bad.start utf8 wrong.begins
    (subst (λ (v : Place). BeginsAt t.text v.at bad.start) (sym e) bad.begins) in (
      sym wrong.cause.2 ∙ ap code_of cause ∙ bad.cause.2,
      sym wrong.cause.3 ∙ ap (λ (n : ℕ). place_of n wrong.cause.0) begin ∙ ap (place_of bad.start) cause
          ∙ bad.cause.3,
    )

fault_endless : (t : Setting) (x z : Place) (pool : Pooled) (m code at : ℕ) → IsUtf8 t.text
    → LedWrong t x pool code at → Times (IsStatement t) m x z → IsAtEnd t.text z.at → ⊥
fault_endless t x z pool m code at utf8 wrong s end =
    go (chain t wrong.count m x wrong.reached z wrong.statements s)
  where
    go : ((k : ℕ) × Times (IsStatement t) k wrong.reached z) ⊎ ((w : Place) × One t z w) → ⊥
    go (inl (zero, e)) = wrong.more (subst (λ (v : Place). IsAtEnd t.text v.at) (sym e) end)
    go (inl (suc k, more)) = wrong.cause.1.none more.0 more.1
    go (inr one) = end_never t z one.0 utf8 end one.1.is

-- what is given at the end of a text is what it states
pub states_where : (t : Setting) (scope : Scope) (base : List ℕ) (r : Reader) (p : Pooled) (r' : Reader)
    (p' : Pooled) (u : Unit {0}) (document : Document) {n : ℕ}
    → n ≡ length t.bounds.held → n ≤ t.bounds.terms → IsUtf8 t.text → r.tokens.place ≡ first_byte t.text
    → IsReading t.bounds (first_state scope base) r.reading p → Concludes t r p r' p' (Ok u)
    → ((s : State) → s.fault ≡ None → r'.reading.stated.excess ≡ None → IsReading t.bounds s r'.reading p'
    → IsDocumentOf t.bounds s document p')
    → States t scope base document p'
states_where t scope base r p r' p' u document count room utf8 start reads concludes made =
    let led = concludes (first_state scope base) reads in
    let s = led.0.state in
    let end = place r' s in
    let x = start_of t.text scope base in
    let statements = subst (λ (n : ℕ).
    Times (One t) led.0.count (record {
      at = n;
      state =
          first_state scope base;
    }) end) start led.0.statements in
    let good = good_behind t led.0.count x end (sound_chain t led.0.count x end statements)
    (first_good t scope base count room) in
    let none = no_excess r'.reading.stated.excess t.bounds s r'.reading.stated p' good
    (led.0.reads.keeps good.terms).stated.within in (
      s,
      record {
        is = (utf8, (end, (led.0.count, sound_chain t led.0.count x end statements), led.1, refl));
        only = λ other is.
            ap (λ (v : Place). v.state)
            (end_only t led.0.count is.1.1.0 x end is.1.0 utf8 statements led.1 is.1.1.1 is.1.2)
            ∙ is.1.3;
        sound = λ code at fault. not_faulty code at fault utf8
            (end_sound t led.0.count x end code at utf8 statements led.1);
      },
      made s good.terms none led.0.reads,
    )
  where
    not_faulty : (code at : ℕ) → HasFault t scope base code at → IsUtf8 t.text
        → (HasBadStatement t (start_of t.text scope base) code at → ⊥) → ⊥
    not_faulty code at (inl bytes) utf8 none = bytes.1 utf8
    not_faulty code at (inr bad) utf8 none = none bad.1

-- the fault that is answered, led to from the start
wrong_at_start : (t : Setting) (scope : Scope) (base : List ℕ) (r : Reader) (p : Pooled) (r' : Reader)
    (p' : Pooled) (code at : ℕ) (e : TtlFault) → At code at ≡ e → r.tokens.place ≡ first_byte t.text
    → IsReading t.bounds (first_state scope base) r.reading p → Concludes t r p r' p' (Err e)
    → LedWrong t (start_of t.text scope base) p' code at
wrong_at_start t scope base r p r' p' code at e is start reads concludes =
    let s = first_state scope base in
    let answered = subst (λ (f : TtlFault). Concludes t r p r' p' (Err f)) (sym is) concludes in
    subst (λ (n : ℕ). LedWrong t (record { at = n; state = s }) p' code at) start (answered s reads)

-- what is answered otherwise is the fault of the text
pub fault_where : (t : Setting) (scope : Scope) (base : List ℕ) (r : Reader) (p : Pooled) (r' : Reader)
    (p' : Pooled)
    (e : TtlFault) (result : Result Document TtlFault)
    → IsErrAnd result (λ z. z ≡ e) → IsUtf8 t.text → r.tokens.place ≡ first_byte t.text
    → IsReading t.bounds (first_state scope base) r.reading p → Concludes t r p r' p' (Err e)
    → IfErr result (FaultStands t scope base)
fault_where t scope base r p r' p' e (Ok document) is utf8 start reads concludes = tt
fault_where t scope base r p r' p' e (Err (At code at)) is utf8 start reads concludes =
    let wrong = wrong_at_start t scope base r p r' p' code at e is start reads concludes in record {
      is = inr (utf8, bad_of wrong);
      only = other wrong;
      none = λ s is. fault_endless t (start_of t.text scope base) is.1.0 p' is.1.1.0 code at utf8 wrong
          is.1.1.1 is.1.2;
    }
  where
    bad_of : LedWrong t (start_of t.text scope base) p' code at
        → HasBadStatement t (start_of t.text scope base) code at
    bad_of wrong = record {
      reached = wrong.reached;
      statements = (
        wrong.count,
        sound_chain t wrong.count (start_of t.text scope base) wrong.reached wrong.statements,
      );
      start = wrong.start;
      begins = wrong.begins;
      more = wrong.more;
      cause = (wrong.cause.0, wrong.cause.1.is, wrong.cause.2, wrong.cause.3);
    }

    other : LedWrong t (start_of t.text scope base) p' code at → (c a : ℕ) → HasFault t scope base c a
        → (code ≡ c) × (at ≡ a)
    other wrong c a (inl bytes) = absurd (bytes.1 utf8)
    other wrong c a (inr bad) = fault_only t (start_of t.text scope base) p' code at c a utf8 wrong bad.1
fault_where t scope base r p r' p' e (Err Memory) is utf8 start reads concludes = tt

-- ... and the pool holds the terms of the statements before it
pub before_where : (t : Setting) (scope : Scope) (base : List ℕ) (r : Reader) (p : Pooled) (r' : Reader)
    (p' : Pooled) {n : ℕ}
    (e : TtlFault) (result : Result Document TtlFault)
    → n ≡ length t.bounds.held → n ≤ t.bounds.terms
    → IsErrAnd result (λ z. z ≡ e) → IsUtf8 t.text → r.tokens.place ≡ first_byte t.text
    → IsReading t.bounds (first_state scope base) r.reading p → Concludes t r p r' p' (Err e)
    → IfErr result (HoldsBefore t scope base p')
before_where t scope base r p r' p' e (Ok document) count room is utf8 start reads concludes = tt
before_where t scope base r p r' p' e (Err (At code at)) count room is utf8 start reads concludes =
    let wrong = wrong_at_start t scope base r p r' p' code at e is start reads concludes in record {
      bytes = λ none. absurd (none utf8);
      statements = λ _ c a bad.
          wrong.terms (first_good t scope base count room)
          ∙ ap (λ (v : Place). terms_with t.bounds v.state.triples)
          (wrong_place t (start_of t.text scope base) p' code at c a wrong bad);
    }
before_where t scope base r p r' p' e (Err Memory) count room is utf8 start reads concludes = tt

-- bytes that are not UTF-8
pub bytes_only : (t : Setting) (scope : Scope) (base : List ℕ) (at : ℕ) → (IsUtf8 t.text → ⊥)
    → IsValidUpTo t.text at → IsOneFault t scope base 1 at
bytes_only t scope base at none valid = record {
  is = inl (refl, none, valid);
  only = only;
  none = λ s is. none is.0;
}
  where
    only : (c a : ℕ) → HasFault t scope base c a → (1 ≡ c) × (at ≡ a)
    only c a (inl bytes) = (
      sym bytes.0,
      sym (utf8_valid_len-IsValidUpTo t.text at valid) ∙ utf8_valid_len-IsValidUpTo t.text a bytes.2,
    )
    only c a (inr bad) = absurd (none bad.0)

pub bytes_before : (t : Setting) (scope : Scope) (base : List ℕ) (pool : Pooled) → (IsUtf8 t.text → ⊥)
    → pool.terms ≡ t.bounds.held → HoldsAllBefore t scope base pool
bytes_before t scope base pool none same = record {
  bytes = λ _. same;
  statements = λ utf8 c a bad. absurd (none utf8);
}
