-- A statement has one meaning or one fault, and so has a text.
use Rattle.std.proofs.Common.{◌≡◌, ℕ, zero, suc, ◌≤◌, ◌<◌, ◌⊎◌, Bool, true, false, ◌&&◌, List, [], ◌∷◌}
use Rattle.std.proofs.Common.{length}
use Rattle.std.proofs.Common.{if◌then◌else◌, refl, sym, ap, ◌∙◌, subst, inl, inr, arith}
use Rattle.std.proofs.Common.{Option, Some, None}
use Rattle.std.specs.Prelude.{nat_le, nat_lt}
use Rattle.std.specs.Str.{IsUtf8}
use Rattle.std.proofs.lemmas.Bool.Decides.{nat_tests}
use Rattle.std.proofs.lemmas.Option.{same_Some}
use Rattle.ttl_tokens.specs.declared.token.Token.{Token}
use Rattle.ttl_tokens.specs.declared.token.TokenKind.TheVariants.{End}
use Rattle.ttl_tokens.specs.Form.{Times}
use Rattle.ttl_tokens.proofs.OneTokenLemmas.{one_token}
use Rattle.ttl_meaning.specs.declared.fault.TermFault.{TermFault}
use Rattle.ttl_meaning.specs.IsStated.{Bounds, terms_with}
use Rattle.ttl_meaning.specs.State.{State}
use Rattle.ttl_read.specs.Depth.{IsRun, IsTooDeep, first_too_many, first_too_deep, is_open, open_behind}
use Rattle.ttl_read.specs.Documents.{Setting, IsStatement, Cause, HasCause, TooDeep, NoStatement, BadTerm}
use Rattle.ttl_read.specs.Documents.{TooManyTriples, TooManyTerms, IsAtEnd}
use Rattle.ttl_read.specs.inner.Follows.{takes_no_token, may_begin}
use Rattle.ttl_read.specs.Grammar.{Place, statement}
use Rattle.ttl_read.specs.Unique.{Settled, One, OneCause}
use Rattle.ttl_read.proofs.DepthLemmas.{too_deep_from}
use Rattle.ttl_read.proofs.StepLemmas.{never_here}

-- ---- one bracket is the first

first_same : (text : List ℕ) (limit p q : ℕ) → IsUtf8 text → (at n : ℕ) (ts us : List Token)
    → IsRun text at ts
    → IsRun text at us → first_too_many limit n ts ≡ Some p → first_too_many limit n us ≡ Some q → p ≡ q
first_same text limit p q utf8 at n [] us r s e f = absurd (cc)
first_same text limit p q utf8 at n (t ∷ ts) [] r s e f = absurd (cc)
first_same text limit p q utf8 at n (t ∷ ts) (u ∷ us) r s e f =
    go (is_open t.kind && nat_le limit n) refl
    (λ run h i. first_same text limit p q utf8 t.end (open_behind t.kind n) ts us r.2 run h i)
  where
    same : u ≡ t
    same = one_token text at u t utf8 s.0 r.0

    g : first_too_many limit n (t ∷ us) ≡ Some q
    g = subst (λ (v : Token). first_too_many limit n (v ∷ us) ≡ Some q) same f

    run : IsRun text t.end us
    run = subst (λ (v : Token). IsRun text v.end us) same s.2

    go : (b : Bool) → (is_open t.kind && nat_le limit n) ≡ b
        → (IsRun text t.end us → first_too_many limit (open_behind t.kind n) ts ≡ Some p
        → first_too_many limit (open_behind t.kind n) us ≡ Some q → p ≡ q)
        → p ≡ q
    go true h rest = same_Some p q (sym (rw h at e) ∙ (rw h at g))
    go false h rest = rest run (rw h at e) (rw h at g)

pub one_too_deep : (text : List ℕ) (limit at p q : ℕ) → IsUtf8 text → IsTooDeep text limit at p
    → IsTooDeep text limit at q → p ≡ q
one_too_deep text limit at p q utf8 a b = go a.tokens b.tokens a.run b.run a.first b.first
  where
    go : (ts us : List Token) → IsRun text at ts → IsRun text at us → first_too_deep limit ts ≡ Some p
        → first_too_deep limit us ≡ Some q → p ≡ q
    go [] us r s e f = absurd (cc)
    go (t ∷ ts) [] r s e f = absurd (cc)
    go (t ∷ ts) (u ∷ us) r s e f =
        first_same text limit p q utf8 at 0 (t ∷ ts) (u ∷ us) r s (too_deep_from p _ _ e)
        (too_deep_from q _ _ f)

-- ---- one place behind a statement

-- the fault that a statement has by the state behind it
abbrev limits_cause : Bounds → State → Option Cause
limits_cause bounds s =
    if nat_lt bounds.triples (length s.triples) then Some TooManyTriples
    else if nat_lt bounds.terms (length (terms_with bounds s.triples)) then Some TooManyTerms else None

abbrev fault_cause : Option TermFault → Option Cause → Option Cause
fault_cause (Some fault) other = Some (BadTerm fault)
fault_cause None other = other

abbrev pub cause_by : Bounds → State → Option Cause
cause_by bounds s = fault_cause s.fault (limits_cause bounds s)

lt_test : {a b : ℕ} → a < b → nat_lt a b ≡ true
lt_test h = grind (arith, nat_tests, h)

le_test : {a b : ℕ} → a ≤ b → nat_lt b a ≡ false
le_test h = grind (arith, nat_tests, h)

pub cause_of_settled : (t : Setting) (x y : Place) → Settled t x y → (c : Cause) → HasCause t x c
    → cause_by t.bounds y.state ≡ Some c
cause_of_settled t x y settled (TooDeep at) deep = absurd (settled.derived.0 at deep)
cause_of_settled t x y settled NoStatement none =
    absurd ((none.1 settled.derived.1.0).none y settled.derived.1.1)
cause_of_settled t x y settled (BadTerm fault) bad =
    let same : y ≡ bad.0 = settled.only bad.1.1.0 bad.0 bad.1.1.1 in
    let has : y.state.fault ≡ Some fault = ap (λ (z : Place). z.state.fault) same ∙ bad.2 in
    rw has refl
cause_of_settled t x y settled TooManyTriples many =
    let same : y ≡ many.0 = settled.only many.1.1.0 many.0 many.1.1.1 in
    let none : y.state.fault ≡ None = ap (λ (z : Place). z.state.fault) same ∙ many.2 in
    let passed : nat_lt t.bounds.triples (length y.state.triples) ≡ true =
    subst (λ (z : Place). nat_lt t.bounds.triples (length z.state.triples) ≡ true) (sym same)
    (lt_test many.3) in
    rw (none, passed) refl
cause_of_settled t x y settled TooManyTerms many =
    let same : y ≡ many.0 = settled.only many.1.1.0 many.0 many.1.1.1 in
    let none : y.state.fault ≡ None = ap (λ (z : Place). z.state.fault) same ∙ many.2 in
    let fits : nat_lt t.bounds.triples (length y.state.triples) ≡ false =
    subst (λ (z : Place). nat_lt t.bounds.triples (length z.state.triples) ≡ false) (sym same)
    (le_test many.3) in
    let passed : nat_lt t.bounds.terms (length (terms_with t.bounds y.state.triples)) ≡ true =
    subst (λ (z : Place). nat_lt t.bounds.terms (length (terms_with t.bounds z.state.triples)) ≡ true)
    (sym same)
    (lt_test many.4) in
    rw (none, fits, passed) refl

pub sound_by : (t : Setting) (x y z : Place) → Settled t x y → IsStatement t x z
    → (y ≡ z) × (cause_by t.bounds y.state ≡ None)
sound_by t x y z settled is =
    let same : y ≡ z = settled.only is.derived.1.0 z is.derived.1.1 in
    let none : y.state.fault ≡ None = ap (λ (v : Place). v.state.fault) same ∙ is.terms in
    let fits : nat_lt t.bounds.triples (length y.state.triples) ≡ false =
    subst (λ (v : Place). nat_lt t.bounds.triples (length v.state.triples) ≡ false) (sym same)
    (le_test is.triples) in
    let room : nat_lt t.bounds.terms (length (terms_with t.bounds y.state.triples)) ≡ false =
    subst (λ (v : Place). nat_lt t.bounds.terms (length (terms_with t.bounds v.state.triples)) ≡ false)
    (sym same)
    (le_test is.room) in
    (same, rw (none, fits, room) refl)

-- ---- a statement has one meaning, or one fault

some_is_none : {X : Type 0} (x : X) → Some x ≡ None → ⊥
some_is_none x e = absurd (cc)

pub one_statement : (t : Setting) (x y : Place) → Settled t x y → IsStatement t x y → One t x y
one_statement t x y settled is = record {
  is = is;
  only = λ z other. (sound_by t x y z settled other).0;
  sound = λ c cause.
      some_is_none c (sym (cause_of_settled t x y settled c cause) ∙ (sound_by t x y y settled is).1);
}

pub one_cause : (t : Setting) (x y : Place) (c : Cause) → Settled t x y → HasCause t x c → OneCause t x c
one_cause t x y c settled cause = record {
  is = cause;
  only = λ d other.
      same_Some c d (sym (cause_of_settled t x y settled c cause) ∙ cause_of_settled t x y settled d other);
  none = λ z is.
      some_is_none c (sym (cause_of_settled t x y settled c cause) ∙ (sound_by t x y z settled is).1);
}

-- too deep
deep_only : (t : Setting) (x : Place) (at : ℕ) → IsUtf8 t.text → IsTooDeep t.text t.depth x.at at
    → (d : Cause)
    → HasCause t x d → TooDeep at ≡ d
deep_only t x at utf8 deep (TooDeep other) is =
    ap TooDeep (one_too_deep t.text t.depth x.at at other utf8 deep is)
deep_only t x at utf8 deep NoStatement is = absurd (is.0 at deep)
deep_only t x at utf8 deep (BadTerm fault) is = absurd (is.1.0 at deep)
deep_only t x at utf8 deep TooManyTriples is = absurd (is.1.0 at deep)
deep_only t x at utf8 deep TooManyTerms is = absurd (is.1.0 at deep)

pub one_deep : (t : Setting) (x : Place) (at : ℕ) → IsUtf8 t.text → IsTooDeep t.text t.depth x.at at
    → OneCause t x (TooDeep at)
one_deep t x at utf8 deep = record {
  is = deep;
  only = deep_only t x at utf8 deep;
  none = λ z is. is.derived.0 at deep;
}

-- no derivation
nowhere_only : (t : Setting) (x : Place) → HasCause t x NoStatement → (d : Cause) → HasCause t x d
    → NoStatement ≡ d
nowhere_only t x none (TooDeep at) is = absurd (none.0 at is)
nowhere_only t x none NoStatement is = refl
nowhere_only t x none (BadTerm fault) is = absurd ((none.1 is.1.1.0).none is.0 is.1.1.1)
nowhere_only t x none TooManyTriples is = absurd ((none.1 is.1.1.0).none is.0 is.1.1.1)
nowhere_only t x none TooManyTerms is = absurd ((none.1 is.1.1.0).none is.0 is.1.1.1)

pub one_nowhere : (t : Setting) (x : Place) → HasCause t x NoStatement → OneCause t x NoStatement
one_nowhere t x none = record {
  is = none;
  only = nowhere_only t x none;
  none = λ z is. (none.1 is.derived.1.0).none z is.derived.1.1;
}

-- ---- no statement at the end

begins_not : (text : List ℕ) (depth : ℕ) (t : Token) → t.kind ≡ End
    → may_begin (statement text depth) t ≡ false
begins_not text zero t e = rw e refl
begins_not text (suc depth) t e = rw e refl

takes_some : (text : List ℕ) (depth : ℕ) → takes_no_token (statement text depth) ≡ false
takes_some text zero = refl
takes_some text (suc depth) = refl

pub end_never : (t : Setting) (x z : Place) → IsUtf8 t.text → IsAtEnd t.text x.at → IsStatement t x z → ⊥
end_never t x z utf8 end is =
    let depth = is.derived.1.0 in
    (never_here t.text (statement t.text depth) x end.0 utf8 (takes_some t.text depth)
    (begins_not t.text depth end.0 end.2) end.1).none z is.derived.1.1

-- ---- chains of statements

-- of two chains one goes on where the other ends
pub chain : (t : Setting) (n m : ℕ) (x y z : Place) → Times (One t) n x y → Times (IsStatement t) m x z
    → ((k : ℕ) × Times (IsStatement t) k y z) ⊎ ((w : Place) × One t z w)
chain t zero m x y z e s = inl (m, subst (λ (v : Place). Times (IsStatement t) m v z) e s)
chain t (suc n) zero x y z r e = inr (r.0, subst (λ (v : Place). One t v r.0) e r.1)
chain t (suc n) (suc m) x y z r s =
    chain t n m r.0 y z r.2
    (subst (λ (v : Place). Times (IsStatement t) m v z) (sym (r.1.only s.0 s.1)) s.2)
