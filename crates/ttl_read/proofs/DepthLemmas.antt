-- The brackets of a statement, counted token by token.
use Rattle.std.proofs.Common.{◌≡◌, ℕ, Bool, true, false, ◌&&◌, List, [], ◌∷◌, refl, sym, ap, ◌∙◌, subst}
use Rattle.std.proofs.Common.{true≢false, Option, Some, None, if◌then◌else◌, ◌<◌, ◌⊎◌, inl, inr, arith}
use Rattle.std.specs.Prelude.{nat_le, MatchOption}
use Rattle.std.proofs.lemmas.Bool.Decides.{nat_tests}
use Rattle.std.specs.Str.{IsUtf8}
use Rattle.ttl_tokens.specs.declared.token.Token.{Token}
use Rattle.ttl_tokens.specs.Tokens.{IsTokenAt, IsNoTokenAt}
use Rattle.ttl_tokens.proofs.OneTokenLemmas.{one_token, token_or_none, some_token}
use Rattle.ttl_read.specs.Depth.{IsRun, IsTooDeep, IsNotTooDeep, IsOneTooMany, NoneTooMany, first_too_many}
use Rattle.ttl_read.specs.Depth.{is_dot_or_end, is_open, open_behind, first_too_deep, is_prefix_or_base}

-- ---- at the end of a run

-- a dot or the end is here
pub none_at_end : (text : List ℕ) (limit at n : ℕ) (t : Token) → IsUtf8 text → IsTokenAt text at t
    → is_dot_or_end t.kind ≡ true → NoneTooMany text limit at n
none_at_end text limit at n t utf8 here ends place one = go one.tokens one.run one.first
  where
    go : (ts : List Token) → IsRun text at ts → first_too_many limit n ts ≡ Some place → ⊥
    go [] run e = absurd (cc)
    go (u ∷ us) run e =
        let same : t ≡ u = one_token text at t u utf8 here run.0 in
        true≢false (sym ends ∙ ap (λ (v : Token). is_dot_or_end v.kind) same ∙ run.1)

-- no token is here
pub none_at_none : (text : List ℕ) (limit at n fault : ℕ) → IsUtf8 text → IsNoTokenAt text at fault
    → NoneTooMany text limit at n
none_at_none text limit at n fault utf8 here place one = go one.tokens one.run one.first
  where
    go : (ts : List Token) → IsRun text at ts → first_too_many limit n ts ≡ Some place → ⊥
    go [] run e = absurd (cc)
    go (u ∷ us) run e = token_or_none text at fault u utf8 run.0 here

-- ---- a token further

-- the token here opens one too many
pub too_many_here : (text : List ℕ) (limit at n : ℕ) (t : Token) → IsTokenAt text at t
    → is_dot_or_end t.kind ≡ false → is_open t.kind ≡ true → nat_le limit n ≡ true
    → IsOneTooMany text limit at n t.start
too_many_here text limit at n t here on opens full = record {
  tokens = t ∷ [];
  run = (here, on, tt);
  first = rw (opens, full) refl;
}

-- the token here does not, so it is the same from behind it on
pub too_many_behind : (text : List ℕ) (limit at n place : ℕ) (t : Token) → IsTokenAt text at t
    → is_dot_or_end t.kind ≡ false → (is_open t.kind && nat_le limit n) ≡ false
    → IsOneTooMany text limit t.end (open_behind t.kind n) place → IsOneTooMany text limit at n place
too_many_behind text limit at n place t here on fits one = record {
  tokens = t ∷ one.tokens;
  run = (here, on, one.run);
  first = rw fits one.first;
}

pub none_behind : (text : List ℕ) (limit at n : ℕ) (t : Token) → IsUtf8 text → IsTokenAt text at t
    → (is_open t.kind && nat_le limit n) ≡ false
    → NoneTooMany text limit t.end (open_behind t.kind n) → NoneTooMany text limit at n
none_behind text limit at n t utf8 here fits none place one = go one.tokens one.run one.first
  where
    go : (ts : List Token) → IsRun text at ts → first_too_many limit n ts ≡ Some place → ⊥
    go [] run e = absurd (cc)
    go (u ∷ us) run e =
        let same : u ≡ t = one_token text at u t utf8 run.0 here in
        let free : (is_open u.kind && nat_le limit n) ≡ false =
        ap (λ (v : Token). is_open v.kind && nat_le limit n) same ∙ fits in
        none place (record {
          tokens = us;
          run = subst (λ (v : Token). IsRun text v.end us) same run.2;
          first = subst (λ (v : Token). first_too_many limit (open_behind v.kind n) us ≡ Some place) same
              (rw free at e);
        })

-- ---- from the first token on

none_is_none : (place : ℕ) → None ≡ Some place → ⊥
none_is_none place e = absurd (cc)

-- what is found where brackets are counted
pub too_deep_from : (place : ℕ) (b : Bool) (o : Option ℕ) → (if b then None else o) ≡ Some place
    → o ≡ Some place
too_deep_from place true o e = absurd (cc)
too_deep_from place false o e = e

pub not_too_deep : (text : List ℕ) (limit at : ℕ) → NoneTooMany text limit at 0 → IsNotTooDeep text limit at
not_too_deep text limit at none place deep = go deep.tokens deep.run deep.first
  where
    go : (ts : List Token) → IsRun text at ts → first_too_deep limit ts ≡ Some place → ⊥
    go [] run e = absurd (cc)
    go (u ∷ us) run e = none place (record {
      tokens = u ∷ us;
      run = run;
      first = too_deep_from place _ _ e;
    })

-- of a statement that begins so no brackets are counted
pub not_counted : (text : List ℕ) (limit at : ℕ) (t : Token) → IsUtf8 text → IsTokenAt text at t
    → is_prefix_or_base t.kind ≡ true → IsNotTooDeep text limit at
not_counted text limit at t utf8 here free place deep = go deep.tokens deep.run deep.first
  where
    go : (ts : List Token) → IsRun text at ts → first_too_deep limit ts ≡ Some place → ⊥
    go [] run e = absurd (cc)
    go (u ∷ us) run e =
        let same : u ≡ t = one_token text at u t utf8 run.0 here in
        let begins : is_prefix_or_base u.kind ≡ true =
        ap (λ (v : Token). is_prefix_or_base v.kind) same ∙ free in
        none_is_none place (rw begins at e)

pub counted : (text : List ℕ) (limit at place : ℕ) (t : Token) → IsUtf8 text → IsTokenAt text at t
    → is_prefix_or_base t.kind ≡ false → IsOneTooMany text limit at 0 place
    → IsTooDeep text limit at place
counted text limit at place t utf8 here counts one = go one.tokens one.run one.first
  where
    go : (ts : List Token) → IsRun text at ts → first_too_many limit 0 ts ≡ Some place
        → IsTooDeep text limit at place
    go [] run e = absurd (cc)
    go (u ∷ us) run e =
        let same : u ≡ t = one_token text at u t utf8 run.0 here in
        let begins : is_prefix_or_base u.kind ≡ false =
        ap (λ (v : Token). is_prefix_or_base v.kind) same ∙ counts in
        record { tokens = u ∷ us; run = run; first = rw begins e }

-- ---- the loop

-- a token that is neither a dot nor the end is behind a place
pub further : (text : List ℕ) (at : ℕ) (t : Token) → IsTokenAt text at t → is_dot_or_end t.kind ≡ false
    → at < t.end
further text at t here on =
    let some : t.start < t.end =
    some_token text at t here (λ e. true≢false (sym (ap is_dot_or_end e) ∙ on)) in
    omega (arith, here.from, some)

-- a bracket that opens has room, and any other token counts none
pub fits_where : (b : Bool) (limit n : ℕ) → ((b ≡ true) × (n < limit)) ⊎ (b ≡ false)
    → (b && nat_le limit n) ≡ false
fits_where true limit n (inl room) = let less : n < limit = room.1 in grind (arith, nat_tests, less)
fits_where true limit n (inr e) = absurd (cc)
fits_where false limit n e = refl

pub too_deep_where : (text : List ℕ) (limit at : ℕ) (t : Token) (result : Option ℕ) → IsUtf8 text
    → IsTokenAt text at t
    → is_prefix_or_base t.kind ≡ false
    → MatchOption result (NoneTooMany text limit at 0) (IsOneTooMany text limit at 0)
    → MatchOption result (IsNotTooDeep text limit at) (IsTooDeep text limit at)
too_deep_where text limit at t None utf8 here counts none = not_too_deep text limit at none
too_deep_where text limit at t (Some place) utf8 here counts one =
    counted text limit at place t utf8 here counts one
