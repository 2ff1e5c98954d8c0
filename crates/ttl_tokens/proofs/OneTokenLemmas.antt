-- At a place one token stands, and no other.
use Rattle.std.proofs.Common.{◌≡◌, ℕ, ◌≤◌, ◌<◌, List, [], length, refl, sym, ap, ◌∙◌, subst, ◌⊎◌}
use Rattle.std.proofs.Common.{inl, inr}
use Rattle.std.proofs.Common.{arith, ◌∷◌}
use Rattle.std.proofs.Math.ListN.{drop}
use Rattle.std.proofs.Math.Nat.{eq-or-lt_of_le}
use Rattle.std.proofs.Math.Utf8.{encodes}
use Rattle.std.proofs.lemmas.List.{length-drop}
use Rattle.std.proofs.lemmas.Str.{encodes-chars, IsUtf8-drop}
use Rattle.std.specs.Str.{IsUtf8, IsCharBoundary, chars}
use Rattle.ttl_tokens.specs.declared.token.Token.{Token}
use Rattle.ttl_tokens.specs.declared.token.TokenKind.{TokenKind}
use Rattle.ttl_tokens.specs.declared.token.TokenKind.TheVariants.{Anon, End, StringQuote, StringSingleQuote}
use Rattle.ttl_tokens.specs.Tokens.{Stands, IsToken, IsNext, IsTokenAt, IsNoTokenAt}
use Rattle.ttl_tokens.specs.Blanks.{blanks}
use Rattle.ttl_tokens.specs.Terminals.{terminal}
use Rattle.ttl_tokens.proofs.CharLemmas.{takes_le, takes_shorter}
use Rattle.ttl_tokens.proofs.GroupLemmas.{nothing_stands_at_end}
use Rattle.ttl_tokens.proofs.RestLemmas.{longest_one}

-- two places with the same characters behind them are one
pub same_place : (text : List ℕ) (a b : ℕ) → IsUtf8 text → a ≤ length text → b ≤ length text
    → IsCharBoundary text a → IsCharBoundary text b → chars (drop a text) ≡ chars (drop b text) → a ≡ b
same_place text a b utf8 le_a le_b begin_a begin_b same =
    let rest : drop a text ≡ drop b text =
    sym (encodes-chars (drop a text) (IsUtf8-drop text a utf8 begin_a)) ∙ ap encodes same
    ∙ encodes-chars (drop b text) (IsUtf8-drop text b utf8 begin_b) in
    let lengths : length (drop a text) ≡ length (drop b text) = ap length rest in
    let left = length-drop a text in
    let right = length-drop b text in
    omega (arith, lengths, left, right, le_a, le_b)

-- what follows is one kind of token, and leaves one rest
record SameNext (k j : TokenKind) (ys zs : List ℕ) : Type 0 where
  kind : k ≡ j
  rest : ys ≡ zs

same_token : (xs : List ℕ) (k j : TokenKind) (ys zs : List ℕ) → IsToken xs k ys → IsToken xs j zs
    → SameNext k j ys zs
same_token xs k j ys zs t u = both (t.longest j zs u.stands) (u.longest k ys t.stands)
  where
    both : ((j ≡ k) × (zs ≡ ys)) ⊎ (length ys < length zs) → ((k ≡ j) × (ys ≡ zs)) ⊎ (length zs < length ys)
        → SameNext k j ys zs
    both (inl e) other = record { kind = sym e.0; rest = sym e.1 }
    both (inr less) (inl e) = record { kind = e.0; rest = e.1 }
    both (inr less) (inr more) = absurd (omega (arith, less, more))

-- a token is the end of the text, or a terminal
next_is : (xs : List ℕ) (k : TokenKind) (ys : List ℕ) → IsNext xs k ys
    → ((k ≡ End) × (xs ≡ []) × (ys ≡ [])) ⊎ IsToken xs k ys
next_is xs End ys n = inl (refl, n.0, n.1)
next_is xs k ys n = inr n

none_at_end : (xs : List ℕ) (k : TokenKind) (ys : List ℕ) → xs ≡ [] → IsToken xs k ys → ⊥
none_at_end xs k ys e t = nothing_stands_at_end k ys (subst (λ v. Stands k v ys) e t.stands)

same_next : (xs : List ℕ) (k j : TokenKind) (ys zs : List ℕ) → IsNext xs k ys → IsNext xs j zs
    → SameNext k j ys zs
same_next xs k j ys zs n m = go (next_is xs k ys n) (next_is xs j zs m)
  where
    go : ((k ≡ End) × (xs ≡ []) × (ys ≡ [])) ⊎ IsToken xs k ys
        → ((j ≡ End) × (xs ≡ []) × (zs ≡ [])) ⊎ IsToken xs j zs → SameNext k j ys zs
    go (inl a) (inl b) = record { kind = a.0 ∙ sym b.0; rest = a.2 ∙ sym b.2 }
    go (inl a) (inr u) = absurd (none_at_end xs j zs a.1 u)
    go (inr t) (inl b) = absurd (none_at_end xs k ys b.1 t)
    go (inr t) (inr u) = same_token xs k j ys zs t u

same_fields : (t u : Token) → t.kind ≡ u.kind → t.start ≡ u.start → t.end ≡ u.end → t ≡ u
same_fields t u k s e = rw (k, s, e) refl

pub one_token : (text : List ℕ) (at : ℕ) (t u : Token) → IsUtf8 text → IsTokenAt text at t
    → IsTokenAt text at u → t ≡ u
one_token text at t u utf8 a b =
    let a_order = a.order in
    let a_within = a.within in
    let b_order = b.order in
    let b_within = b.within in
    let start : t.start ≡ u.start =
    same_place text t.start u.start utf8 (omega (arith, a_order, a_within)) (omega (arith, b_order, b_within))
    a.begin b.begin (longest_one a.behind b.behind) in
    let next : SameNext t.kind u.kind (chars (drop t.end text)) (chars (drop u.end text)) =
    same_next (chars (drop t.start text)) t.kind u.kind (chars (drop t.end text)) (chars (drop u.end text))
    a.next (subst (λ n. IsNext (chars (drop n text)) u.kind (chars (drop u.end text))) (sym start) b.next) in
    let end : t.end ≡ u.end = same_place text t.end u.end utf8 a_within b_within a.end b.end next.rest in
    same_fields t u next.kind start end

no_rest : (text : List ℕ) (at : ℕ) → IsUtf8 text → at < length text → IsCharBoundary text at
    → chars (drop at text) ≡ [] → ⊥
no_rest text at utf8 less begin none =
    let rest : drop at text ≡ [] =
    sym (encodes-chars (drop at text) (IsUtf8-drop text at utf8 begin)) ∙ ap encodes none in
    let left : length (drop at text) ≡ 0 = ap length rest in
    let whole = length-drop at text in
    omega (arith, left, whole, less)

pub token_or_none : (text : List ℕ) (at fault : ℕ) (t : Token) → IsUtf8 text → IsTokenAt text at t
    → IsNoTokenAt text at fault → ⊥
token_or_none text at fault t utf8 a n = go (next_is _ t.kind (chars (drop t.end text)) a.next)
  where
    same : chars (drop t.start text) ≡ chars (drop fault text)
    same = longest_one a.behind n.behind

    go : ((t.kind ≡ End) × (chars (drop t.start text) ≡ []) × (chars (drop t.end text) ≡ []))
        ⊎ IsToken (chars (drop t.start text)) t.kind (chars (drop t.end text)) → ⊥
    go (inl e) = no_rest text fault utf8 n.within n.begin (sym same ∙ e.1)
    go (inr u) =
        n.none.none t.kind (chars (drop t.end text))
        (subst (λ v. Stands t.kind v (chars (drop t.end text))) same u.stands)

stands_shorter : (k : TokenKind) (xs ys : List ℕ) → Stands k xs ys → length ys < length xs
stands_shorter Anon xs ys t =
    let whole : length xs ≡ length (91 ∷ t.0) = ap length t.1 in
    let rest : length (93 ∷ ys) ≤ length t.0 = takes_le blanks t.0 (93 ∷ ys) t.2.takes in
    omega (arith, whole, rest)
stands_shorter StringQuote xs ys t = takes_shorter (terminal StringQuote) xs ys refl t.0
stands_shorter StringSingleQuote xs ys t = takes_shorter (terminal StringSingleQuote) xs ys refl t.0
stands_shorter k xs ys t = takes_shorter (terminal k) xs ys refl t

pub some_token : (text : List ℕ) (at : ℕ) (t : Token) → IsTokenAt text at t → (t.kind ≡ End → ⊥)
    → t.start < t.end
some_token text at t a other = go (next_is _ t.kind (chars (drop t.end text)) a.next)
  where
    empty : t.start ≡ t.end → length (chars (drop t.end text)) < length (chars (drop t.start text)) → ⊥
    empty e less =
        let same : length (chars (drop t.start text)) ≡ length (chars (drop t.end text)) =
        ap (λ (n : ℕ). length (chars (drop n text))) e in
        omega (arith, same, less)

    go : ((t.kind ≡ End) × (chars (drop t.start text) ≡ []) × (chars (drop t.end text) ≡ []))
        ⊎ IsToken (chars (drop t.start text)) t.kind (chars (drop t.end text)) → t.start < t.end
    go (inl e) = absurd (other e.0)
    go (inr u) = strict (eq-or-lt_of_le a.order)
      where
        strict : (t.start ≡ t.end) ⊎ (t.start < t.end) → t.start < t.end
        strict (inl e) = absurd (empty e (stands_shorter t.kind _ (chars (drop t.end text)) u.stands))
        strict (inr less) = less
