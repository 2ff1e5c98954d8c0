-- What a token means is what the part of it that may hold escapes stands for.
use Rattle.std.proofs.Common.{◌≡◌, ℕ, ◌<◌, Bool, true, false, ◌==◌, List, ◌∷◌, ◌++◌, refl, sym, ap, ◌∙◌}
use Rattle.std.proofs.Common.{subst, arith, append_assoc, true≢false}
use Rattle.std.proofs.Math.ListN.{drop}
use Rattle.std.proofs.lemmas.List.{append_cancel_right}
use Rattle.std.specs.Str.{IsUtf8, chars}
use Rattle.ttl_tokens.specs.declared.token.Token.{Token}
use Rattle.ttl_tokens.specs.declared.token.TokenKind.{TokenKind}
use Rattle.ttl_tokens.specs.declared.token.TokenKind.TheVariants.{IriRef, PnameLn, StringQuote}
use Rattle.ttl_tokens.specs.declared.token.TokenKind.TheVariants.{StringSingleQuote, StringLongQuote}
use Rattle.ttl_tokens.specs.declared.token.TokenKind.TheVariants.{StringLongSingleQuote}
use Rattle.ttl_tokens.specs.Form.{Item, Then, Or, Many, Takes}
use Rattle.ttl_tokens.specs.Chars.{Chars, PastChar, exactly}
use Rattle.ttl_tokens.specs.Terminals.{is_iri_char, uchar, pn_prefix, pname_ln}
use Rattle.ttl_tokens.specs.Terminals.{three_quotes, short_char, short_string, block, long_string}
use Rattle.ttl_tokens.specs.Tokens.{IsNext, IsTokenAt}
use Rattle.ttl_tokens.specs.Unescaped.{behind_colon, content, may_escape, meaning, token_text, without_ends}
use Rattle.ttl_tokens.specs.Unescaped.{Unescapes}
use Rattle.ttl_tokens.proofs.CharLemmas.{past_exactly, other_char}
use Rattle.ttl_tokens.proofs.FrontLemmas.{TakesOnly, Joins, item_front, then_front, maybe_front}
use Rattle.ttl_tokens.proofs.FrontLemmas.{dotted_front}
use Rattle.ttl_tokens.proofs.MarkLemmas.{TakesMarks, marks_round, one_mark, three_marks, token_parts}
use Rattle.ttl_tokens.proofs.MarkLemmas.{without_marks}
use Rattle.ttl_tokens.proofs.WholeLemmas.{IsWhole, iri_only, local_only, short_only, long_only}

-- ---- between two marks

whole_between : (n : ℕ) (a f b : Chars) → TakesMarks n a → TakesMarks n b → TakesOnly IsWhole f
    → (xs ys piece : List ℕ) → xs ≡ piece ++ ys → Takes PastChar (Then a (Then f b)) xs ys
    → IsWhole (without_ends n piece)
whole_between n a f b marks_a marks_b only xs ys piece cut t =
    let inside = only.front t.0 t.2.0 t.2.1 in
    let m = marks_round n a f b marks_a marks_b xs ys piece cut t (inside.front, inside.parts) in
    subst IsWhole (sym (without_marks m.0 ∙ m.1)) inside.holds

short_whole : (q : ℕ) → q < 128 → (92 == q) ≡ false → (xs ys piece : List ℕ) → xs ≡ piece ++ ys
    → Takes PastChar (short_string q) xs ys → IsWhole (without_ends 1 piece)
short_whole q small other =
    whole_between 1 (exactly q) (Many (short_char q)) (exactly q) (one_mark q small) (one_mark q small)
    (short_only q other)

long_whole : (q : ℕ) → q < 128 → (92 == q) ≡ false → (xs ys piece : List ℕ) → xs ≡ piece ++ ys
    → Takes PastChar (long_string q) xs ys → IsWhole (without_ends 3 piece)
long_whole q small other =
    whole_between 3 (three_quotes q) (Many (block q)) (three_quotes q) (three_marks q small)
    (three_marks q small) (long_only q other)

-- ---- behind the colon of a prefix

-- no colon stands in cs
record NoColon (cs : List ℕ) : Type 0 where
  passed : (rest : List ℕ) → behind_colon (cs ++ rest) ≡ behind_colon rest

no_colon_joins : Joins NoColon
no_colon_joins = record {
  nothing = record { passed = λ rest. refl };
  both = λ a b u v. record {
    passed = λ rest. ap behind_colon (append_assoc a b rest) ∙ u.passed (b ++ rest) ∙ v.passed rest;
  };
}

no_colon_only : {p : ℕ → Bool} → p 58 ≡ false → TakesOnly NoColon (Item p)
no_colon_only {p = p} none = item_front (λ c h. record { passed = λ rest. rw (other c h) refl })
  where
    other : (c : ℕ) → p c ≡ true → (c == 58) ≡ false
    other c h = other_char p c 58 none h

prefix_only : TakesOnly NoColon pn_prefix
prefix_only =
    then_front no_colon_joins (no_colon_only refl)
    (dotted_front no_colon_joins (no_colon_only refl) (no_colon_only refl))

local_whole : (xs ys piece : List ℕ) → xs ≡ piece ++ ys → Takes PastChar pname_ln xs ys
    → IsWhole (behind_colon piece)
local_whole xs ys piece cut t =
    let prefix = (maybe_front no_colon_joins prefix_only).front xs t.1.0 t.1.1 in
    let colon = past_exactly 58 t.1.0 t.0 t.1.2 in
    let local = local_only.front t.0 ys t.2 in
    let inner : t.1.0 ≡ (58 ∷ local.front) ++ ys = colon ∙ ap (λ (l : List ℕ). 58 ∷ l) local.parts in
    let whole : xs ≡ (prefix.front ++ (58 ∷ local.front)) ++ ys =
    prefix.parts ∙ ap (λ (l : List ℕ). prefix.front ++ l) inner
    ∙ sym (append_assoc prefix.front (58 ∷ local.front) ys) in
    let parts : piece ≡ prefix.front ++ (58 ∷ local.front) =
    append_cancel_right piece (prefix.front ++ (58 ∷ local.front)) ys (sym cut ∙ whole) in
    let behind : behind_colon piece ≡ local.front =
    ap behind_colon parts ∙ prefix.holds.passed (58 ∷ local.front) in
    subst IsWhole (sym behind) local.holds

-- ---- tokens

next_whole : (kind : TokenKind) (xs ys piece : List ℕ) → xs ≡ piece ++ ys → may_escape kind ≡ true
    → IsNext xs kind ys → IsWhole (content kind piece)
next_whole IriRef xs ys piece cut may t =
    whole_between 1 (exactly 60) (Many (Or (Item is_iri_char) uchar)) (exactly 62)
    (one_mark 60 (omega arith)) (one_mark 62 (omega arith)) iri_only xs ys piece cut t.stands
next_whole PnameLn xs ys piece cut may t = local_whole xs ys piece cut t.stands
next_whole StringQuote xs ys piece cut may t =
    short_whole 34 (omega arith) refl xs ys piece cut t.stands.0
next_whole StringSingleQuote xs ys piece cut may t =
    short_whole 39 (omega arith) refl xs ys piece cut t.stands.0
next_whole StringLongQuote xs ys piece cut may t = long_whole 34 (omega arith) refl xs ys piece cut t.stands
next_whole StringLongSingleQuote xs ys piece cut may t =
    long_whole 39 (omega arith) refl xs ys piece cut t.stands
next_whole kind xs ys piece cut may t = absurd (true≢false (sym may))

pub means_content : (text : List ℕ) (at : ℕ) (t : Token) → IsUtf8 text → IsTokenAt text at t
    → may_escape t.kind ≡ true → Unescapes (content t.kind (chars (token_text text t))) (meaning text t)
means_content text at t utf8 here may =
    (next_whole t.kind (chars (drop t.start text)) (chars (drop t.end text)) (chars (token_text text t))
    (token_parts text at t utf8 here) may here.next).stands
