-- The five words: letter by letter, and that no two stand at one place.
use Rattle.std.proofs.Common.{◌≡◌, ℕ, ◌+◌, ◌<◌, Bool, true, false, ◌||◌, ◌==◌, List, [], ◌∷◌, ◌++◌, length}
use Rattle.std.proofs.Common.{drop, get_or, refl, sym, ap, ◌∙◌, subst, ◌⊎◌, inl, inr, arith, eqb-true}
use Rattle.std.proofs.Common.{true≢false, if◌then◌else◌}
use Rattle.std.proofs.lemmas.List.{at_drop_all, at_drop_more, length_push}
use Rattle.ttl_tokens.specs.declared.token.TokenKind.{TokenKind}
use Rattle.ttl_tokens.specs.declared.token.TokenKind.TheVariants.{WordA, WordTrue, WordFalse, WordPrefix}
use Rattle.ttl_tokens.specs.declared.token.TokenKind.TheVariants.{WordBase, End}
use Rattle.ttl_tokens.specs.Form.{Empty, Takes}
use Rattle.ttl_tokens.specs.Walks.{Never, Only, Same}
use Rattle.ttl_tokens.specs.Chars.{Chars, PastChar, word, any_case, exactly, either_case}
use Rattle.ttl_tokens.specs.Terminals.{terminal}
use Rattle.ttl_tokens.specs.inner.NameForms.{is_word, IsWord, IsNoWord}
use Rattle.ttl_tokens.proofs.FormLemmas.{same_never, same_only, same_trans, then_never, then_same}
use Rattle.ttl_tokens.proofs.FormLemmas.{empty_same}
use Rattle.ttl_tokens.proofs.CharLemmas.{first, never_at_end, takes_begins, takes_nothing}

-- ---- letter by letter

-- a form for each word, that takes its letters in turn
pub record Spells (form : List ℕ → Chars) (letter : ℕ → Chars) : Type 0 where
  pub done : (xs : List ℕ) → Only PastChar (form []) xs xs
  pub more : (c : ℕ) (cs xs ys : List ℕ) → Only PastChar (letter c) xs ys
      → Same PastChar (form (c ∷ cs)) xs (form cs) ys
  pub fails : (c : ℕ) (cs xs : List ℕ) → Never PastChar (letter c) xs → Never PastChar (form (c ∷ cs)) xs

empty_only : (xs : List ℕ) → Only PastChar Empty xs xs
empty_only xs = record { takes = refl; only = λ z e. e }

pub written_spells : Spells word exactly
written_spells = record { done = empty_only; more = more; fails = fails }
  where
    more : (c : ℕ) (cs xs ys : List ℕ) → Only PastChar (exactly c) xs ys
        → Same PastChar (word (c ∷ cs)) xs (word cs) ys
    more c [] xs ys o = empty_same o
    more c (d ∷ cs) xs ys o = then_same o

    fails : (c : ℕ) (cs xs : List ℕ) → Never PastChar (exactly c) xs → Never PastChar (word (c ∷ cs)) xs
    fails c [] xs n = n
    fails c (d ∷ cs) xs n = then_never n

pub either_spells : Spells any_case either_case
either_spells = record { done = empty_only; more = more; fails = fails }
  where
    more : (c : ℕ) (cs xs ys : List ℕ) → Only PastChar (either_case c) xs ys
        → Same PastChar (any_case (c ∷ cs)) xs (any_case cs) ys
    more c [] xs ys o = empty_same o
    more c (d ∷ cs) xs ys o = then_same o

    fails : (c : ℕ) (cs xs : List ℕ) → Never PastChar (either_case c) xs
        → Never PastChar (any_case (c ∷ cs)) xs
    fails c [] xs n = n
    fails c (d ∷ cs) xs n = then_never n

-- what is left of the letters, at the next of them
letters_left : (cs : List ℕ) (n c : ℕ) → (n < length cs) × (c ≡ get_or cs n c)
    → drop n cs ≡ c ∷ drop (n + 1) cs
letters_left cs n c at =
    at_drop_more (λ l. l) cs n c at.0 ∙ ap (λ (d : ℕ). d ∷ drop (n + 1) cs) (sym at.1)

-- past the letters `done` of cs the form comes from xs to ys
pub record Spelled (form : List ℕ → Chars) (cs xs done ys : List ℕ) : Type 0 where
  pub same : Same PastChar (form cs) xs (form (drop (length done) cs)) ys

module _ {form : List ℕ → Chars} {letter : ℕ → Chars} {cs xs done m : List ℕ} (spells : Spells form letter)
    (spelled : Spelled form cs xs done m) where
  pub spelled_more : (c : ℕ) (ys : List ℕ) → (length done < length cs) × (c ≡ get_or cs (length done) c)
      → Only PastChar (letter c) m ys → Spelled form cs xs (done ++ c ∷ []) ys
  spelled_more c ys at o = record {
    same =
        rw length_push (same_trans (rw (letters_left cs (length done) c at) at spelled.same)
        (spells.more c (drop (length done + 1) cs) m ys o));
  }

  pub spelled_fails : (c : ℕ) → (length done < length cs) × (c ≡ get_or cs (length done) c)
      → Never PastChar (letter c) m → Never PastChar (form cs) xs
  spelled_fails c at n =
      same_never (rw (letters_left cs (length done) c at) at spelled.same)
      (spells.fails c (drop (length done + 1) cs) m n)

  pub spelled_done : length done ≡ length cs → Only PastChar (form cs) xs m
  spelled_done all =
      same_only (rw (at_drop_all (λ l. l) cs (length done) (omega (arith, all))) at spelled.same)
      (spells.done m)

-- ---- no two at one place

-- the word that begins with this character
abbrev word_of : ℕ → TokenKind
word_of c =
    if c == 97 then WordA else if c == 116 then WordTrue else if c == 102 then WordFalse
    else if (c == 112) || (c == 80) then WordPrefix else if (c == 98) || (c == 66) then WordBase else End

left_true : (b : Bool) → (b || false) ≡ true → b ≡ true
left_true true e = refl
left_true false e = e

or_true : (p q : Bool) → (p || q) ≡ true → (p ≡ true) ⊎ (q ≡ true)
or_true true q e = inl refl
or_true false q e = inr e

either_true : (c d e : ℕ) → d ≡ e + 32 → ((c == d) || (c + 32 == d)) ≡ true → (c ≡ d) ⊎ (c ≡ e)
either_true c d e lower h = go (or_true (c == d) (c + 32 == d) h)
  where
    go : ((c == d) ≡ true) ⊎ ((c + 32 == d) ≡ true) → (c ≡ d) ⊎ (c ≡ e)
    go (inl t) = inl (eqb-true c d t)
    go (inr t) = let same : c + 32 ≡ d = eqb-true (c + 32) d t in inr (omega arith)

word_begins : (k : TokenKind) (c : ℕ) → is_word k ≡ true → first (terminal k) c ≡ true → word_of c ≡ k
word_begins WordA c is h = ap word_of (eqb-true c 97 h)
word_begins WordTrue c is h = ap word_of (eqb-true c 116 (left_true (c == 116) h))
word_begins WordFalse c is h = ap word_of (eqb-true c 102 (left_true (c == 102) h))
word_begins WordPrefix c is h = go (either_true c 112 80 refl (left_true ((c == 112) || (c + 32 == 112)) h))
  where
    go : (c ≡ 112) ⊎ (c ≡ 80) → word_of c ≡ WordPrefix
    go (inl e) = ap word_of e
    go (inr e) = ap word_of e
word_begins WordBase c is h = go (either_true c 98 66 refl (left_true ((c == 98) || (c + 32 == 98)) h))
  where
    go : (c ≡ 98) ⊎ (c ≡ 66) → word_of c ≡ WordBase
    go (inl e) = ap word_of e
    go (inr e) = ap word_of e
word_begins k c is h = absurd (true≢false (sym is))

word_is_some : (k : TokenKind) → is_word k ≡ true → takes_nothing (terminal k) ≡ false
word_is_some WordA is = refl
word_is_some WordTrue is = refl
word_is_some WordFalse is = refl
word_is_some WordPrefix is = refl
word_is_some WordBase is = refl
word_is_some k is = absurd (true≢false (sym is))

same_word : (j k : TokenKind) (xs ys zs : List ℕ) → is_word j ≡ true → is_word k ≡ true
    → Takes PastChar (terminal j) xs ys → Takes PastChar (terminal k) xs zs → k ≡ j
same_word j k [] ys zs j_is k_is s t = absurd ((never_at_end (terminal j) (word_is_some j j_is)).none ys s)
same_word j k (c ∷ cs) ys zs j_is k_is s t =
    let a = word_begins j c j_is (takes_begins (terminal j) c cs ys (word_is_some j j_is) s) in
    let b = word_begins k c k_is (takes_begins (terminal k) c cs zs (word_is_some k k_is) t) in
    sym b ∙ a

pub word_found : (k : TokenKind) (xs ys : List ℕ) → is_word k ≡ true → Only PastChar (terminal k) xs ys
    → IsWord xs k ys
word_found k xs ys is o = record {
  word = is;
  takes = o.takes;
  only = λ j zs j_is t. other j zs t (same_word k j xs ys zs is j_is o.takes t);
}
  where
    other : (j : TokenKind) (zs : List ℕ) → Takes PastChar (terminal j) xs zs → j ≡ k → (j ≡ k) × (zs ≡ ys)
    other j zs t e = (e, sym (o.only zs (subst (λ v. Takes PastChar (terminal v) xs zs) e t)))

pub no_word : {xs : List ℕ} → Never PastChar (terminal WordA) xs → Never PastChar (terminal WordTrue) xs
    → Never PastChar (terminal WordFalse) xs → Never PastChar (terminal WordPrefix) xs
    → Never PastChar (terminal WordBase) xs → IsNoWord xs
no_word {xs = xs} a t f p b = record { none = none }
  where
    none : (k : TokenKind) (zs : List ℕ) → is_word k ≡ true → Takes PastChar (terminal k) xs zs → ⊥
    none WordA zs is s = a.none zs s
    none WordTrue zs is s = t.none zs s
    none WordFalse zs is s = f.none zs s
    none WordPrefix zs is s = p.none zs s
    none WordBase zs is s = b.none zs s
    none k zs is s = absurd (true≢false (sym is))
