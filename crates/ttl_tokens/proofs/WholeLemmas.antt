-- What the terminals hold between their marks: characters and whole escapes, each of a scalar value.
use Rattle.std.proofs.Common.{◌≡◌, ℕ, Bool, true, false, ◌||◌, ◌==◌, List, [], ◌∷◌, ◌++◌, refl, sym, ap}
use Rattle.std.proofs.Common.{◌∙◌, subst, arith, append_assoc, true≢false}
use Rattle.std.proofs.lemmas.Bool.Decides.{nat_tests}
use Rattle.std.proofs.lemmas.List.{append-nil}
use Rattle.std.specs.Prelude.{codes}
use Rattle.ttl_tokens.specs.Form.{Item, Then, Or, Many}
use Rattle.ttl_tokens.specs.Chars.{word}
use Rattle.ttl_tokens.specs.Terminals.{four_digits, eight_digits, uchar, is_escaped, echar, is_iri_char}
use Rattle.ttl_tokens.specs.Terminals.{is_local_escaped, plx, pn_local, short_char, block}
use Rattle.ttl_tokens.specs.Unescaped.{number_of, escaped_char, StandsFor, Means, Unescapes}
use Rattle.ttl_tokens.specs.Unescaped.StandsFor.{Short, Long, Named}
use Rattle.ttl_tokens.specs.Unescaped.Means.{Itself, Escape}
use Rattle.ttl_tokens.specs.Unescaped.{char_of, escape_length, undone}
use Rattle.ttl_tokens.proofs.CharLemmas.{past_item, past_exactly, past_word}
use Rattle.ttl_tokens.proofs.EscapedLemmas.{is_escape, unescapes_append}
use Rattle.ttl_tokens.proofs.FrontLemmas.{TakesOnly, Joins, item_front, or_front, then_front, maybe_front}
use Rattle.ttl_tokens.proofs.FrontLemmas.{many_front, dotted_front}
use Rattle.ttl_tokens.proofs.HexLemmas.{all_hex, four_hex, eight_hex}
use Rattle.ttl_tokens.proofs.ScalarLemmas.{four_written, eight_written}
use Rattle.ttl_tokens.proofs.UndoneLemmas.{skips}

-- ---- characters and whole escapes

-- cs stands for what it is undone to, and it is undone to that whatever follows
pub record IsWhole (cs : List ℕ) : Type 0 where
  pub stands : Unescapes cs (undone cs)
  pub alone : (rest : List ℕ) → undone (cs ++ rest) ≡ undone cs ++ undone rest

pub whole_joins : Joins IsWhole
whole_joins = record { nothing = record { stands = refl; alone = λ rest. refl }; both = both }
  where
    both : (a b : List ℕ) → IsWhole a → IsWhole b → IsWhole (a ++ b)
    both a b u v = record {
      stands =
          subst (λ l. Unescapes (a ++ b) l) (sym (u.alone b))
          (unescapes_append a b (undone a) (undone b) u.stands v.stands);
      alone = λ rest.
          ap undone (append_assoc a b rest) ∙ u.alone (b ++ rest)
          ∙ ap (λ (l : List ℕ). undone a ++ l) (v.alone rest)
          ∙ sym (append_assoc (undone a) (undone b) (undone rest))
          ∙ ap (λ (l : List ℕ). l ++ undone rest) (sym (u.alone b));
    }

-- one character
whole_one : (piece : List ℕ) (c : ℕ) → Means piece c
    → ((rest : List ℕ) → undone (piece ++ rest) ≡ c ∷ undone rest) → IsWhole piece
whole_one piece c means next = record {
  stands = subst (λ l. Unescapes piece l) (sym one) (piece, [], sym (append-nil piece), means, refl);
  alone = λ rest. next rest ∙ ap (λ (l : List ℕ). l ++ undone rest) (sym one);
}
  where
    one : undone piece ≡ c ∷ []
    one = ap undone (sym (append-nil piece)) ∙ next []

whole_plain : (c : ℕ) → (c ≡ 92 → ⊥) → IsWhole (c ∷ [])
whole_plain c n =
    let other : (c == 92) ≡ false = grind (arith, nat_tests) in
    whole_one (c ∷ []) c (Itself n refl) (λ rest. rw other refl)

whole_escape : (piece : List ℕ) (c : ℕ) → StandsFor piece c → char_of c ≡ c → IsWhole piece
whole_escape piece c s scalar =
    let e = is_escape s in
    whole_one piece c (Escape s) (λ rest.
    ap (λ (l : List ℕ). undone (l ++ rest)) e.backslash
    ∙ rw (skips (escape_length (e.inside ++ rest)) (e.inside ++ rest), e.number rest, e.ends rest, scalar)
    refl)

whole_named : (d : ℕ) → (is_escaped d || is_local_escaped d) ≡ true → IsWhole (92 ∷ d ∷ [])
whole_named d may =
    whole_escape (92 ∷ d ∷ []) (escaped_char d) (Named d may refl refl) (scalar d may)
  where
    scalar : (d : ℕ) → (is_escaped d || is_local_escaped d) ≡ true → char_of (escaped_char d) ≡ escaped_char d
    scalar d may = grind (arith, nat_tests)

-- ---- what the parts of a terminal take

plain_only : {p : ℕ → Bool} → p 92 ≡ false → TakesOnly IsWhole (Item p)
plain_only {p = p} none = item_front (λ c h. whole_plain c (λ e. true≢false (sym h ∙ ap p e ∙ none)))

named_only : {p : ℕ → Bool} → ((d : ℕ) → p d ≡ true → (is_escaped d || is_local_escaped d) ≡ true)
    → TakesOnly IsWhole (Then (word (codes "\\")) (Item p))
named_only {p = p} may = record {
  front = λ xs ys t.
      let d = past_item p t.0 ys t.2 in
      record {
        front = 92 ∷ d.0 ∷ [];
        parts = past_exactly 92 xs t.0 t.1 ∙ ap (λ (l : List ℕ). 92 ∷ l) d.1;
        holds = whole_named d.0 (may d.0 d.2);
      };
}

uchar_only : TakesOnly IsWhole uchar
uchar_only = or_front short long
  where
    short : TakesOnly IsWhole (Then (word (codes "\\u")) four_digits)
    short = record {
      front = λ xs ys t.
          let w = four_written t.0 ys t.2 in
          record {
            front = codes "\\u" ++ w.digits;
            parts =
                past_word (codes "\\u") xs t.0 t.1 ∙ ap (λ (l : List ℕ). codes "\\u" ++ l) w.parts;
            holds =
                whole_escape (codes "\\u" ++ w.digits) (number_of w.digits)
                (Short w.digits (all_hex four_hex t.0 ys t.2 w.digits w.parts) w.long refl refl) w.scalar;
          };
    }

    long : TakesOnly IsWhole (Then (word (codes "\\U")) eight_digits)
    long = record {
      front = λ xs ys t.
          let w = eight_written t.0 ys t.2 in
          record {
            front = codes "\\U" ++ w.digits;
            parts =
                past_word (codes "\\U") xs t.0 t.1 ∙ ap (λ (l : List ℕ). codes "\\U" ++ l) w.parts;
            holds =
                whole_escape (codes "\\U" ++ w.digits) (number_of w.digits)
                (Long w.digits (all_hex eight_hex t.0 ys t.2 w.digits w.parts) w.long refl refl) w.scalar;
          };
    }

echar_only : TakesOnly IsWhole echar
echar_only = named_only (λ d h. rw h refl)

plx_only : TakesOnly IsWhole plx
plx_only =
    or_front
    (then_front whole_joins (plain_only refl) (then_front whole_joins (plain_only refl) (plain_only refl)))
    (named_only local)
  where
    local : (d : ℕ) → is_local_escaped d ≡ true → (is_escaped d || is_local_escaped d) ≡ true
    local d h = grind (arith, nat_tests)

-- ---- what the terminals hold

pub iri_only : TakesOnly IsWhole (Many (Or (Item is_iri_char) uchar))
iri_only = many_front whole_joins (or_front (plain_only refl) uchar_only)

pub local_only : TakesOnly IsWhole pn_local
local_only =
    then_front whole_joins (or_front (plain_only refl) plx_only)
    (dotted_front whole_joins (or_front (plain_only refl) plx_only) (plain_only refl))

-- q is a quote
module _ (q : ℕ) (other : (92 == q) ≡ false) where
  pub short_only : TakesOnly IsWhole (Many (short_char q))
  short_only =
      many_front whole_joins (or_front (plain_only (rw other refl)) (or_front echar_only uchar_only))

  pub long_only : TakesOnly IsWhole (Many (block q))
  long_only =
      many_front whole_joins
      (then_front whole_joins
      (maybe_front whole_joins
      (or_front (plain_only other) (then_front whole_joins (plain_only other) (plain_only other))))
      (or_front (plain_only (rw other refl)) (or_front echar_only uchar_only)))
