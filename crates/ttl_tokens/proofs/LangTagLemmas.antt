-- Language tags.
use Rattle.std.proofs.Common.{◌≡◌, ◌==◌, ◌<◌, ℕ, zero, List, length, refl, arith}
use Rattle.std.proofs.lemmas.Bool.Decides.{nat_tests}
use Rattle.ttl_tokens.specs.declared.group.Group.TheVariants.{At}
use Rattle.ttl_tokens.specs.declared.token.TokenKind.{TokenKind}
use Rattle.ttl_tokens.specs.declared.token.TokenKind.TheVariants.{LangTag}
use Rattle.ttl_tokens.specs.Form.{Empty, Item, Many, Takes}
use Rattle.ttl_tokens.specs.Walks.{Never, Only, Greedy}
use Rattle.ttl_tokens.specs.Chars.{Chars, PastChar, some, is_letter, is_letter_or_digit}
use Rattle.ttl_tokens.specs.Terminals.{lang_tag}
use Rattle.ttl_tokens.specs.Tokens.{Stands}
use Rattle.ttl_tokens.specs.inner.Groups.{kind_group, IsTokenOf, IsNoTokenOf}
use Rattle.ttl_tokens.specs.inner.LangTagForms.{subtag}
use Rattle.ttl_tokens.specs.inner.Leaves.{Leaves}
use Rattle.ttl_tokens.proofs.FormLemmas.{then_same, then_never, same_trans, then_assoc}
use Rattle.ttl_tokens.proofs.CharLemmas.{apart_begins, takes_shorter, only_le}
use Rattle.ttl_tokens.proofs.LeavesLemmas.{Stops, same_leaves, leaves_trans, then_leaves, stops_many}
use Rattle.ttl_tokens.proofs.LeavesLemmas.{some_leaves, many_more, many_ends}
use Rattle.ttl_tokens.proofs.OneKindLemmas.{IsOneKind, one_kind_token, one_kind_none}

abbrev pub at_sign : Chars
at_sign = Item (λ c. c == 64)

abbrev pub dash : Chars
dash = Item (λ c. c == 45)

-- ---- subtags

letters_stop : Stops (Item is_letter) (Many subtag)
letters_stop =
    stops_many refl (apart_begins (Item is_letter) subtag refl refl (λ c h. grind (arith, nat_tests)))

letters_and_digits_stop : Stops (Item is_letter_or_digit) (Many subtag)
letters_and_digits_stop =
    stops_many refl
    (apart_begins (Item is_letter_or_digit) subtag refl refl (λ c h. grind (arith, nat_tests)))

pub no_dash : {xs : List ℕ} → Never PastChar dash xs → Never PastChar subtag xs
no_dash n = then_never n

pub subtag_found : {xs m d ys : List ℕ} → Only PastChar dash xs m
    → Only PastChar (Item is_letter_or_digit) m d → Greedy PastChar (Item is_letter_or_digit) d ys
    → Leaves (some subtag) xs (Many subtag) ys
subtag_found o p r =
    leaves_trans (same_leaves (same_trans then_assoc (then_same o)) (only_le o))
    (some_leaves letters_and_digits_stop p r)

pub subtags_more : {xs m ys : List ℕ} → Leaves (Many subtag) xs (Many subtag) m
    → Leaves (some subtag) m (Many subtag) ys → Leaves (Many subtag) xs (Many subtag) ys
subtags_more l s = leaves_trans l (many_more refl s)

pub subtags_end : {xs ys : List ℕ} → Leaves (Many subtag) xs (Many subtag) ys → Never PastChar subtag ys
    → Leaves (Many subtag) xs Empty ys
subtags_end l n = leaves_trans l (many_ends n)

pub subtags_shorter : {xs ys : List ℕ} → Leaves (some subtag) xs (Many subtag) ys → length ys < length xs
subtags_shorter {xs = xs} {ys = ys} l = takes_shorter (some subtag) xs ys refl (l.back ys (zero, refl))

-- ---- the tag

only_tags : (k : TokenKind) (xs ys : List ℕ) → kind_group k ≡ At → Stands k xs ys
    → (k ≡ LangTag) × Takes PastChar lang_tag xs ys
only_tags LangTag xs ys g s = (refl, s)
only_tags k xs ys g s = absurd (cc)

one_kind : IsOneKind At LangTag lang_tag
one_kind = record { stands = λ xs ys t. t; only = only_tags }

pub tag_found : {xs m d l ys : List ℕ} → Only PastChar at_sign xs m → Only PastChar (Item is_letter) m d
    → Greedy PastChar (Item is_letter) d l → Leaves (Many subtag) l Empty ys → IsTokenOf At xs LangTag ys
tag_found o p r s =
    one_kind_token one_kind (leaves_trans (then_leaves o) (leaves_trans (some_leaves letters_stop p r) s))

pub no_at_sign : {xs : List ℕ} → Never PastChar at_sign xs → IsNoTokenOf At xs
no_at_sign n = one_kind_none one_kind (then_never n)
