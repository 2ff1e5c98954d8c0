-- Directives: which one is here.
use Rattle.std.proofs.Common.{◌≡◌, ℕ, true, false, nat_eq, ◌&&◌, List, refl, codes, Result}
use Rattle.std.specs.Cmp.Lexicographic.{pointwise}
use Rattle.std.proofs.lemmas.Bool.{and_right}
use Rattle.std.proofs.lemmas.Cmp.{nat_list_eq_equiv}
use Rattle.shx_term.specs.Pool.{Pooled}
use Rattle.ttl_tokens.specs.declared.token.Token.{Token}
use Rattle.ttl_tokens.specs.Form.{Then, Or}
use Rattle.ttl_tokens.specs.Unescaped.{token_text}
use Rattle.ttl_tokens.proofs.FormLemmas.{same_refl, same_only, same_never, or_same, left_same}
use Rattle.ttl_read.specs.declared.reader.Reader.{Reader}
use Rattle.ttl_read.specs.declared.reader.Refused.{Refused}
use Rattle.ttl_tokens.specs.declared.token.TokenKind.TheVariants.{LangTag, WordPrefix, WordBase, Dot}
use Rattle.ttl_read.specs.Grammar.{Rule, tag_word, mark, prefix_binding, base_setting, directive, is_kind}
use Rattle.ttl_read.specs.inner.Reads.{IsNowhere, ParsesAlone}
use Rattle.ttl_read.proofs.AnswerLemmas.{then_alone, left_alone, right_alone, alone_handed_on}
use Rattle.ttl_read.proofs.HereLemmas.{IsHere, item_passes, mark_passes, keeps_reading, here_nowhere}
use Rattle.ttl_read.proofs.KindLemmas.{kind_is}

-- ---- directives that begin with `@`

abbrev pub prefix_and_dot : List ℕ → Rule
prefix_and_dot text = Then (prefix_binding text) (mark Dot)

abbrev pub base_and_dot : List ℕ → Rule
base_and_dot text = Then (base_setting text) (mark Dot)

abbrev at_prefix : List ℕ → Rule
at_prefix text = Then (tag_word text (codes "@prefix")) (prefix_and_dot text)

abbrev at_base : List ℕ → Rule
at_base text = Then (tag_word text (codes "@base")) (base_and_dot text)

-- another tag is here
pub other_tag_nowhere : {text : List ℕ} {r : Reader} {t : Token} (word : List ℕ) (f : Rule) (p : Pooled)
    → IsHere text r t → pointwise nat_eq (token_text text t) word ≡ false
    → IsNowhere text (Then (tag_word text word) f) r p
other_tag_nowhere {text = text} word f p here is =
    here_nowhere (Then (tag_word text word) f) p here refl (rw (and_right _ _ is) refl)

-- a tag is passed, and the answer is on what comes behind it
tag_alone : {text : List ℕ} {r : Reader} {t : Token} (f : Rule) (word : List ℕ)
    → IsHere text r t → is_kind LangTag t.kind ≡ true → pointwise nat_eq (token_text text t) word ≡ true
    → (m : Reader) → m.reading ≡ r.reading → m.tokens.place ≡ t.end → (p : Pooled) (r' : Reader) (p' : Pooled)
    (result : Result (Unit {0}) Refused)
    → ParsesAlone text f m p r' p' result → ParsesAlone text (Then (tag_word text word) f) r p r' p' result
tag_alone {text = text} {r = r} f word here kind is m same behind p r' p' result a =
    let test = λ (u : Token). is_kind LangTag u.kind && pointwise nat_eq (token_text text u) word in
    then_alone (item_passes test (λ u s. s) here (rw (kind, is) refl) (keeps_reading r m p same) behind)
    f r' p' result a

-- `@prefix` is passed
pub at_prefix_alone : {text : List ℕ} {r : Reader} {t : Token} → IsHere text r t
    → is_kind LangTag t.kind ≡ true → pointwise nat_eq (token_text text t) (codes "@prefix") ≡ true
    → (m : Reader) → m.reading ≡ r.reading → m.tokens.place ≡ t.end → (p : Pooled) (r' : Reader) (p' : Pooled)
    (result : Result (Unit {0}) Refused)
    → ParsesAlone text (prefix_and_dot text) m p r' p' result
    → ParsesAlone text (Or (at_prefix text) (at_base text)) r p r' p' result
at_prefix_alone {text = text} {t = t} here kind is m same behind p r' p' result a =
    let other = nat_list_eq_equiv.congr (token_text text t) (codes "@prefix") (codes "@base") is in
    left_alone (other_tag_nowhere (codes "@base") (base_and_dot text) p here other) _ r' p' result
    (tag_alone (prefix_and_dot text) (codes "@prefix") here kind is m same behind p r' p' result a)

-- `@base` is passed
pub at_base_alone : {text : List ℕ} {r : Reader} {t : Token} → IsHere text r t
    → is_kind LangTag t.kind ≡ true → pointwise nat_eq (token_text text t) (codes "@base") ≡ true
    → (m : Reader) → m.reading ≡ r.reading → m.tokens.place ≡ t.end → (p : Pooled) (r' : Reader) (p' : Pooled)
    (result : Result (Unit {0}) Refused)
    → ParsesAlone text (base_and_dot text) m p r' p' result
    → ParsesAlone text (Or (at_prefix text) (at_base text)) r p r' p' result
at_base_alone {text = text} {t = t} here kind is m same behind p r' p' result a =
    let other = nat_list_eq_equiv.congr (token_text text t) (codes "@base") (codes "@prefix") is in
    right_alone (other_tag_nowhere (codes "@prefix") (prefix_and_dot text) p here other) _ r' p' result
    (tag_alone (base_and_dot text) (codes "@base") here kind is m same behind p r' p' result a)

-- ---- directives that begin with a word

abbrev word_directive : List ℕ → Rule
word_directive text =
    Or (Then (mark WordPrefix) (prefix_binding text)) (Then (mark WordBase) (base_setting text))

-- ---- directives

-- the answer is on the first two of three, and the third is nowhere
first_two_alone : {text : List ℕ} {h : Rule} {r : Reader} {p : Pooled} → IsNowhere text h r p → (f g : Rule)
    (r' : Reader) (p' : Pooled) (result : Result (Unit {0}) Refused)
    → ParsesAlone text (Or f g) r p r' p' result → ParsesAlone text (Or f (Or g h)) r p r' p' result
first_two_alone n f g r' p' result a =
    alone_handed_on result a
    (λ a. record {
      on = λ bounds s reads.
          let found = a.on bounds s reads in
          (found.0, found.1, same_only (or_same same_refl (left_same (n.none bounds s reads))) found.2);
    })
    (λ m. record {
      none = λ bounds s reads.
          same_never (or_same same_refl (left_same (n.none bounds s reads))) (m.none bounds s reads);
    })

-- a tag is here, and the answer is on the directives that begin with one
pub tagged_alone : {text : List ℕ} {r : Reader} {t : Token} → IsHere text r t
    → is_kind LangTag t.kind ≡ true → (p : Pooled) (r' : Reader) (p' : Pooled)
    (result : Result (Unit {0}) Refused)
    → ParsesAlone text (Or (at_prefix text) (at_base text)) r p r' p' result
    → ParsesAlone text (directive text) r p r' p' result
tagged_alone {text = text} {t = t} here kind p r' p' result a =
    first_two_alone (here_nowhere (word_directive text) p here refl (rw (kind_is LangTag t.kind kind) refl))
    (at_prefix text) (at_base text) r' p' result a

-- a word is here, and the answer is on the directives that begin with one
words_alone : {text : List ℕ} {r : Reader} {t : Token} → IsHere text r t
    → is_kind LangTag t.kind ≡ false → (p : Pooled) (r' : Reader) (p' : Pooled)
    (result : Result (Unit {0}) Refused)
    → ParsesAlone text (word_directive text) r p r' p' result
    → ParsesAlone text (directive text) r p r' p' result
words_alone {text = text} here kind p r' p' result a =
    right_alone (here_nowhere (at_prefix text) p here refl (rw kind refl)) _ r' p' result
    (right_alone (here_nowhere (at_base text) p here refl (rw kind refl)) _ r' p' result a)

-- PREFIX is passed
pub word_prefix_alone : {text : List ℕ} {r : Reader} {t : Token} → IsHere text r t
    → is_kind WordPrefix t.kind ≡ true → (m : Reader) → m.reading ≡ r.reading → m.tokens.place ≡ t.end
    → (p : Pooled) (r' : Reader) (p' : Pooled)
    (result : Result (Unit {0}) Refused) → ParsesAlone text (prefix_binding text) m p r' p' result
    → ParsesAlone text (directive text) r p r' p' result
word_prefix_alone {text = text} {t = t} here kind m same behind p r' p' result a =
    let is = kind_is WordPrefix t.kind kind in
    let base = here_nowhere (Then (mark WordBase) (base_setting text)) p here refl (rw is refl) in
    words_alone here (rw is refl) p r' p' result
    (left_alone base _ r' p' result
    (then_alone (mark_passes WordPrefix m p here kind same behind) _ r' p' result a))

-- BASE is passed
pub word_base_alone : {text : List ℕ} {r : Reader} {t : Token} → IsHere text r t
    → is_kind WordBase t.kind ≡ true → (m : Reader) → m.reading ≡ r.reading → m.tokens.place ≡ t.end
    → (p : Pooled) (r' : Reader) (p' : Pooled)
    (result : Result (Unit {0}) Refused) → ParsesAlone text (base_setting text) m p r' p' result
    → ParsesAlone text (directive text) r p r' p' result
word_base_alone {text = text} {t = t} here kind m same behind p r' p' result a =
    let is = kind_is WordBase t.kind kind in
    let prefix = here_nowhere (Then (mark WordPrefix) (prefix_binding text)) p here refl (rw is refl) in
    words_alone here (rw is refl) p r' p' result
    (right_alone prefix _ r' p' result
    (then_alone (mark_passes WordBase m p here kind same behind) _ r' p' result a))
