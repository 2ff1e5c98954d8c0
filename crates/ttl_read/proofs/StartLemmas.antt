-- The byte order mark.
use Rattle.std.proofs.Common.{◌≡◌, ℕ, Bool, true, false, List, [], ◌∷◌, ◌++◌, refl, sym, ap, ◌∙◌, nat_eq}
use Rattle.std.proofs.Common.{if◌then◌else◌, zero}
use Rattle.std.specs.Prelude.{take, drop}
use Rattle.std.specs.Cmp.Lexicographic.{pointwise}
use Rattle.std.proofs.lemmas.List.{take-append-drop}
use Rattle.std.proofs.lemmas.Slice.Eq.{bytes_eq-Decides}
use Rattle.ttl_read.specs.Documents.{first_byte, byte_order_mark}

mark_bytes : byte_order_mark ≡ 239 ∷ 187 ∷ 191 ∷ []
unfolding lib.Utf8.encode
mark_bytes = refl

-- behind the mark
pub mark_passed : (text rest : List ℕ) → text ≡ byte_order_mark ++ rest → 3 ≡ first_byte text
mark_passed text rest e = rw (e, mark_bytes) refl

-- a text that does not begin with the mark
pub no_mark : (text : List ℕ) → ((rest : List ℕ) → text ≡ byte_order_mark ++ rest → ⊥)
    → zero ≡ first_byte text
no_mark text none = go (pointwise nat_eq (take 3 text) byte_order_mark) refl
  where
    go : (b : Bool) → pointwise nat_eq (take 3 text) byte_order_mark ≡ b → zero ≡ (if b then 3 else zero)
    go true e = absurd (none (drop 3 text)
        (sym (take-append-drop 3 text)
        ∙ ap (λ (front : List ℕ). front ++ drop 3 text)
        ((bytes_eq-Decides (take 3 text) byte_order_mark).0 e)))
    go false e = refl
