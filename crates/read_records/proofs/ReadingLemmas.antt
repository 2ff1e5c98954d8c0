-- Readings: the orders of their keys and readers tell apart; what stays, and who stands under some keys.
use Rattle.std.specs.Prelude.{◌≡◌, ℕ, ◌+◌, ◌<◌, List, [], ◌∷◌, length, take, Contains, ◌↔◌, ◌⊎◌}
use Rattle.std.specs.Ordering.{is_eq}
use Rattle.std.proofs.Common.{sym, ap, ◌∙◌, subst, inl, inr, get_or}
use Rattle.std.proofs.lemmas.List.{take_more}
use Rattle.std.proofs.lemmas.List.Elements.{Contains-append_left, Contains-append_right}
use Rattle.std.proofs.lemmas.List.Elements.{Contains-append_cases}
use Rattle.std.proofs.lemmas.Map.Lookups.{CmpEqualImpliesEq}
use Rattle.shx_term.proofs.MemberLemmas.{Contains-at, Contains-one}
use Rattle.graph_view.specs.declared.key.Key.{Key}
use Rattle.graph_view.specs.Key.{key_cmp}
use Rattle.graph_view.specs.inner.KeyLaws.{key_cmp_ties, same_key_exact}
use Rattle.read_records.specs.declared.reader.Reader.{Reader}
use Rattle.read_records.specs.Reader.{reader_cmp}
use Rattle.read_records.specs.inner.ReaderLaws.{reader_cmp_ties, same_reader_exact}
use Rattle.read_records.specs.inner.Filing.{AddsOne, AddsSome, Filed, Reading, Stands, StandsUnderEach}
use Rattle.read_records.specs.inner.Filing.{StaysIn, reading}

-- ---- orders that tell apart

pub reader_cmp_exact : CmpEqualImpliesEq reader_cmp
reader_cmp_exact a b e = same_reader_exact a b (reader_cmp_ties a b ∙ ap is_eq e)

pub key_cmp_exact : CmpEqualImpliesEq key_cmp
key_cmp_exact a b e = same_key_exact a b (key_cmp_ties a b ∙ ap is_eq e)

-- ---- what stays

pub StaysIn-itself : {xs : Filed} → StaysIn xs xs
StaysIn-itself = record { each = λ x c. c }

pub StaysIn-then : {old mid new : Filed} → StaysIn old mid → StaysIn mid new → StaysIn old new
StaysIn-then first next = record { each = λ x c. next.each x (first.each x c) }

pub StaysIn-added : {old new : Filed} {more : Reading} → AddsOne old new more → StaysIn old new
StaysIn-added added = record { each = λ x c. (added.each x).1 (inl c) }

-- ---- what is added

pub AddsSome-itself : {xs : Filed} {keys : List Key} {reader : Reader} → AddsSome xs xs keys reader
AddsSome-itself = record { each = λ x c. inl c }

-- one more, of these keys
pub AddsSome-one : (keys : List Key) (i : ℕ) (d : Key) (reader : Reader) → i < length keys
    → {first old new : Filed} → AddsSome first old keys reader
    → AddsOne old new (reading (get_or keys i d) reader) → AddsSome first new keys reader
AddsSome-one keys i d reader inside before step = record {
  each = λ x c. elim ((step.each x).0 c) [
    | inl there ↦ before.each x there
    | inr same ↦ inr (
      sym (ap (λ (y : Reading). y.reader) same),
      subst (Contains keys) (sym (ap (λ (y : Reading). y.key) same)) (Contains-at keys i d inside),
    )
  ];
}

-- ---- under some keys

-- the members of the first elements of a list and of one more
pub Contains-taken : {X : Type 0} (xs : List X) (i : ℕ) (d : X) → i < length xs → (x : X)
    → Contains (take (i + 1) xs) x ↔ (Contains (take i xs) x ⊎ (x ≡ get_or xs i d))
Contains-taken xs i d inside x = rw (take_more xs i d inside) (
  λ c. elim (Contains-append_cases (take i xs) (get_or xs i d ∷ []) x c) [
    | inl e ↦ inl e
    | inr e ↦ inr ((Contains-one (get_or xs i d) x).0 e)
  ],
  λ h. elim h [
    | inl c ↦ Contains-append_left (take i xs) (get_or xs i d ∷ []) x c
    | inr same ↦
        Contains-append_right (take i xs) (get_or xs i d ∷ []) x ((Contains-one (get_or xs i d) x).1 same)
  ],
)

-- under one key more, under which it stood
pub StandsUnderEach-take_held : (keys : List Key) (i : ℕ) (d : Key) (reader : Reader) → i < length keys
    → {readings : Filed} → StandsUnderEach readings (take i keys) reader
    → Stands readings (reading (get_or keys i d) reader)
    → StandsUnderEach readings (take (i + 1) keys) reader
StandsUnderEach-take_held keys i d reader inside {readings} before held = record {
  each = λ key c. elim ((Contains-taken keys i d inside key).0 c) [
    | inl e ↦ before.each key e
    | inr same ↦ subst (λ k. Stands readings (reading k reader)) (sym same) held
  ];
}

-- under one key more, under which it was entered
pub StandsUnderEach-take_one : (keys : List Key) (i : ℕ) (d : Key) (reader : Reader) → i < length keys
    → {old new : Filed} → StandsUnderEach old (take i keys) reader
    → AddsOne old new (reading (get_or keys i d) reader) → StandsUnderEach new (take (i + 1) keys) reader
StandsUnderEach-take_one keys i d reader inside before step = record {
  each = λ key c. (step.each (reading key reader)).1 (elim ((Contains-taken keys i d inside key).0 c) [
    | inl e ↦ inl (before.each key e)
    | inr same ↦ inr (ap (λ k. reading k reader) same)
  ]);
}
