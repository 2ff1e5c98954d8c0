-- Members that are added to those that were seen.
use Rattle.std.specs.Prelude.{◌≡◌, ℕ, Bool, ◌+◌, ◌<◌, true, false, List, [], ◌∷◌, ◌++◌, map, flat_map, take}
use Rattle.std.specs.Prelude.{length, if◌then◌else◌, ◌==◌}
use Rattle.std.specs.Cmp.{IsEquivalence}
use Rattle.std.specs.List.{list_any}
use Rattle.std.proofs.Common.{refl, sym, ap, ◌∙◌, subst, inl, inr, get_or, append_assoc, append-nil}
use Rattle.std.proofs.lemmas.Grind.{flat_map-append}
use Rattle.std.proofs.lemmas.List.{take_more, map_push}
use Rattle.std.proofs.lemmas.Bool.{eq-eqb, eqb-true}
use Rattle.std.proofs.lemmas.List.Elements.{Contains-append_left, Contains-append_right}
use Rattle.std.proofs.lemmas.List.Elements.{Contains-append_cases}
use Rattle.shx_term.specs.Members.{SameMembers}
use Rattle.shx_term.proofs.MemberLemmas.{Contains-insert, Contains-one, none_in_empty}
use Rattle.indexmap.specs.IndexSet.{insert_key}
use Rattle.graph_view.specs.declared.key.Key.{Key}
use Rattle.graph_view.specs.Notes.{IsNoting}
use Rattle.path_eval.specs.declared.edge.State.{State}
use Rattle.path_eval.specs.inner.Reached.{Joins}
use Rattle.path_eval.specs.inner.StateLaws.{same_state, same_state_equiv, same_state_exact}

-- an insertion adds the one member
pub Joins-entered : {X : Type 0} (same : X → X → Bool) → IsEquivalence same
    → ((x y : X) → same x y ≡ true → x ≡ y) → (seen : List X) (x : X)
    → Joins seen (x ∷ []) (insert_key same seen x)
Joins-entered {X} same laws exact seen x =
    let told = λ (y : X). Contains-insert same laws exact seen x y in
    let added = elim (list_any (same x) seen) as
    (λ b. (more : List X) × ((if b then seen else seen ++ x ∷ []) ≡ seen ++ more)) [
      | true ↦ ([], sym (append-nil seen))
      | false ↦ (x ∷ [], refl)
    ] in
    record {
      rest = added.0;
      begins = added.1;
      each = λ y. (
        λ c. elim ((told y).0 c) [ inl held ↦ inl held | inr e ↦ inr ((Contains-one x y).1 e) ],
        λ h. (told y).1 (elim h [ inl held ↦ inl held | inr one ↦ inr ((Contains-one x y).0 one) ]),
      );
    }

pub Joins-insert : (seen : List State) (t : State) → Joins seen (t ∷ []) (insert_key same_state seen t)
Joins-insert seen t = Joins-entered same_state same_state_equiv same_state_exact seen t

module _ {X : Type 0} where
  pub Joins-none : (seen : List X) → Joins seen [] seen
  Joins-none seen = record {
    rest = [];
    begins = sym (append-nil seen);
    each = λ x. (λ c. inl c, λ h. elim h [ inl c ↦ c | inr c ↦ absurd (none_in_empty x c) ]);
  }

  -- the same members are added
  pub Joins-same : {old new : List X} (xs ys : List X) → SameMembers xs ys → Joins old xs new
      → Joins old ys new
  Joins-same xs ys same a = record {
    rest = a.rest;
    begins = a.begins;
    each = λ x. (
      λ c. elim ((a.each x).0 c) [ inl held ↦ inl held | inr one ↦ inr ((same.each x).0 one) ],
      λ h. (a.each x).1 (elim h [ inl held ↦ inl held | inr one ↦ inr ((same.each x).1 one) ]),
    );
  }

  pub Joins-then : {old mid new : List X} (xs ys : List X) → Joins old xs mid → Joins mid ys new
      → Joins old (xs ++ ys) new
  Joins-then {old} xs ys a b = record {
    rest = a.rest ++ b.rest;
    begins = b.begins ∙ ap (λ ns. ns ++ b.rest) a.begins ∙ append_assoc old a.rest b.rest;
    each = λ x. (
      λ c. elim ((b.each x).0 c) [
        | inl held ↦ elim ((a.each x).0 held) [
          | inl first ↦ inl first
          | inr one ↦ inr (Contains-append_left xs ys x one)
        ]
        | inr other ↦ inr (Contains-append_right xs ys x other)
      ],
      λ h. (b.each x).1 (elim h [
        | inl first ↦ inl ((a.each x).1 (inl first))
        | inr more ↦ elim (Contains-append_cases xs ys x more) [
          | inl one ↦ inl ((a.each x).1 (inr one))
          | inr other ↦ inr other
        ]
      ]),
    );
  }

  -- a step of a loop that adds one element after the other
  pub Joins-take_one : (xs : List X) (i : ℕ) (d : X) → i < length xs → {old mid new : List X}
      → Joins old (take i xs) mid → Joins mid (get_or xs i d ∷ []) new → Joins old (take (i + 1) xs) new
  Joins-take_one xs i d inside {old} {mid} {new} before step =
      subst (λ ys. Joins old ys new) (sym (take_more xs i d inside))
      (Joins-then (take i xs) (get_or xs i d ∷ []) before step)

module _ {A X : Type 0} where
  -- of one element more, what is made of it is more
  pub flat_map-more : (f : A → List X) (xs : List A) (i : ℕ) (d : A) → i < length xs
      → flat_map f (take (i + 1) xs) ≡ flat_map f (take i xs) ++ f (get_or xs i d)
  flat_map-more f xs i d inside =
      let x = get_or xs i d in
      ap (flat_map f) (take_more xs i d inside) ∙ flat_map-append f (take i xs) (x ∷ [])
      ∙ ap (λ ys. flat_map f (take i xs) ++ ys) (append-nil (f x))

  -- a step of a loop that adds the image of one element after the other
  pub Joins-take_image : (f : A → X) (xs : List A) (i : ℕ) (d : A) → i < length xs → {old mid new : List X}
      → Joins old (map f (take i xs)) mid → Joins mid (f (get_or xs i d) ∷ []) new
      → Joins old (map f (take (i + 1) xs)) new
  Joins-take_image f xs i d inside {old} {mid} {new} before step =
      let x = get_or xs i d in
      subst (λ ys. Joins old ys new)
      (sym (ap (map f) (take_more xs i d inside) ∙ map_push f (take i xs) x))
      (Joins-then (map f (take i xs)) (f x ∷ []) before step)

  -- a step of a loop that adds the list of one element after the other
  pub Joins-take_list : (f : A → List X) (xs : List A) (i : ℕ) (d : A) → i < length xs
      → {old mid new : List X}
      → Joins old (flat_map f (take i xs)) mid → Joins mid (f (get_or xs i d)) new
      → Joins old (flat_map f (take (i + 1) xs)) new
  Joins-take_list f xs i d inside {old} {mid} {new} before step =
      subst (λ ys. Joins old ys new) (sym (flat_map-more f xs i d inside))
      (Joins-then (flat_map f (take i xs)) (f (get_or xs i d)) before step)

module _ {X : Type 0} where
  -- what is given where numbers are one is nothing where they are not
  pub Joins-here : (m n : ℕ) → m ≡ n → (xs seen new : List X) → Joins seen xs new
      → Joins seen (if m == n then xs else []) new
  Joins-here m n here xs seen new joins = rw (eq-eqb m n here) joins

  pub Joins-elsewhere : (m n : ℕ) → (m ≡ n → ⊥) → (xs seen : List X)
      → Joins seen (if m == n then xs else []) seen
  Joins-elsewhere m n other xs seen =
      elim (m == n) as (λ b. (m == n) ≡ b → Joins seen (if b then xs else []) seen) [
        | true ↦ λ h. absurd (other (eqb-true m n h))
        | false ↦ λ h. Joins-none seen
      ] refl

-- the same of keys that are noted
module _ {N : Type 0} {notes : N → N → List Key → Type 0} (laws : IsNoting notes) where
  pub notes-take_list : {A : Type 0} (f : A → List Key) (xs : List A) (i : ℕ) (d : A) → i < length xs
      → {old mid new : N} → notes old mid (flat_map f (take i xs)) → notes mid new (f (get_or xs i d))
      → notes old new (flat_map f (take (i + 1) xs))
  notes-take_list f xs i d inside {old} {mid} {new} before step =
      subst (notes old new) (sym (flat_map-more f xs i d inside))
      (laws.then (flat_map f (take i xs)) (f (get_or xs i d)) before step)

  pub notes-elsewhere : (m n : ℕ) → (m ≡ n → ⊥) → (keys : List Key) (a : N)
      → notes a a (if m == n then keys else [])
  notes-elsewhere m n other keys a =
      elim (m == n) as (λ b. (m == n) ≡ b → notes a a (if b then keys else [])) [
        | true ↦ λ h. absurd (other (eqb-true m n h))
        | false ↦ λ h. laws.none a
      ] refl
