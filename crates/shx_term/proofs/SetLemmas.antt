-- Lists seen as sets: with the same members, and what is added to one, at once or in a loop.
use Rattle.std.proofs.Common.{◌≡◌, ℕ, Bool, true, ◌+◌, ◌<◌, List, [], ◌∷◌, ◌++◌, length, get_or, take}
use Rattle.std.proofs.Common.{sym, subst, ap, ◌∙◌, inl, inr, append-nil}
use Rattle.std.specs.Prelude.{if◌then◌else◌, map, filter, flat_map, Contains}
use Rattle.std.specs.Cmp.{IsEquivalence}
use Rattle.std.specs.List.{list_any}
use Rattle.std.proofs.lemmas.Grind.{flat_map-append}
use Rattle.std.proofs.lemmas.List.{take_more, get_or_default}
use Rattle.std.proofs.lemmas.List.Elements.{Contains-append_left, Contains-append_right}
use Rattle.std.proofs.lemmas.List.Elements.{Contains-append_cases}
use Rattle.shx_term.specs.Members.{SameMembers, Adds}
use Rattle.shx_term.proofs.MemberLemmas.{Contains-insert, Contains-one, none_in_empty}
use Rattle.shx_term.proofs.MemberLemmas.{Contains-map, Contains-from_map, Contains-filter}
use Rattle.shx_term.proofs.MemberLemmas.{Contains-from_filter, Contains-flat_map, Contains-from_flat_map}

module _ {X : Type 0} where
  pub SameMembers-itself : (xs : List X) → SameMembers xs xs
  SameMembers-itself xs = record { each = λ x. (λ c. c, λ c. c) }

  pub SameMembers-is : (xs ys : List X) → xs ≡ ys → SameMembers xs ys
  SameMembers-is xs ys e = subst (SameMembers xs) e (SameMembers-itself xs)

  pub SameMembers-sym : {xs ys : List X} → SameMembers xs ys → SameMembers ys xs
  SameMembers-sym same = record { each = λ x. ((same.each x).1, (same.each x).0) }

  pub SameMembers-then : {xs ys zs : List X} → SameMembers xs ys → SameMembers ys zs → SameMembers xs zs
  SameMembers-then a b = record {
    each = λ x. (λ c. (b.each x).0 ((a.each x).0 c), λ c. (a.each x).1 ((b.each x).1 c));
  }

  append_to : (xs ys xs' ys' : List X) → SameMembers xs xs' → SameMembers ys ys' → (x : X)
      → Contains (xs ++ ys) x → Contains (xs' ++ ys') x
  append_to xs ys xs' ys' a b x c = elim (Contains-append_cases xs ys x c) [
    | inl d ↦ Contains-append_left xs' ys' x ((a.each x).0 d)
    | inr d ↦ Contains-append_right xs' ys' x ((b.each x).0 d)
  ]

  pub SameMembers-append : (xs ys xs' ys' : List X) → SameMembers xs xs' → SameMembers ys ys'
      → SameMembers (xs ++ ys) (xs' ++ ys')
  SameMembers-append xs ys xs' ys' a b = record {
    each = λ x. (
      append_to xs ys xs' ys' a b x,
      append_to xs' ys' xs ys (SameMembers-sym a) (SameMembers-sym b) x,
    );
  }

  filter_to : (p : X → Bool) (xs ys : List X) → SameMembers xs ys → (x : X)
      → Contains (filter p xs) x → Contains (filter p ys) x
  filter_to p xs ys same x c =
      let kept = Contains-from_filter p xs x c in
      Contains-filter p ys x ((same.each x).0 kept.0) kept.1

  -- the same members pass a test
  pub SameMembers-filter : (p : X → Bool) (xs ys : List X) → SameMembers xs ys
      → SameMembers (filter p xs) (filter p ys)
  SameMembers-filter p xs ys same = record {
    each = λ x. (filter_to p xs ys same x, filter_to p ys xs (SameMembers-sym same) x);
  }

  pub Adds-none : (xs : List X) → Adds xs xs []
  Adds-none xs = record {
    each = λ x. (λ c. inl c, λ h. elim h [ inl c ↦ c | inr c ↦ absurd (none_in_empty x c) ]);
  }

  -- an insertion adds the one element
  pub Adds-insert : (same : X → X → Bool) → IsEquivalence same → ((x y : X) → same x y ≡ true → x ≡ y)
      → (xs : List X) (x : X) → Adds xs (if list_any (same x) xs then xs else xs ++ x ∷ []) (x ∷ [])
  Adds-insert same laws exact xs x = record {
    each = λ y.
        let inserted = Contains-insert same laws exact xs x y in (
          λ c. elim (inserted.0 c) [ inl held ↦ inl held | inr e ↦ inr ((Contains-one x y).1 e) ],
          λ h. inserted.1 (elim h [ inl held ↦ inl held | inr one ↦ inr ((Contains-one x y).0 one) ]),
        );
  }

  -- one after the other
  pub Adds-then : {old mid new : List X} (xs ys : List X) → Adds old mid xs → Adds mid new ys
      → Adds old new (xs ++ ys)
  Adds-then xs ys a b = record {
    each = λ x. (
      λ c. elim ((b.each x).0 c) [
        | inl held ↦ elim ((a.each x).0 held) [
          | inl old ↦ inl old
          | inr first ↦ inr (Contains-append_left xs ys x first)
        ]
        | inr second ↦ inr (Contains-append_right xs ys x second)
      ],
      λ h. (b.each x).1 (elim h [
        | inl old ↦ inl ((a.each x).1 (inl old))
        | inr more ↦ elim (Contains-append_cases xs ys x more) [
          | inl first ↦ inl ((a.each x).1 (inr first))
          | inr second ↦ inr second
        ]
      ]),
    );
  }

  -- the same members are added
  pub Adds-same : {old new : List X} (xs ys : List X) → SameMembers xs ys → Adds old new xs → Adds old new ys
  Adds-same xs ys same adds = record {
    each = λ x. (
      λ c. elim ((adds.each x).0 c) [ inl old ↦ inl old | inr more ↦ inr ((same.each x).0 more) ],
      λ h. (adds.each x).1 (elim h [ inl old ↦ inl old | inr more ↦ inr ((same.each x).1 more) ]),
    );
  }

  -- a step of a loop that adds the elements of a list
  pub Adds-take_one : (xs : List X) (i : ℕ) (d : X) → i < length xs → {old mid new : List X}
      → Adds old mid (take i xs) → Adds mid new (get_or xs i d ∷ []) → Adds old new (take (i + 1) xs)
  Adds-take_one xs i d inside {old} {mid} {new} before step =
      subst (Adds old new) (sym (take_more xs i d inside))
      (Adds-then (take i xs) (get_or xs i d ∷ []) before step)

-- what is made of the same members has the same members
module _ {A B : Type 0} where
  map_to : (f : A → B) (xs ys : List A) → SameMembers xs ys → (y : B)
      → Contains (map f xs) y → Contains (map f ys) y
  map_to f xs ys same y c =
      let found = Contains-from_map f xs y c in
      subst (Contains (map f ys)) (sym found.2) (Contains-map f ys found.0 ((same.each found.0).0 found.1))

  pub SameMembers-map : (f : A → B) (xs ys : List A) → SameMembers xs ys → SameMembers (map f xs) (map f ys)
  SameMembers-map f xs ys same = record {
    each = λ y. (map_to f xs ys same y, map_to f ys xs (SameMembers-sym same) y);
  }

  flat_map_to : (f g : A → List B) (xs ys : List A) → SameMembers xs ys
      → ((z : A) → Contains xs z → SameMembers (f z) (g z))
      → (x : B) → Contains (flat_map f xs) x → Contains (flat_map g ys) x
  flat_map_to f g xs ys same each x c =
      let found = Contains-from_flat_map f xs x c in
      let z = found.0 in
      Contains-flat_map g ys z x ((same.each z).0 found.1) (((each z found.1).each x).0 found.2)

  pub SameMembers-flat_map : (f g : A → List B) (xs ys : List A) → SameMembers xs ys
      → ((z : A) → Contains xs z → SameMembers (f z) (g z))
      → SameMembers (flat_map f xs) (flat_map g ys)
  SameMembers-flat_map f g xs ys same each = record {
    each = λ x. (
      flat_map_to f g xs ys same each x,
      flat_map_to g f ys xs (SameMembers-sym same)
          (λ z c. SameMembers-sym (each z ((same.each z).1 c))) x,
    );
  }

  -- the same of one list
  pub SameMembers-parts : (f g : A → List B) (xs : List A)
      → ((z : A) → Contains xs z → SameMembers (f z) (g z)) → SameMembers (flat_map f xs) (flat_map g xs)
  SameMembers-parts f g xs each = SameMembers-flat_map f g xs xs (SameMembers-itself xs) each

  -- a step of a loop that adds what is made of one element after the other
  pub Adds-take_more : (f : A → List B) (xs : List A) (i : ℕ) (d : A) → i < length xs
      → {old mid new : List B} → Adds old mid (flat_map f (take i xs)) → Adds mid new (f (get_or xs i d))
      → Adds old new (flat_map f (take (i + 1) xs))
  Adds-take_more f xs i d inside {old} {mid} {new} before step =
      let x = get_or xs i d in
      let all : flat_map f (take (i + 1) xs) ≡ flat_map f (take i xs) ++ f x =
      ap (flat_map f) (take_more xs i x inside)
      ∙ flat_map-append f (take i xs) (get_or xs i x ∷ [])
      ∙ ap (λ ks. flat_map f (take i xs) ++ ks) (append-nil (f (get_or xs i x)))
      ∙ ap (λ y. flat_map f (take i xs) ++ f y) (get_or_default xs i x d inside) in
      subst (Adds old new) (sym all) (Adds-then (flat_map f (take i xs)) (f x) before step)
