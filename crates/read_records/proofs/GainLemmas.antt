-- Pairs that are added behind those that were found.
use Rattle.std.specs.Prelude.{◌≡◌, ℕ, ◌+◌, ◌<◌, true, false, List, [], ◌∷◌, ◌++◌, length, take, Contains}
use Rattle.std.specs.Prelude.{if◌then◌else◌, map, ◌↔◌, ◌⊎◌}
use Rattle.std.specs.List.{list_any}
use Rattle.std.proofs.Common.{refl, sym, ap, ◌∙◌, subst, inl, inr, get_or, append_assoc, append-nil, arith}
use Rattle.std.proofs.lemmas.List.{get_or_default, take_more, take-append-le}
use Rattle.indexmap.specs.IndexSet.{insert_key}
use Rattle.shx_term.proofs.MemberLemmas.{Contains-from_map, Contains-insert, Contains-map}
use Rattle.comp_core.specs.declared.pair.Pair.{Pair}
use Rattle.comp_core.specs.Pairs.{same_pair, same_pair_equiv, same_pair_exact}
use Rattle.read_records.proofs.ReadingLemmas.{Contains-taken}
use Rattle.read_records.specs.declared.reader.Reader.{Reader}
use Rattle.read_records.specs.declared.reader.Reader.TheVariants.{OfPair}
use Rattle.read_records.specs.inner.Reached.{Gains}

-- the same pairs, said in another way
pub Gains-same : {old new : List Pair} {P Q : Pair → Type 0} → Gains old new P → ((p : Pair) → P p ↔ Q p)
    → Gains old new Q
Gains-same gains same = record {
  more = gains.more;
  behind = gains.behind;
  each = λ p. (
    λ c. elim ((gains.each p).0 c) [ inl held ↦ inl held | inr more ↦ inr ((same p).0 more) ],
    λ h. (gains.each p).1 (elim h [ inl held ↦ inl held | inr more ↦ inr ((same p).1 more) ]),
  );
}

-- none
pub Gains-none : (P : Pair → Type 0) (found : List Pair) → ((p : Pair) → P p → ⊥) → Gains found found P
Gains-none P found none = record {
  more = [];
  behind = sym (append-nil found);
  each = λ p. (λ c. inl c, λ h. elim h [ inl held ↦ held | inr more ↦ absurd (none p more) ]);
}

-- some, and then others
pub Gains-then : {old mid new : List Pair} {P Q : Pair → Type 0} → Gains old mid P → Gains mid new Q
    → Gains old new (λ p. P p ⊎ Q p)
Gains-then {old} first next = record {
  more = first.more ++ next.more;
  behind = next.behind ∙ ap (λ ps. ps ++ next.more) first.behind ∙ append_assoc old first.more next.more;
  each = λ p. (
    λ c. elim ((next.each p).0 c) [
      | inl mid ↦ elim ((first.each p).0 mid) [ inl held ↦ inl held | inr more ↦ inr (inl more) ]
      | inr more ↦ inr (inr more)
    ],
    λ h. (next.each p).1 (elim h [
      | inl held ↦ inl ((first.each p).1 (inl held))
      | inr more ↦ elim more [ inl one ↦ inl ((first.each p).1 (inr one)) | inr other ↦ inr other ]
    ]),
  );
}

-- one, if it is not there
pub Gains-inserted : (found : List Pair) (q : Pair) → Gains found (insert_key same_pair found q) (λ p. p ≡ q)
Gains-inserted found q =
    let added = elim (list_any (same_pair q) found) as
    (λ b. (more : List Pair) × ((if b then found else found ++ q ∷ []) ≡ found ++ more)) [
      | true ↦ ([], sym (append-nil found))
      | false ↦ (q ∷ [], refl)
    ] in
    record {
      more = added.0;
      behind = added.1;
      each = Contains-insert same_pair same_pair_equiv same_pair_exact found q;
    }

-- the first of them, up to one that was there
pub first_taken : (found new more : List Pair) (at : ℕ) (p : Pair) → new ≡ found ++ more → at < length found
    → p ≡ get_or found at p → take (at + 1) new ≡ take at found ++ p ∷ []
first_taken found new more at p behind inside here =
    ap (take (at + 1)) behind ∙ take-append-le (at + 1) found more (omega (arith, inside))
    ∙ take_more found at p inside ∙ ap (λ q. take at found ++ q ∷ []) (sym here)

-- one that was read in a slice, with any default
pub read_at : (found slice : List Pair) (at : ℕ) (d : Pair) → slice ≡ found → at < length slice
    → get_or slice at d ≡ get_or found at (get_or slice at d)
read_at found slice at d same inside =
    sym (get_or_default slice at (get_or slice at d) d inside)
    ∙ ap (λ ps. get_or ps at (get_or slice at d)) same

-- ---- the pairs among some readers

same_of : (p q : Pair) → OfPair p ≡ OfPair q → p ≡ q
same_of p q e = cc

module _ (readers : List Reader) (i : ℕ) (d : Reader) (inside : i < length readers) {old found : List Pair}
    (before : Gains old found (λ p. Contains (take i readers) (OfPair p)))
  where
    -- the next of them is a pair
    pub Gains-pair : (q : Pair) → get_or readers i d ≡ OfPair q
        → Gains old (insert_key same_pair found q) (λ p. Contains (take (i + 1) readers) (OfPair p))
    Gains-pair q is =
        Gains-same (Gains-then before (Gains-inserted found q)) (λ p.
        let taken = Contains-taken readers i d inside (OfPair p) in (
          λ h. taken.1 (elim h [ inl c ↦ inl c | inr same ↦ inr (ap OfPair same ∙ sym is) ]),
          λ c. elim (taken.0 c) [ inl e ↦ inl e | inr same ↦ inr (same_of p q (same ∙ is)) ],
        ))

    -- or it is none
    pub Gains-target : ((q : Pair) → get_or readers i d ≡ OfPair q → ⊥)
        → Gains old found (λ p. Contains (take (i + 1) readers) (OfPair p))
    Gains-target other =
        Gains-same before (λ p.
        let taken = Contains-taken readers i d inside (OfPair p) in (
          λ c. taken.1 (inl c),
          λ c. elim (taken.0 c) [ inl e ↦ e | inr same ↦ absurd (other p (sym same)) ],
        ))

-- ---- the readers of some pairs

-- those of the pairs that are not left
pub record AreReaders (readers : List Reader) (left all : List Pair) : Type 0 where
  pub is : readers ++ map OfPair left ≡ map OfPair all

pub AreReaders-more : {readers : List Reader} {left next all : List Pair} {p : Pair} → left ≡ p ∷ next
    → AreReaders readers left all → AreReaders (readers ++ OfPair p ∷ []) next all
AreReaders-more {readers} {next = next} {p = p} at before = record {
  is = append_assoc readers (OfPair p ∷ []) (map OfPair next)
      ∙ ap (λ ps. readers ++ map OfPair ps) (sym at)
      ∙ before.is;
}

-- of all of them, which have a property
pub AreReaders-all : {P : Pair → Type 0} {readers : List Reader} {left all : List Pair}
    → AreReaders readers left all → left ≡ [] → ((p : Pair) → Contains all p ↔ P p)
    → (p : Pair) → Contains readers (OfPair p) ↔ P p
AreReaders-all {readers = readers} {all = all} are none each p =
    let of : readers ≡ map OfPair all =
    sym (append-nil readers) ∙ ap (λ ps. readers ++ map OfPair ps) (sym none) ∙ are.is in (
      λ c.
          let from = Contains-from_map OfPair all (OfPair p) (subst (λ rs. Contains rs (OfPair p)) of c) in
          (each p).0 (subst (Contains all) (sym (same_of p from.0 from.2)) from.1),
      λ h. subst (λ rs. Contains rs (OfPair p)) (sym of) (Contains-map OfPair all p ((each p).1 h)),
    )
