-- Pairs of which something is kept: where the notes of readers stand in order, so do they.
use Rattle.std.specs.Prelude.{◌≡◌, ℕ, Bool, true, false, List, [], ◌∷◌, ◌++◌, flat_map, Option, Some, None}
use Rattle.std.specs.Prelude.{Contains, IsSome, is_some}
use Rattle.std.specs.Cmp.{eq_by_cmp_equiv}
use Rattle.std.specs.List.{AllByRecursion}
use Rattle.std.specs.List.Sorted.{IsStrictlySortedBy}
use Rattle.std.specs.Map.{keys_of}
use Rattle.std.specs.Option.{option_map}
use Rattle.std.specs.declared.cmp.Ordering.TheVariants.{Less}
use Rattle.std.proofs.Common.{refl, sym, ap, ◌∙◌, subst, append-nil, true≢false}
use Rattle.std.proofs.lemmas.Map.Keys.{IsDistinct-from_sorted}
use Rattle.std.proofs.lemmas.Map.Views.{Contains-from_lookup, lookup-from_Contains, tells_apart}
use Rattle.shx_term.proofs.MemberLemmas.{Contains-flat_map, Contains-from_flat_map, Contains-head}
use Rattle.shx_term.proofs.MemberLemmas.{Contains-one, none_in_empty}
use Rattle.shx_term.specs.InOrder.{Lists}
use Rattle.comp_core.specs.declared.pair.Pair.{Pair}
use Rattle.read_records.proofs.ReadingLemmas.{reader_cmp_exact}
use Rattle.read_records.proofs.SeenLemmas.{kept_seen}
use Rattle.read_records.specs.declared.reader.Reader.{Reader}
use Rattle.read_records.specs.declared.reader.Reader.TheVariants.{OfPair, OfTarget}
use Rattle.read_records.specs.Reader.{reader_cmp}
use Rattle.read_records.specs.Recall.{pair_cmp}
use Rattle.read_records.specs.Store.{Notes, Stored, if_noted, kept_for, note_at}
use Rattle.read_records.specs.inner.Notes.{stored_seen}
use Rattle.read_records.specs.inner.ReaderLaws.{reader_cmp_total}

module _ {V : Type 0} where
  -- the pair of an entry, where something is noted
  abbrev pub pair_in : Reader → Option V → List Pair
  pair_in (OfTarget shape) noted = []
  pair_in (OfPair p) None = []
  pair_in (OfPair p) (Some noted) = p ∷ []

  -- there is none of a target, nor where nothing is noted
  pub none_in_target : (reader : Reader) (noted : Option V) {shape : ℕ} → reader ≡ OfTarget shape
      → pair_in reader noted ≡ []
  none_in_target reader noted is = ap (λ r. pair_in r noted) is

  pub none_where_none : (reader : Reader) (noted : Option V) → is_some noted ≡ false
      → pair_in reader noted ≡ []
  none_where_none (OfTarget shape) noted none = refl
  none_where_none (OfPair p) None none = refl
  none_where_none (OfPair p) (Some value) none = absurd (true≢false none)

  abbrev pub pairs_in : Notes V → List Pair
  pairs_in notes = flat_map (λ e. pair_in e.0 e.1) notes

  -- ---- found in turn

  -- those of the entries that are not left were found
  pub record AreFound (all left : Notes V) (found : List Pair) : Type 0 where
    pub is : found ++ pairs_in left ≡ pairs_in all

  pub AreFound-none : {all : Notes V} → AreFound all all []
  AreFound-none = record { is = refl }

  -- the next of them has none
  pub AreFound-skip : {all left next : Notes V} {found : List Pair} {reader : Reader} {noted : Option V}
      → left ≡ (reader, noted) ∷ next → AreFound all left found → pair_in reader noted ≡ []
      → AreFound all next found
  AreFound-skip {next = next} {found = found} at before none = record {
    is = ap (λ pairs. found ++ (pairs ++ pairs_in next)) (sym none)
        ∙ ap (λ left. found ++ pairs_in left) (sym at)
        ∙ before.is;
  }

  -- ---- in order

  -- a pair is below those of the entries whose readers it is below
  below : (p : Pair) (notes : Notes V)
      → AllByRecursion (λ r. reader_cmp (OfPair p) r ≡ Less) (keys_of notes)
      → AllByRecursion (λ q. pair_cmp p q ≡ Less) (pairs_in notes)
  below p [] less = tt
  below p (e ∷ rest) less = one_more e.0 e.1 less.0 (below p rest less.1)
    where
      one_more : (reader : Reader) (noted : Option V) → reader_cmp (OfPair p) reader ≡ Less
          → AllByRecursion (λ q. pair_cmp p q ≡ Less) (pairs_in rest)
          → AllByRecursion (λ q. pair_cmp p q ≡ Less) (pair_in reader noted ++ pairs_in rest)
      one_more (OfTarget shape) noted first later = later
      one_more (OfPair q) None first later = later
      one_more (OfPair q) (Some noted) first later = (first, later)

  pairs_sorted : (notes : Notes V) → IsStrictlySortedBy reader_cmp (keys_of notes)
      → IsStrictlySortedBy pair_cmp (pairs_in notes)
  unfolding IsStrictlySortedBy
  pairs_sorted [] sorted = tt
  pairs_sorted (e ∷ rest) sorted = one_more e.0 e.1 sorted.0 (pairs_sorted rest sorted.1)
    where
      one_more : (reader : Reader) (noted : Option V)
          → AllByRecursion (λ r. reader_cmp reader r ≡ Less) (keys_of rest)
          → IsStrictlySortedBy pair_cmp (pairs_in rest)
          → IsStrictlySortedBy pair_cmp (pair_in reader noted ++ pairs_in rest)
      one_more (OfTarget shape) noted less later = later
      one_more (OfPair p) None less later = later
      one_more (OfPair p) (Some noted) less later = (below p rest less, later)

  -- ---- what they are

  -- where an entry has a pair, it is its reader, and something is noted
  noted_in : (reader : Reader) (noted : Option V) (p : Pair) → Contains (pair_in reader noted) p
      → (value : V) × (◌≡◌ {A = Reader × Option V} (reader, noted) (OfPair p, Some value))
  noted_in (OfTarget shape) noted p c = absurd (none_in_empty p c)
  noted_in (OfPair q) None p c = absurd (none_in_empty p c)
  noted_in (OfPair q) (Some value) p c = (value, λ i. (OfPair (sym ((Contains-one q p).0 c) i), Some value))

  module _ (notes : Notes V) (p : Pair) where
    has_noted : IsStrictlySortedBy reader_cmp (keys_of notes) → Contains (pairs_in notes) p
        → IsSome (if_noted (note_at notes (OfPair p)))
    has_noted sorted c =
        let from = Contains-from_flat_map (λ e. pair_in e.0 e.1) notes p c in
        let entry = noted_in from.0.0 from.0.1 p from.2 in
        ap (λ note. is_some (if_noted note))
        (lookup-from_Contains (eq_by_cmp_equiv reader_cmp_total) (OfPair p) (Some entry.0) notes
        (IsDistinct-from_sorted reader_cmp (keys_of notes) sorted) (subst (Contains notes) entry.1 from.1))

    is_found : (note : Option (Option V)) → note_at notes (OfPair p) ≡ note → IsSome (if_noted note)
        → Contains (pairs_in notes) p
    is_found None at some = absurd (true≢false (sym some))
    is_found (Some None) at some = absurd (true≢false (sym some))
    is_found (Some (Some value)) at some =
        Contains-flat_map (λ e. pair_in e.0 e.1) notes (OfPair p, Some value) p
        (Contains-from_lookup (tells_apart reader_cmp_exact) (OfPair p) (Some value) notes at)
        (Contains-head p [])

  -- once no entry is left, the pairs that were found are those for which something is noted
  pub Lists-found : {all left : Notes V} {found : List Pair} → IsStrictlySortedBy reader_cmp (keys_of all)
      → AreFound all left found → left ≡ []
      → Lists pair_cmp (λ p. IsSome (if_noted (note_at all (OfPair p)))) found
  Lists-found {all} {found = found} sorted are none =
      subst (Lists pair_cmp (λ p. IsSome (if_noted (note_at all (OfPair p)))))
      (sym are.is ∙ ap (λ left. found ++ pairs_in left) none ∙ append-nil found) (record {
        sorted = pairs_sorted all sorted;
        each = λ p. (has_noted all p sorted, is_found all p (note_at all (OfPair p)) refl);
      })

-- something is kept for the same pairs, by whatever function it is seen
pub Lists-seen : {V W : Type 0} (f : V → W) (state : Stored V) (pairs : List Pair)
    → Lists pair_cmp (λ p. IsSome (kept_for state (OfPair p))) pairs
    → Lists pair_cmp (λ p. IsSome (kept_for (stored_seen f state) (OfPair p))) pairs
Lists-seen {V} f state pairs =
    subst (λ (kept : Pair → Bool). Lists pair_cmp (λ p. kept p ≡ true) pairs) (λ i p. same p i)
  where
    seen : (noted : Option V) → is_some noted ≡ is_some (option_map f noted)
    seen None = refl
    seen (Some value) = refl

    same : (p : Pair)
        → is_some (kept_for state (OfPair p)) ≡ is_some (kept_for (stored_seen f state) (OfPair p))
    same p =
        seen (kept_for state (OfPair p))
        ∙ ap (λ noted. is_some noted) (sym (kept_seen f state (OfPair p)))
