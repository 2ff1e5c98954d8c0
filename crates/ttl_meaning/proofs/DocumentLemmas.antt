-- What the tables of a map and of a set list, in the order of their texts, and what a document is by them.
use Rattle.std.proofs.Common.{◌≡◌, ℕ, ◌-◌, cond, List, [], ◌∷◌, ◌++◌, map, Some, None}
use Rattle.std.proofs.Common.{refl, sym, ap, ◌∙◌, subst, String}
use Rattle.std.specs.Prelude.{Contains, ◌||◌, string_bytes}
use Rattle.std.specs.declared.cmp.Ordering.{Ordering}
use Rattle.std.specs.declared.cmp.Ordering.TheVariants.{Less}
use Rattle.std.specs.BTreeMap as tree
use Rattle.std.specs.BTreeMap.{BTreeMap, is_at}
use Rattle.std.specs.BTreeSet as sorted_set
use Rattle.std.specs.BTreeSet.{BTreeSet}
use Rattle.std.specs.Cmp.{eq_by_cmp_equiv}
use Rattle.std.specs.Cmp.Lexicographic.{slice_cmp, nat_list_cmp_total}
use Rattle.std.specs.List.{AllByRecursion, IsDistinct, list_any}
use Rattle.std.specs.List.Sorted.{IsStrictlySortedBy}
use Rattle.std.specs.Map.{lookup, keys_of}
use Rattle.std.specs.Ordering.{nat_cmp, eq_by_cmp}
use Rattle.std.specs.String.{string_cmp}
use Rattle.std.proofs.lemmas.List.{append-nil}
use Rattle.std.proofs.lemmas.Map.Keys.{IsDistinct-from_sorted}
use Rattle.std.proofs.lemmas.Map.Lookups.{exact_bytes}
use Rattle.std.proofs.lemmas.Map.Views.{tells_apart, Contains-from_lookup, lookup-from_Contains}
use Rattle.std.proofs.lemmas.Simd.{map-map}
use Rattle.iri_resolve.specs.Resolution.{IsAbsolute}
use Rattle.shx_term.specs.Pool.{Pooled}
use Rattle.shx_term.proofs.MemberLemmas.{Contains-map, Contains-from_map, Contains-test}
use Rattle.ttl_meaning.specs.declared.document.Document.{Document}
use Rattle.ttl_meaning.specs.declared.document.Prefix.{Prefix}
use Rattle.ttl_meaning.specs.declared.reader_state.ReaderState.{ReaderState}
use Rattle.ttl_meaning.specs.inner.DocumentOf.{ArePrefixes, AreLabels, IsDocumentOf}
use Rattle.ttl_meaning.specs.inner.IsReading.{Keeps}
use Rattle.ttl_meaning.specs.IsStated.{Bounds, IsWithin}
use Rattle.ttl_meaning.specs.State.{State}

-- what is sorted by its images has sorted images
module _ {X Y : Type 0} (cmp : Y → Y → Ordering) (f : X → Y) where
  below-map : (x : X) (ys : List X) → AllByRecursion (λ y. cmp (f x) (f y) ≡ Less) ys
      → AllByRecursion (λ z. cmp (f x) z ≡ Less) (map f ys)
  below-map x [] below = tt
  below-map x (y ∷ ys) below = (below.0, below-map x ys below.1)

  sorted-map : (xs : List X) → IsStrictlySortedBy (λ x y. cmp (f x) (f y)) xs
      → IsStrictlySortedBy cmp (map f xs)
  unfolding IsStrictlySortedBy
  sorted-map [] sorted = tt
  sorted-map (x ∷ xs) sorted = (below-map x xs sorted.0, sorted-map xs sorted.1)

-- where nothing is left, all is done
pub none_left : {X Y : Type 0} (f : X → Y) (done : List Y) (left all : List X) → left ≡ []
    → done ++ map f left ≡ map f all → done ≡ map f all
none_left f done left all none is = sym (append-nil done) ∙ ap (λ xs. done ++ map f xs) (sym none) ∙ is

abbrev text_cmp : List ℕ → List ℕ → Ordering
text_cmp = slice_cmp nat_cmp

abbrev prefix : List ℕ × List ℕ → Prefix
prefix e = record { name = e.0; iri = e.1 }

module _ {A : Type 0} where
  -- what an entry of a map stands for
  abbrev pub prefix_of_entry : String A × List ℕ → Prefix
  prefix_of_entry e = record { name = string_bytes e.0; iri = e.1 }

  -- an entry, with the bytes of its name
  abbrev texts : String A × List ℕ → List ℕ × List ℕ
  texts e = (string_bytes e.0, e.1)

  -- a text finds among the names what it finds among the keys
  lookup-texts : (text : List ℕ) (es : List (String A × List ℕ))
      → lookup (is_at (λ k. text_cmp text (string_bytes k))) es
      ≡ lookup (eq_by_cmp text_cmp text) (map texts es)
  lookup-texts text [] = refl
  lookup-texts text (e ∷ es) =
      ap (cond (eq_by_cmp text_cmp text (string_bytes e.0)) (Some e.1)) (lookup-texts text es)

  any-texts : (text : List ℕ) (ks : List (String A))
      → list_any (is_at (λ k. text_cmp text (string_bytes k))) ks
      ≡ list_any (eq_by_cmp text_cmp text) (map string_bytes ks)
  any-texts text [] = refl
  any-texts text (k ∷ ks) =
      ap (λ b. eq_by_cmp text_cmp text (string_bytes k) || b) (any-texts text ks)

  -- the entries of a map, in their order, are the table of its prefixes
  pub ArePrefixes-entries : (m : BTreeMap (String A) (List ℕ)) (table : List Prefix)
      → tree.IsOrdered string_cmp m → table ≡ map prefix_of_entry m.entries → ArePrefixes m table
  ArePrefixes-entries m table ordered is =
      let es = m.entries in
      let named = map texts es in
      let ascends : IsStrictlySortedBy text_cmp (map string_bytes (keys_of es)) =
      sorted-map text_cmp string_bytes (keys_of es) ordered in
      let apart : IsDistinct (eq_by_cmp text_cmp) (keys_of named) =
      IsDistinct-from_sorted text_cmp (keys_of named)
      (subst (IsStrictlySortedBy text_cmp)
      (map-map string_bytes (λ e. e.0) es ∙ sym (map-map (λ (e : List ℕ × List ℕ). e.0) texts es)) ascends) in
      let all : table ≡ map prefix named = is ∙ sym (map-map prefix texts es) in
      record {
        sorted =
            subst (IsStrictlySortedBy text_cmp)
            (map-map string_bytes (λ e. e.0) es ∙ sym (map-map (λ (p : Prefix). p.name) prefix_of_entry es)
            ∙ ap (map (λ (p : Prefix). p.name)) (sym is)) ascends;
        each = λ p. (
          λ c.
              let from = Contains-from_map prefix named p (subst (λ ps. Contains ps p) all c) in
              let same : from.0 ≡ (p.name, p.iri) = ap (λ (q : Prefix). (q.name, q.iri)) (sym from.2) in
              lookup-texts p.name es
              ∙ lookup-from_Contains (eq_by_cmp_equiv nat_list_cmp_total) p.name p.iri named apart
              (subst (Contains named) same from.1),
          λ e.
              let held = Contains-from_lookup (tells_apart exact_bytes) p.name p.iri named
              (sym (lookup-texts p.name es) ∙ e) in
              subst (λ ps. Contains ps p) (sym all) (Contains-map prefix named (p.name, p.iri) held),
        );
      }

  -- the keys of a set, in their order, are the table of its labels
  pub AreLabels-keys : (m : BTreeSet (String A)) (table : List (List ℕ))
      → sorted_set.IsOrdered string_cmp m → table ≡ map string_bytes m.keys → AreLabels m table
  AreLabels-keys m table ordered is =
      let labels = map string_bytes m.keys in
      let test =
      Contains-test (eq_by_cmp text_cmp) (eq_by_cmp_equiv nat_list_cmp_total) (tells_apart exact_bytes)
      labels in
      subst (AreLabels m) (sym is) (record {
        sorted = sorted-map text_cmp string_bytes m.keys ordered;
        each = λ label. (
          λ c. any-texts label m.keys ∙ (test label).1 c,
          λ e. (test label).0 (sym (any-texts label m.keys) ∙ e),
        );
      })

-- what is made of a reading that keeps a state, within the limits, is the document of that state
pub IsDocumentOf-kept : (bounds : Bounds) (s : State) (r : ReaderState) (pool : Pooled) (document : Document)
    → Keeps bounds s r pool → r.stated.excess ≡ None
    → document.triples ≡ r.stated.triples → ArePrefixes r.prefixes document.prefixes.items
    → document.base ≡ r.base → IsAbsolute document.base → AreLabels r.labels document.labels.items
    → document.anonymous ≡ r.next - 1 → IsDocumentOf bounds s document pool
IsDocumentOf-kept bounds s r pool document keeps none triples prefixes base absolute labels anonymous =
    let within : IsWithin None bounds s.triples r.stated pool =
    subst (λ excess. IsWithin excess bounds s.triples r.stated pool) none keeps.stated.within in
    record {
      terms = within.2;
      limit = keeps.stated.limit;
      triples = ap (λ v. v.items) triples ∙ within.3;
      valid = keeps.valid;
      prefixes = record {
        sorted = prefixes.sorted;
        each = λ p. (
          λ c. sym (keeps.prefixes p.name) ∙ (prefixes.each p).0 c,
          λ e. (prefixes.each p).1 (keeps.prefixes p.name ∙ e),
        );
      };
      base = base ∙ keeps.base;
      absolute = absolute;
      labels = record {
        sorted = labels.sorted;
        each = λ label. (
          λ c. (keeps.labels label).0 ((labels.each label).0 c),
          λ held. (labels.each label).1 ((keeps.labels label).1 held),
        );
      };
      anonymous = anonymous ∙ ap (λ n. n - 1) keeps.next;
    }
