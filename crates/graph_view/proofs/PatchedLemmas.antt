-- What a change leaves: the members of lists, a graph that is patched, and what look-ups find in it.
use Rattle.std.specs.Prelude.{◌≡◌, ℕ, ◌+◌, ◌≤◌, Bool, true, false, not, nat_eq, ◌==◌, List, [], ◌∷◌, ◌++◌}
use Rattle.std.specs.Prelude.{map, length, All, Contains, ◌↔◌, ◌⊎◌}
use Rattle.std.specs.Cmp.{IsEquivalence, nat_eq_equiv}
use Rattle.std.specs.List.{list_any, IsDistinct, AllByRecursion}
use Rattle.std.proofs.Common.{refl, sym, ap, ◌∙◌, subst, inl, inr, true≢false, length-append, arith}
use Rattle.std.proofs.lemmas.Bool.{not-true, eqb-true}
use Rattle.std.proofs.lemmas.List.Elements.{All-append, All-filter, Contains-append_left}
use Rattle.std.proofs.lemmas.List.Elements.{Contains-append_right, Contains-append_cases}
use Rattle.std.proofs.lemmas.List.Sums.{length-filter, count_by-le-length}
use Rattle.std.proofs.lemmas.Map.Keys.{IsDistinct-head, IsDistinct-tail, IsDistinct-cons}
use Rattle.std.proofs.lemmas.Map.Views.{exact_unsigned_eq}
use Rattle.shx_term.specs.declared.triple.Triple.{Triple}
use Rattle.shx_term.specs.IdOrder.{in_term_order}
use Rattle.shx_term.specs.Triple.{same_triple}
use Rattle.shx_term.specs.inner.TripleLaws.{same_triple_equiv, same_triple_exact}
use Rattle.shx_term.specs.TripleOrder.{triple_cmp, in_triple_order}
use Rattle.shx_term.proofs.IdOrderLemmas.{in_term_order_same}
use Rattle.shx_term.proofs.InOrderLemmas.{in_order_same}
use Rattle.shx_term.proofs.MemberLemmas.{Contains-head, Contains-tail, Contains-test, Contains-filter}
use Rattle.shx_term.proofs.MemberLemmas.{Contains-from_filter, each_of_All, All_of_each}
use Rattle.shx_term.proofs.TripleOrderLemmas.{triple_order}
use Rattle.graph_view.specs.declared.key.Key.{Key}
use Rattle.graph_view.specs.declared.key.Key.TheVariants.{Out, In}
use Rattle.graph_view.specs.Agree.{Agree, IsUntouched}
use Rattle.graph_view.specs.Graph.{Graph, objects_of, subjects_of}
use Rattle.graph_view.specs.Key.{look, is_touching}
use Rattle.graph_view.specs.Patched.{without, patched, IsBeside}
use Rattle.shx_term.specs.Members.{SameMembers}
use Rattle.graph_view.specs.Valid.{IsValidTriple, IsValidView}
use Rattle.graph_view.proofs.AgreeLemmas.{AgreeOn-from, Agree-on_terms}
use Rattle.graph_view.proofs.KeyLemmas.{Contains-look}
use Rattle.graph_view.proofs.LookUpLemmas.{Contains-objects, Contains-subjects, Contains-ordered}
use Rattle.graph_view.proofs.LookUpLemmas.{Contains-objects_of, Contains-subjects_of}
use Rattle.graph_view.proofs.SameGraphLemmas.{IsDistinct-filter, length-same}

pub is_false : (b : Bool) → (b ≡ true → ⊥) → b ≡ false
is_false true h = absurd (h refl)
is_false false h = refl

pub is_not : (b : Bool) → (b ≡ true → ⊥) → not b ≡ true
is_not true h = absurd (h refl)
is_not false h = refl

all_of_both : {K : Type 0} (P : K → Type 0) (xs ys : List K) → AllByRecursion P xs → AllByRecursion P ys
    → AllByRecursion P (xs ++ ys)
all_of_both P [] ys all more = more
all_of_both P (x ∷ xs) ys all more = (all.0, all_of_both P xs ys all.1 more)

-- where nothing is gone all stays
without-none : {K : Type 0} (same : K → K → Bool) (xs : List K) → xs ≡ without same xs []
without-none same [] = refl
without-none same (x ∷ xs) = ap (λ rest. x ∷ rest) (without-none same xs)

pub without-empty : {K : Type 0} (same : K → K → Bool) (xs gone : List K) → (length gone == 0) ≡ true
    → xs ≡ without same xs gone
without-empty same xs [] e = without-none same xs
without-empty same xs (y ∷ ys) e = absurd (omega (arith, eqb-true (length (y ∷ ys)) 0 e))

module _ {K : Type 0} (same : K → K → Bool) (laws : IsEquivalence same)
    (exact : (x y : K) → same x y ≡ true → x ≡ y) where
  -- the test for what is gone decides
  pub gone_test : (gone : List K) (x : K) → (list_any (λ y. same y x) gone ≡ true) ↔ Contains gone x
  gone_test gone x =
      let turned : list_any (λ y. same y x) gone ≡ list_any (same x) gone =
      λ i. list_any (λ y. laws.symm y x i) gone in
      let decided = Contains-test same laws exact gone x in
      (λ h. decided.0 (sym turned ∙ h), λ c. turned ∙ decided.1 c)

  pub Contains-without : (xs gone : List K) (x : K)
      → Contains (without same xs gone) x ↔ (Contains xs x × (Contains gone x → ⊥))
  Contains-without xs gone x =
      let stays = λ (y : K). not (list_any (λ z. same z y) gone) in
      let decided = gone_test gone x in (
        λ c.
            let kept = Contains-from_filter stays xs x c in
            let passed = not-true (list_any (λ z. same z x) gone) kept.1 in
            (kept.0, λ g. true≢false (sym (decided.1 g) ∙ passed)),
        λ held.
            let passes = is_not (list_any (λ z. same z x) gone) (λ h. held.1 (decided.0 h)) in
            Contains-filter stays xs x held.0 passes,
      )

  pub Contains-changed : (xs gone new : List K) (x : K) → Contains (without same xs gone ++ new) x
      ↔ ((Contains xs x × (Contains gone x → ⊥)) ⊎ Contains new x)
  Contains-changed xs gone new x =
      let left = without same xs gone in
      let held = Contains-without xs gone x in (
        λ c. elim (Contains-append_cases left new x c) [ inl d ↦ inl (held.0 d) | inr d ↦ inr d ],
        λ h. elim h [
          | inl d ↦ Contains-append_left left new x (held.1 d)
          | inr d ↦ Contains-append_right left new x d
        ],
      )

  apart : (x : K) (ys : List K) → (Contains ys x → ⊥) → AllByRecursion (λ y. same x y ≡ false) ys
  apart x [] absent = tt
  apart x (y ∷ ys) absent = (
    is_false (same x y) (λ h. absent (subst (Contains (y ∷ ys)) (sym (exact x y h)) (Contains-head y ys))),
    apart x ys (λ c. absent (Contains-tail y x ys c)),
  )

  -- lists with no member in common
  pub IsDistinct-append : (xs ys : List K) → IsDistinct same xs → IsDistinct same ys
      → ((x : K) → Contains xs x → Contains ys x → ⊥) → IsDistinct same (xs ++ ys)
  IsDistinct-append [] ys one other disjoint = other
  IsDistinct-append (x ∷ xs) ys one other disjoint =
      let before = IsDistinct-head same x xs one in
      let behind = apart x ys (disjoint x (Contains-head x xs)) in
      let rest = IsDistinct-tail same x xs one in
      IsDistinct-cons same x (xs ++ ys) (all_of_both (λ y. same x y ≡ false) xs ys before behind)
      (IsDistinct-append xs ys rest other (λ y c. disjoint y (Contains-tail x y xs c)))

-- what is left and what is gone are the whole
module _ (triples gone : List Triple) where
  pub Contains-left : (t : Triple)
      → Contains (without same_triple triples gone) t ↔ (Contains triples t × (Contains gone t → ⊥))
  Contains-left = Contains-without same_triple same_triple_equiv same_triple_exact triples gone

  left_distinct : IsDistinct same_triple triples → IsDistinct same_triple (without same_triple triples gone)
  left_distinct = IsDistinct-filter (λ t. not (list_any (λ u. same_triple u t) gone)) same_triple triples

  whole_again : (t : Triple) → Contains triples t → Contains (without same_triple triples gone ++ gone) t
  whole_again t c =
      let parts = Contains-changed same_triple same_triple_equiv same_triple_exact triples gone gone t in
      let decided = gone_test same_triple same_triple_equiv same_triple_exact gone t in
      let test = list_any (λ u. same_triple u t) gone in
      elim test as (λ b. test ≡ b → Contains (without same_triple triples gone ++ gone) t) [
        | true ↦ λ h. parts.1 (inr (decided.0 h))
        | false ↦ λ h. parts.1 (inl (c, λ g. true≢false (sym (decided.1 g) ∙ h)))
      ] refl

  pub length-without : IsDistinct same_triple triples → IsDistinct same_triple gone
      → All (Contains triples) gone
      → length (without same_triple triples gone) + length gone ≡ length triples
  length-without one other held =
      let left = without same_triple triples gone in
      let parts = Contains-changed same_triple same_triple_equiv same_triple_exact triples gone gone in
      let back : (t : Triple) → Contains (left ++ gone) t → Contains triples t =
      λ t c. elim ((parts t).0 c) [ inl d ↦ d.0 | inr d ↦ each_of_All (Contains triples) gone held t d ] in
      let whole : SameMembers (left ++ gone) triples = record { each = λ t. (back t, whole_again t) } in
      let disjoint : (t : Triple) → Contains left t → Contains gone t → ⊥ =
      λ t c. ((Contains-left t).0 c).1 in
      let distinct =
      IsDistinct-append same_triple same_triple_equiv same_triple_exact left gone (left_distinct one) other
      disjoint in
      sym (length-append left gone) ∙ length-same (left ++ gone) triples whole distinct one

-- and so are those of them that touch a key
module _ (triples gone : List Triple) (key : Key) where
  touching_left : SameMembers (look (without same_triple triples gone) key)
      (without same_triple (look triples key) (look gone key))
  touching_left = record {
    each = λ t.
        let of_left = Contains-look (without same_triple triples gone) key t in
        let of_all = Contains-look triples key t in
        let of_gone = Contains-look gone key t in
        let parts = Contains-left (look triples key) (look gone key) t in (
          λ c.
              let here = of_left.0 c in
              let was = (Contains-left triples gone t).0 here.0 in
              parts.1 (of_all.1 (was.0, here.1), λ d. was.1 (of_gone.0 d).0),
          λ c.
              let here = of_all.0 (parts.0 c).0 in
              let stays = λ (d : Contains gone t). (parts.0 c).1 (of_gone.1 (d, here.1)) in
              of_left.1 ((Contains-left triples gone t).1 (here.0, stays), here.1),
        );
  }

  pub length-touching : IsDistinct same_triple triples → IsDistinct same_triple gone
      → All (Contains triples) gone
      → length (look (without same_triple triples gone) key) + length (look gone key)
      ≡ length (look triples key)
  length-touching one other held =
      let touching = λ (t : Triple). is_touching t key in
      let all = IsDistinct-filter touching same_triple triples one in
      let out = IsDistinct-filter touching same_triple gone other in
      let left = IsDistinct-filter touching same_triple (without same_triple triples gone)
      (left_distinct triples gone one) in
      let apart = left_distinct (look triples key) (look gone key) all in
      let found = All_of_each (Contains (look triples key)) (look gone key) (λ t c.
      let here = (Contains-look gone key t).0 c in
      (Contains-look triples key t).1 (each_of_All (Contains triples) gone held t here.0, here.1)) in
      ap (λ n. n + length (look gone key)) (length-same (look (without same_triple triples gone) key)
      (without same_triple (look triples key) (look gone key)) touching_left left apart)
      ∙ length-without (look triples key) (look gone key) all out found

module _ (g : Graph) (added removed : List Triple) where
  pub Contains-patched : (t : Triple) → Contains (patched g added removed).triples t
      ↔ ((Contains g.triples t × (Contains removed t → ⊥)) ⊎ Contains added t)
  Contains-patched =
      Contains-changed same_triple same_triple_equiv same_triple_exact g.triples removed added

  pub All-patched : (P : Triple → Type 0) → All P g.triples → All P added
      → All P (patched g added removed).triples
  All-patched P held more =
      let left = without same_triple g.triples removed in
      let stays = λ (t : Triple). not (list_any (λ u. same_triple u t) removed) in
      All-append P left added (All-filter stays P g.triples held) more

  pub IsDistinct-patched : IsDistinct same_triple g.triples → IsDistinct same_triple added
      → All (λ t. Contains g.triples t → ⊥) added → IsDistinct same_triple (patched g added removed).triples
  IsDistinct-patched one other absent =
      let left = without same_triple g.triples removed in
      let disjoint : (t : Triple) → Contains left t → Contains added t → ⊥ =
      λ t c d.
      let here = ((Contains-left g.triples removed t).0 c).0 in
      each_of_All (λ u. Contains g.triples u → ⊥) added absent t d here in
      IsDistinct-append same_triple same_triple_equiv same_triple_exact left added
      (left_distinct g.triples removed one) other disjoint

  -- not more than those of the base and the added
  pub length-patched : length (patched g added removed).triples ≤ length g.triples + length added
  length-patched =
      let left = without same_triple g.triples removed in
      let stays = λ (t : Triple). not (list_any (λ u. same_triple u t) removed) in
      let fewer = count_by-le-length stays g.triples in
      omega (arith, length-append left added, length-filter stays g.triples, fewer)

  pub Agree-patched : Agree g (patched g added removed) (IsBeside added removed)
  Agree-patched = Agree-on_terms refl (AgreeOn-from (λ key beside t touches.
      let held = Contains-patched t in
      let untouched = λ (u : Triple). IsUntouched u key in (
        λ c. held.1 (inl (c, λ r. each_of_All untouched removed beside.1 t r touches)),
        λ c. elim (held.0 c) [
          | inl d ↦ d.0
          | inr d ↦ absurd (each_of_All untouched added beside.0 t d touches)
        ],
      )))

  pub IsValidView-patched : IsValidView g → All (IsValidTriple g.terms) added
      → IsValidView (patched g added removed)
  IsValidView-patched valid fit = record {
    triples = All-patched (IsValidTriple g.terms) valid.triples fit;
    terms = valid.terms;
  }

  -- where one triple decides of a number whether it is found, gone, new, and found in the end
  found_alike : (found gone new all : List ℕ) (y : ℕ) (t : Triple)
      → Contains found y ↔ Contains g.triples t
      → Contains gone y ↔ Contains removed t → Contains new y ↔ Contains added t
      → Contains all y ↔ Contains (patched g added removed).triples t
      → Contains (without nat_eq found gone ++ new) y ↔ Contains all y
  found_alike found gone new all y t of_found of_gone of_new of_all =
      let numbers = Contains-changed nat_eq nat_eq_equiv exact_unsigned_eq found gone new y in
      let held = Contains-patched t in (
        λ c. of_all.1 (held.1 (elim (numbers.0 c) [
          | inl d ↦ inl (of_found.0 d.0, λ r. d.1 (of_gone.1 r))
          | inr d ↦ inr (of_new.0 d)
        ])),
        λ c. numbers.1 (elim (held.0 (of_all.0 c)) [
          | inl d ↦ inl (of_found.1 d.0, λ r. d.1 (of_gone.0 r))
          | inr d ↦ inr (of_new.1 d)
        ]),
      )

  pub objects_of-patched : (s p : ℕ) → in_term_order g.terms
      (without nat_eq (objects_of g s p) (map (λ t. t.o) (look removed (Out s p)))
      ++ map (λ t. t.o) (look added (Out s p)))
      ≡ objects_of (patched g added removed) s p
  objects_of-patched s p =
      let found = objects_of g s p in
      let gone = map (λ t. t.o) (look removed (Out s p)) in
      let new = map (λ t. t.o) (look added (Out s p)) in
      let triples = (patched g added removed).triples in
      let all = map (λ t. t.o) (look triples (Out s p)) in
      in_term_order_same g.terms (without nat_eq found gone ++ new) all (λ o.
      found_alike found gone new all o (record { s = s; p = p; o = o })
      (Contains-objects_of g s p o) (Contains-objects removed s p o)
      (Contains-objects added s p o) (Contains-objects triples s p o))

  pub subjects_of-patched : (p o : ℕ) → in_term_order g.terms
      (without nat_eq (subjects_of g p o) (map (λ t. t.s) (look removed (In p o)))
      ++ map (λ t. t.s) (look added (In p o)))
      ≡ subjects_of (patched g added removed) p o
  subjects_of-patched p o =
      let found = subjects_of g p o in
      let gone = map (λ t. t.s) (look removed (In p o)) in
      let new = map (λ t. t.s) (look added (In p o)) in
      let triples = (patched g added removed).triples in
      let all = map (λ t. t.s) (look triples (In p o)) in
      in_term_order_same g.terms (without nat_eq found gone ++ new) all (λ s.
      found_alike found gone new all s (record { s = s; p = p; o = o })
      (Contains-subjects_of g p o s) (Contains-subjects removed p o s)
      (Contains-subjects added p o s) (Contains-subjects triples p o s))

  touching_alike : (key : Key) (t : Triple) →
      let found = in_triple_order g.terms (look g.triples key) in
      Contains (without same_triple found (look removed key) ++ look added key) t
      ↔ Contains (look (patched g added removed).triples key) t
  touching_alike key t =
      let found = in_triple_order g.terms (look g.triples key) in
      let gone = look removed key in
      let triples = (patched g added removed).triples in
      let changed =
      Contains-changed same_triple same_triple_equiv same_triple_exact found gone (look added key) t in
      let held = Contains-patched t in
      let of_found = Contains-ordered g key t in
      let of_gone = Contains-look removed key t in
      let of_new = Contains-look added key t in
      let of_all = Contains-look triples key t in (
        λ c. of_all.1 (elim (changed.0 c) [
          | inl d ↦
              let here = of_found.0 d.0 in
              (held.1 (inl (here.0, λ r. d.1 (of_gone.1 (r, here.1)))), here.1)
          | inr d ↦ let here = of_new.0 d in (held.1 (inr here.0), here.1)
        ]),
        λ c.
            let here = of_all.0 c in
            changed.1 (elim (held.0 here.0) [
              | inl d ↦ inl (of_found.1 (d.0, here.1), λ r. d.1 (of_gone.0 r).0)
              | inr d ↦ inr (of_new.1 (d, here.1))
            ]),
      )

  pub triples-patched : (key : Key) →
      let found = in_triple_order g.terms (look g.triples key) in
      in_triple_order g.terms (without same_triple found (look removed key) ++ look added key)
      ≡ in_triple_order g.terms (look (patched g added removed).triples key)
  triples-patched key =
      let found = in_triple_order g.terms (look g.triples key) in
      in_order_same (triple_cmp g.terms) (triple_order g.terms)
      (without same_triple found (look removed key) ++ look added key)
      (look (patched g added removed).triples key) (touching_alike key)
