-- What look-ups by keys find is what touches one of them, and it suffices whoever asks for these keys alone.
use Rattle.std.specs.Prelude.{◌≡◌, ℕ, true, List, map, filter, flat_map, Contains, ◌↔◌}
use Rattle.std.specs.List.{list_any}
use Rattle.std.proofs.Common.{refl, sym, subst}
use Rattle.std.proofs.lemmas.List.Folds.{Any-from_list_any, list_any-from_Any}
use Rattle.shx_term.specs.declared.triple.Triple.{Triple}
use Rattle.shx_term.specs.Members.{SameMembers}
use Rattle.shx_term.specs.inner.TripleLaws.{triple_is}
use Rattle.shx_term.specs.TripleOrder.{in_triple_order}
use Rattle.shx_term.proofs.MemberLemmas.{Contains-filter, Contains-from_filter}
use Rattle.shx_term.proofs.MemberLemmas.{Contains-flat_map, Contains-from_flat_map}
use Rattle.shx_term.proofs.MemberLemmas.{Contains-map, Contains-from_map, each_of_All, All_of_each}
use Rattle.shx_term.proofs.MemberLemmas.{none_in_empty}
use Rattle.shx_term.proofs.SetLemmas.{SameMembers-parts, SameMembers-sym, SameMembers-then}
use Rattle.shx_term.proofs.TripleOrderLemmas.{in_triple_order_lists}
use Rattle.graph_view.specs.declared.key.Key.{Key}
use Rattle.graph_view.specs.declared.key.Key.TheVariants.{Out, In, Subject, Predicate, Answer}
use Rattle.graph_view.specs.Agree.{Agree}
use Rattle.graph_view.specs.Graph.{AllKnown, Graph, IsKnownTriple, objects_of, subjects_of}
use Rattle.graph_view.specs.Key.{Touches, is_touching, look}
use Rattle.graph_view.proofs.AgreeLemmas.{Agree-on_terms, AgreeOn-from}
use Rattle.graph_view.proofs.KeyLemmas.{Contains-look, touching}
use Rattle.graph_view.proofs.LookUpLemmas.{Contains-objects_of, Contains-subjects_of}
use Rattle.graph_view.proofs.SameGraphLemmas.{triples_same}
use Rattle.pair_slice.specs.Slice.{slice_graph, slice_triples}
use Rattle.pair_slice.specs.inner.Touched.{touched}

-- ---- what look-ups by a key find

module _ (g : Graph) where
  -- the triples that touch a key are those that some numbers make with it
  made_of : (key : Key) (found : List ℕ) (f : Triple → ℕ) (whole : ℕ → Triple)
      → ((y : ℕ) → Contains found y ↔ Contains g.triples (whole y)) → ((y : ℕ) → Touches (whole y) key)
      → ((t : Triple) → Touches t key → t ≡ whole (f t)) → SameMembers (look g.triples key) (map whole found)
  made_of key found f whole held touches made = record {
    each = λ t. (
      λ c.
          let kept = (Contains-look g.triples key t).0 c in
          let is = made t kept.1 in
          subst (Contains (map whole found)) (sym is)
          (Contains-map whole found (f t) ((held (f t)).1 (subst (Contains g.triples) is kept.0))),
      λ c.
          let from = Contains-from_map whole found t c in
          let y = from.0 in
          subst (Contains (look g.triples key)) (sym from.2)
          ((Contains-look g.triples key (whole y)).1 ((held y).0 from.1, touches y)),
    );
  }

  ordered : (key : Key) → SameMembers (look g.triples key) (in_triple_order g.terms (look g.triples key))
  ordered key =
      let lists = in_triple_order_lists g.terms (look g.triples key) in
      record { each = λ t. ((lists.each t).1, (lists.each t).0) }

  -- a look-up finds what touches its key
  look-touched : (key : Key) → SameMembers (look g.triples key) (touched g key)
  look-touched (Out s p) =
      made_of (Out s p) (objects_of g s p) (λ t. t.o) (λ o. record { s = s; p = p; o = o })
      (Contains-objects_of g s p) (λ o. (refl, refl))
      (λ t h. triple_is t (record { s = s; p = p; o = t.o }) h.0 h.1 refl)
  look-touched (In p o) =
      made_of (In p o) (subjects_of g p o) (λ t. t.s) (λ s. record { s = s; p = p; o = o })
      (Contains-subjects_of g p o) (λ s. (refl, refl))
      (λ t h. triple_is t (record { s = t.s; p = p; o = o }) refl h.0 h.1)
  look-touched (Subject s) = ordered (Subject s)
  look-touched (Predicate p) = ordered (Predicate p)
  look-touched (Answer s n) = record {
    each = λ t. (
      λ c. absurd ((Contains-look g.triples (Answer s n) t).0 c).1,
      λ c. absurd (none_in_empty t c),
    );
  }

-- ---- what look-ups by some keys find

-- a triple that touches a key among them passes the test for one of them
touching_one : (keys : List Key) (key : Key) (t : Triple) → Contains keys key → Touches t key
    → list_any (is_touching t) keys ≡ true
touching_one keys key t c touches =
    list_any-from_Any (is_touching t) keys (c.0, key, c.1, c.2, (touching t key).1 touches)

module _ (triples : List Triple) (keys : List Key) where
  -- what is found key by key is what touches one of them
  found_by_keys : SameMembers (flat_map (look triples) keys)
      (filter (λ t. list_any (is_touching t) keys) triples)
  found_by_keys =
      let test = λ (t : Triple). list_any (is_touching t) keys in
      record {
        each = λ t. (
          λ c.
              let at = Contains-from_flat_map (look triples) keys t c in
              let held = (Contains-look triples at.0 t).0 at.2 in
              Contains-filter test triples t held.0 (touching_one keys at.0 t at.1 held.1),
          λ c.
              let kept = Contains-from_filter test triples t c in
              let any = Any-from_list_any (is_touching t) keys kept.1 in
              let key = any.1 in
              Contains-flat_map (look triples) keys key t (any.0, any.2, any.3)
              ((Contains-look triples key t).1 (kept.0, (touching t key).0 any.4)),
        );
      }

-- what is found key by key is, in order, the slice
pub found_slice : (g : Graph) (keys : List Key)
    → in_triple_order g.terms (flat_map (touched g) keys) ≡ slice_triples g keys
found_slice g keys =
    triples_same g.terms (flat_map (touched g) keys) (filter (λ t. list_any (is_touching t) keys) g.triples)
    (SameMembers-then
    (SameMembers-sym (SameMembers-parts (look g.triples) (touched g) keys (λ key c. look-touched g key)))
    (found_by_keys g.triples keys))

-- ---- that it suffices

module _ (g : Graph) (keys : List Key) where
  -- of the slice are the triples of the graph that touch one of the keys
  Contains-slice : (t : Triple)
      → Contains (slice_triples g keys) t ↔ (Contains g.triples t × (list_any (is_touching t) keys ≡ true))
  Contains-slice t =
      let test = λ (u : Triple). list_any (is_touching u) keys in
      let each = (in_triple_order_lists g.terms (filter test g.triples)).each t in (
        λ c. Contains-from_filter test g.triples t (each.0 c),
        λ h. each.1 (Contains-filter test g.triples t h.0 h.1),
      )

  pub Agree-slice : Agree g (slice_graph g keys) (Contains keys)
  Agree-slice = Agree-on_terms refl (AgreeOn-from (λ key c t touches. (
    λ held. (Contains-slice t).1 (held, touching_one keys key t c touches),
    λ kept. ((Contains-slice t).0 kept).0,
  )))

  pub AllKnown-slice : AllKnown g → AllKnown (slice_graph g keys)
  AllKnown-slice known =
      All_of_each (IsKnownTriple g.terms) (slice_triples g keys)
      (λ t c. each_of_All (IsKnownTriple g.terms) g.triples known t ((Contains-slice t).0 c).0)
