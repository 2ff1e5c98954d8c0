-- Laws of components that hold value nodes to the objects of a predicate.
use Rattle.std.specs.Prelude.{◌≡◌, ℕ, Bool, List, [], ◌∷◌, ◌++◌, Contains}
use Rattle.std.proofs.Common.{refl, ap, ◌∙◌, append_assoc}
use Rattle.shx_term.specs.declared.term.Term.{Term}
use Rattle.shx_term.proofs.MemberLemmas.{Contains-one, flat_map_agree}
use Rattle.shx_term.proofs.SetLemmas.{SameMembers-itself}
use Rattle.graph_view.specs.declared.key.Key.TheVariants.{Out}
use Rattle.graph_view.specs.Agree.{Agree}
use Rattle.graph_view.specs.Graph.{Graph, AllKnown, objects_of}
use Rattle.graph_view.proofs.AgreeLemmas.{Agree-fewer, Agree-term}
use Rattle.graph_view.proofs.LookUpLemmas.{known_object}
use Rattle.comp_core.specs.declared.pair.At.{At}
use Rattle.comp_core.specs.declared.row.ResultRow.{ResultRow}
use Rattle.comp_core.specs.Laws.{Agreement}
use Rattle.comp_core.specs.Results.{unless}
use Rattle.comp_core.specs.TermTests.{are_so_at}
use Rattle.comp_core.proofs.LawLemmas.{value_kept}
use Rattle.pair_components.specs.Equals.{each_missing}
use Rattle.pair_components.specs.PairResults.{each_beside, each_pair_unless}

each_pair-agree : (p q : ℕ → ℕ → Bool) (kind : ℕ) (at : At) (ws vs : List ℕ)
    → ((v w : ℕ) → Contains vs v → Contains ws w → p v w ≡ q v w)
    → each_pair_unless p kind at ws vs ≡ each_pair_unless q kind at ws vs
each_pair-agree p q kind at ws vs same =
    flat_map_agree (each_beside p kind at ws) (each_beside q kind at ws) vs
    (λ v i. flat_map_agree (λ w. unless (p v w) kind at v) (λ w. unless (q v w) kind at v) ws
    (λ w j. ap (λ b. unless b kind at v) (same v w i j)))

-- what is missing among the objects, and then what is missing among the value nodes
pub missing_in_turn : (at : At) (vs others nodes objects : List ℕ) (old mid new : List ResultRow)
    → others ≡ objects → nodes ≡ objects → mid ≡ old ++ each_missing at others vs
    → new ≡ mid ++ each_missing at vs nodes
    → new ≡ old ++ (each_missing at objects vs ++ each_missing at vs objects)
missing_in_turn at vs others nodes objects old mid new p q first second =
    rw (second, first, p, q) (append_assoc old (each_missing at objects vs) (each_missing at vs objects))

-- from the law of look-ups
module _ (look_ups_agree : (g h : Graph) (s p : ℕ) → AllKnown g → Agree g h (λ key. key ≡ Out s p)
    → objects_of g s p ≡ objects_of h s p) where
  objects_kept : (g h : Graph) (s p : ℕ) → AllKnown g → Agree g h (Contains (Out s p ∷ []))
      → objects_of g s p ≡ objects_of h s p
  objects_kept g h s p known agree =
      look_ups_agree g h s p known
      (Agree-fewer (λ key. key ≡ Out s p) (λ key e. (Contains-one (Out s p) key).1 e) agree)

  -- of one whose results are made of the objects and the value nodes alone
  pub members_agree : {C : Type 0} (value : C → ℕ) (hits : At → List ℕ → List ℕ → List ResultRow)
      → Agreement {C = C} (λ c. []) (λ c vs. [])
      (λ c g m at vs. hits at (objects_of g at.focus (value c)) vs)
      (λ c g r at vs. Out at.focus (value c) ∷ [])
  members_agree value hits c g h m n r q at vs alike same = record {
    rows = ap (λ ws. hits at ws vs) (objects_kept g h at.focus (value c) alike.before alike.agree);
    reads = SameMembers-itself (Out at.focus (value c) ∷ []);
  }

  -- of one that tests the terms of each value node and each object
  pub orders_agree : {C : Type 0} (value : C → ℕ) (test : Term → Term → Bool) (kind : ℕ)
      → Agreement {C = C} (λ c. []) (λ c vs. [])
      (λ c g m at vs. each_pair_unless (are_so_at test g) kind at (objects_of g at.focus (value c)) vs)
      (λ c g r at vs. Out at.focus (value c) ∷ [])
  orders_agree value test kind c g h m n r q at vs alike same =
      let keys = Out at.focus (value c) ∷ [] in
      let ws = objects_of g at.focus (value c) in
      let kept = λ (w : ℕ) (j : Contains ws w).
      Agree-term g h w alike.agree (known_object g alike.before at.focus (value c) w j) in
      record {
        rows = each_pair-agree (are_so_at test g) (are_so_at test h) kind at ws vs
            (λ v w i j. rw (value_kept g h [] vs keys alike v i, kept w j) refl)
            ∙ ap (λ others. each_pair_unless (are_so_at test h) kind at others vs)
            (objects_kept g h at.focus (value c) alike.before alike.agree);
        reads = SameMembers-itself keys;
      }
