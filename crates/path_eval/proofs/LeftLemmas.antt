-- What is left of a path at each of its places, so that no edge leads to where more is left than before it.
use Rattle.std.specs.Prelude.{◌≡◌, ℕ, ◌+◌, ◌<◌, ◌≤◌, ◌==◌, true, false, List, [], ◌∷◌, ◌++◌}
use Rattle.std.specs.Prelude.{if◌then◌else◌, length, Contains}
use Rattle.std.proofs.Common.{refl, sym, ◌∙◌, subst, inl, inr, true≢false, eq-eqb, arith}
use Rattle.std.proofs.lemmas.Bool.{eqb-true}
use Rattle.std.proofs.lemmas.List.Elements.{Contains-append_cases}
use Rattle.shx_term.proofs.MemberLemmas.{none_in_empty, Contains-cases}
use Rattle.graph_view.specs.Graph.{Graph, AllKnown}
use Rattle.path_eval.specs.declared.direction.Direction.{Direction}
use Rattle.path_eval.specs.declared.direction.Direction.TheVariants.{Forward, Backward}
use Rattle.path_eval.specs.Relation.{opposite}
use Rattle.path_eval.specs.Route.{Route, along, here, first_then, none, one_or_other, turned, any_times}
use Rattle.path_eval.specs.Route.{some_times, perhaps}
use Rattle.path_eval.specs.Way.{Way, way, stay, either, then_by, closed, repeated}
use Rattle.path_eval.proofs.MeetsLemmas.{path_within}
use Rattle.path_eval.specs.declared.edge.Label.{Label}
use Rattle.path_eval.specs.declared.edge.Label.TheVariants.{Free, Step}
use Rattle.path_eval.specs.declared.edge.Edge.{Edge}
use Rattle.path_eval.specs.inner.Laid.{edge_by, after, laid, label_way}
use Rattle.path_eval.proofs.SubLemmas.{SubWay, SubWay-itself, SubWay-trans, SubWay-left, SubWay-right}
use Rattle.path_eval.proofs.SubLemmas.{SubWay-before}
use Rattle.path_eval.proofs.SubLemmas.{SubWay-together, SubWay-stay, SubWay-once_more}

-- one more place
abbrev pub put : (ℕ → Way) → ℕ → Way → ℕ → Way
put M n w q = if q == n then w else M q

pub put_same : (M : ℕ → Way) (n : ℕ) (w : Way) → put M n w n ≡ w
put_same M n w =
    elim (n == n) as (λ b. (n == n) ≡ b → (if b then w else M n) ≡ w) [
      | true ↦ λ h. refl
      | false ↦ λ h. absurd (true≢false (sym (eq-eqb n n refl) ∙ h))
    ] refl

pub put_below : (M : ℕ → Way) (n : ℕ) (w : Way) (q : ℕ) → q < n → put M n w q ≡ M q
put_below M n w q inside =
    elim (q == n) as (λ b. (q == n) ≡ b → (if b then w else M q) ≡ M q) [
      | true ↦ λ h. let same = eqb-true q n h in absurd (omega (arith, same, inside))
      | false ↦ λ h. refl
    ] refl

module _ (g : Graph) where
  -- the edge, and what is left behind it, is part of what is left before it
  abbrev pub IsKept : (ℕ → Way) → Edge → Type 0
  IsKept M edge = SubWay (then_by (label_way g edge.label) (M edge.to)) (M edge.from)

  -- with M at the places below n, each edge is kept; all places are below m
  pub record Left (M : ℕ → Way) (n m : ℕ) (edges : List Edge) : Type 0 where
    pub at : ℕ → Way
    pub same : (q : ℕ) → q < n → at q ≡ M q
    pub each : (edge : Edge) → Contains edges edge → IsKept at edge
    pub inside : (edge : Edge) → Contains edges edge → (edge.from < m) × (edge.to < m)
    pub more : n ≤ m

  pub kept : (M : ℕ → Way) (label : Label) (s e : ℕ) (ws we : Way) → M s ≡ ws → M e ≡ we
      → SubWay (then_by (label_way g label) we) ws → IsKept M (edge_by label s e)
  kept M label s e ws we ms me sub =
      subst (λ v. SubWay (then_by (label_way g label) v) (M s)) (sym me)
      (subst (λ v. SubWay (then_by (label_way g label) we) v) (sym ms) sub)

  pub kept_as : (M N : ℕ → Way) (edge : Edge) → N edge.from ≡ M edge.from → N edge.to ≡ M edge.to
      → IsKept M edge → IsKept N edge
  kept_as M N edge from to sub = kept N edge.label edge.from edge.to (M edge.from) (M edge.to) from to sub

  abbrev pub Left-none : (M : ℕ → Way) (n : ℕ) → Left M n n []
  Left-none M n = record {
    at = M;
    same = λ q h. refl;
    each = λ edge c. absurd (none_in_empty edge c);
    inside = λ edge c. absurd (none_in_empty edge c);
    more = omega arith;
  }

  abbrev pub Left-edge : (M : ℕ → Way) (n m : ℕ) (edges : List Edge) (edge : Edge) → edge.from < n
      → edge.to < n → IsKept M edge → Left M n m edges → Left M n m (edge ∷ edges)
  Left-edge M n m edges edge from to sub left = record {
    at = left.at;
    same = left.same;
    each = λ other c. elim (Contains-cases edge other edges c) [
      | inl e ↦ subst (IsKept left.at) (sym e)
          (kept_as M left.at edge (left.same edge.from from) (left.same edge.to to) sub)
      | inr d ↦ left.each other d
    ];
    inside = λ other c. elim (Contains-cases edge other edges c) [
      | inl e ↦ subst (λ (one : Edge). (one.from < m) × (one.to < m)) (sym e)
          (omega (arith, from, left.more), omega (arith, to, left.more))
      | inr d ↦ left.inside other d
    ];
    more = left.more;
  }

  abbrev pub Left-append : (M : ℕ → Way) (n k m : ℕ) (xs ys : List Edge) (first : Left M n k xs)
      → Left first.at k m ys → Left M n m (xs ++ ys)
  Left-append M n k m xs ys first second = record {
    at = second.at;
    same = λ q h. second.same q (omega (arith, h, first.more)) ∙ first.same q h;
    each = λ edge c. elim (Contains-append_cases xs ys edge c) [
      | inl d ↦
          let inside = first.inside edge d in
          kept_as first.at second.at edge (second.same edge.from inside.0) (second.same edge.to inside.1)
          (first.each edge d)
      | inr d ↦ second.each edge d
    ];
    inside = λ edge c. elim (Contains-append_cases xs ys edge c) [
      | inl d ↦
          let inside = first.inside edge d in
          (omega (arith, inside.0, second.more), omega (arith, inside.1, second.more))
      | inr d ↦ second.inside edge d
    ];
    more = omega (arith, first.more, second.more);
  }

  abbrev pub Left-put : (M : ℕ → Way) (n m : ℕ) (w : Way) (edges : List Edge)
      → Left (put M n w) (n + 1) m edges → Left M n m edges
  Left-put M n m w edges left = record {
    at = left.at;
    same = λ q h. left.same q (omega (arith, h)) ∙ put_below M n w q h;
    each = left.each;
    inside = left.inside;
    more = omega (arith, left.more);
  }

module _ (g : Graph) (known : AllKnown g) where
  -- what is left at the first place has the route, and then what is left at the last
  pub left : (d : Direction) (a : Route) (s e n : ℕ) (M : ℕ → Way) (ws we : Way) → M s ≡ ws → M e ≡ we
      → s < n → e < n → SubWay (then_by (way g d a) we) ws → Left g M n (after a n) (laid d a s e n)
  left d (along p) s e n M ws we ms me hs he sub =
      let label = Step d p in
      Left-edge g M n n [] (edge_by label s e) hs he (kept g M label s e ws we ms me sub) (Left-none g M n)
  left d here s e n M ws we ms me hs he sub =
      Left-edge g M n n [] (edge_by Free s e) hs he (kept g M Free s e ws we ms me sub) (Left-none g M n)
  left Forward (first_then a b) s e n M ws we ms me hs he sub =
      let v = way g Forward a in
      let w = way g Forward b in
      let mid = then_by w we in
      let N = put M n mid in
      let first : Left g N (n + 1) (after a (n + 1)) (laid Forward a s n (n + 1)) =
      left Forward a s n (n + 1) N ws mid (put_below M n mid s hs ∙ ms) (put_same M n mid)
      (omega (arith, hs)) (omega arith) (SubWay-trans (SubWay-together v w we) sub) in
      let k = after a (n + 1) in
      let second : Left g first.at k (after b k) (laid Forward b n e k) =
      left Forward b n e k first.at mid we
      (first.same n (omega arith) ∙ put_same M n mid)
      (first.same e (omega (arith, he)) ∙ put_below M n mid e he ∙ me)
      (omega (arith, first.more)) (omega (arith, he, first.more)) (SubWay-itself mid) in
      Left-put g M n (after b k) mid (laid Forward a s n (n + 1) ++ laid Forward b n e k)
      (Left-append g N (n + 1) k (after b k) (laid Forward a s n (n + 1)) (laid Forward b n e k) first second)
  left Backward (first_then a b) s e n M ws we ms me hs he sub =
      let v = way g Backward b in
      let w = way g Backward a in
      let mid = then_by w we in
      let N = put M n mid in
      let first : Left g N (n + 1) (after a (n + 1)) (laid Backward a n e (n + 1)) =
      left Backward a n e (n + 1) N mid we (put_same M n mid) (put_below M n mid e he ∙ me)
      (omega arith) (omega (arith, he)) (SubWay-itself mid) in
      let k = after a (n + 1) in
      let second : Left g first.at k (after b k) (laid Backward b s n k) =
      left Backward b s n k first.at ws mid
      (first.same s (omega (arith, hs)) ∙ put_below M n mid s hs ∙ ms)
      (first.same n (omega arith) ∙ put_same M n mid)
      (omega (arith, hs, first.more)) (omega (arith, first.more))
      (SubWay-trans (SubWay-together v w we) sub) in
      Left-put g M n (after b k) mid (laid Backward a n e (n + 1) ++ laid Backward b s n k)
      (Left-append g N (n + 1) k (after b k) (laid Backward a n e (n + 1)) (laid Backward b s n k) first
      second)
  left d none s e n M ws we ms me hs he sub = Left-none g M n
  left d (one_or_other a b) s e n M ws we ms me hs he sub =
      let v = way g d a in
      let w = way g d b in
      let k = after a n in
      let first : Left g M n k (laid d a s e n) =
      left d a s e n M ws we ms me hs he
      (SubWay-trans (SubWay-before v (either v w) we (SubWay-left v w)) sub) in
      let second : Left g first.at k (after b k) (laid d b s e k) =
      left d b s e k first.at ws we (first.same s hs ∙ ms) (first.same e he ∙ me)
      (omega (arith, hs, first.more)) (omega (arith, he, first.more))
      (SubWay-trans (SubWay-before w (either v w) we (SubWay-right v w)) sub) in
      Left-append g M n k (after b k) (laid d a s e n) (laid d b s e k) first second
  left d (turned a) s e n M ws we ms me hs he sub = left (opposite d) a s e n M ws we ms me hs he sub
  left d (any_times a) s e n M ws we ms me hs he sub =
      let w = way g d a in
      let count = length g.terms in
      let more = repeated count w in
      let all = closed count w in
      let mid = then_by all we in
      let N = put M n mid in
      let m = after a (n + 1) in
      let inner = laid d a n n (n + 1) in
      let again : SubWay (then_by w mid) mid =
      SubWay-trans (SubWay-together w all we)
      (SubWay-before (then_by w all) all we
      (SubWay-trans (SubWay-once_more count w (path_within g known d a)) (SubWay-right stay more))) in
      let around : Left g N (n + 1) m inner =
      left d a n n (n + 1) N mid mid (put_same M n mid) (put_same M n mid) (omega arith) (omega arith)
      again in
      Left-put g M n m mid (edge_by Free s n ∷ edge_by Free n e ∷ inner)
      (Left-edge g N (n + 1) m (edge_by Free n e ∷ inner) (edge_by Free s n) (omega (arith, hs)) (omega arith)
      (kept g N Free s n ws mid (put_below M n mid s hs ∙ ms) (put_same M n mid)
      (SubWay-trans (SubWay-stay mid) sub))
      (Left-edge g N (n + 1) m inner (edge_by Free n e) (omega arith) (omega (arith, he))
      (kept g N Free n e mid we (put_same M n mid) (put_below M n mid e he ∙ me)
      (SubWay-before stay all we (SubWay-left stay more)))
      around))
  left d (some_times a) s e n M ws we ms me hs he sub =
      let w = way g d a in
      let count = length g.terms in
      let more = repeated count w in
      let all = closed count w in
      let start = then_by more we in
      let end = then_by all we in
      let one = put M n start in
      let N = put one (n + 1) end in
      let m = after a (n + 1 + 1) in
      let inner = laid d a n (n + 1) (n + 1 + 1) in
      let at_n : N n ≡ start = put_below one (n + 1) end n (omega arith) ∙ put_same M n start in
      let at_end : N (n + 1) ≡ end = put_same one (n + 1) end in
      let at_s : N s ≡ ws = put_below one (n + 1) end s (omega (arith, hs)) ∙ put_below M n start s hs ∙ ms in
      let at_e : N e ≡ we = put_below one (n + 1) end e (omega (arith, he)) ∙ put_below M n start e he ∙ me in
      let on : Left g N (n + 1 + 1) m inner =
      left d a n (n + 1) (n + 1 + 1) N start end at_n at_end (omega arith) (omega arith)
      (SubWay-trans (SubWay-together w all we)
      (SubWay-before (then_by w all) more we (SubWay-once_more count w (path_within g known d a)))) in
      let back = edge_by Free (n + 1) n in
      let out = edge_by Free (n + 1) e in
      Left-put g M n m start (edge_by Free s n ∷ back ∷ out ∷ inner)
      (Left-put g one (n + 1) m end (edge_by Free s n ∷ back ∷ out ∷ inner)
      (Left-edge g N (n + 1 + 1) m (back ∷ out ∷ inner) (edge_by Free s n) (omega (arith, hs)) (omega arith)
      (kept g N Free s n ws start at_s at_n (SubWay-trans (SubWay-stay start) sub))
      (Left-edge g N (n + 1 + 1) m (out ∷ inner) back (omega arith) (omega arith)
      (kept g N Free (n + 1) n end start at_end at_n
      (SubWay-trans (SubWay-stay start) (SubWay-before more all we (SubWay-right stay more))))
      (Left-edge g N (n + 1 + 1) m inner out (omega arith) (omega (arith, he))
      (kept g N Free (n + 1) e end we at_end at_e (SubWay-before stay all we (SubWay-left stay more)))
      on))))
  left d (perhaps a) s e n M ws we ms me hs he sub =
      let w = way g d a in
      let inner = laid d a s e n in
      let m = after a n in
      Left-edge g M n m inner (edge_by Free s e) hs he
      (kept g M Free s e ws we ms me
      (SubWay-trans (SubWay-before stay (either stay w) we (SubWay-left stay w)) sub))
      (left d a s e n M ws we ms me hs he
      (SubWay-trans (SubWay-before w (either stay w) we (SubWay-right stay w)) sub))
