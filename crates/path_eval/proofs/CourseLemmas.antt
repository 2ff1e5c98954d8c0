-- A whole path: what is left of it at each of its places.
use Rattle.std.specs.Prelude.{◌≡◌, ◌+◌, ◌<◌, true, false, ◌∷◌, if◌then◌else◌, length}
use Rattle.std.proofs.Common.{refl, sym, ◌∙◌, subst, true≢false, arith}
use Rattle.graph_view.specs.Graph.{Graph, AllKnown}
use Rattle.path_eval.specs.declared.direction.Direction.{Direction}
use Rattle.path_eval.specs.declared.direction.Direction.TheVariants.{Forward, Backward}
use Rattle.path_eval.specs.Route.{Route, along, here, first_then, none, one_or_other, turned, any_times}
use Rattle.path_eval.specs.Route.{some_times, perhaps}
use Rattle.path_eval.specs.Way.{Way, way, stay, then_by, closed, repeated}
use Rattle.path_eval.specs.declared.edge.Label.TheVariants.{Free}
use Rattle.path_eval.specs.inner.Course.{Line, nothing_laid, passed, left_closure, turning, turning_back}
use Rattle.path_eval.specs.inner.Course.{led, whole}
use Rattle.path_eval.specs.inner.Laid.{after, edge_by, laid}
use Rattle.path_eval.proofs.LeftLemmas.{Left, Left-none, Left-append, Left-edge, Left-put, kept, left}
use Rattle.path_eval.proofs.LeftLemmas.{put, put_same, put_below}
use Rattle.path_eval.proofs.MeetsLemmas.{path_within}
use Rattle.path_eval.proofs.SameRouteLemmas.{path_form, in_turn, often, more_often}
use Rattle.path_eval.proofs.SubLemmas.{SubWay, SubWay-itself, SubWay-trans, SubWay-left, SubWay-right}
use Rattle.path_eval.proofs.SubLemmas.{SubWay-before, SubWay-after, SubWay-together, SubWay-apart}
use Rattle.path_eval.proofs.SubLemmas.{SubWay-stay, SubWay-stayed, SubWay-end, SubWay-ended}
use Rattle.path_eval.proofs.SubLemmas.{SubWay-once_more}

-- ---- a path by its form

-- what is no sequence, and no closure, is laid to a new place
pub led_other : (d : Direction) (a : Route) (line : Line) → (path_form a ≡ in_turn → ⊥)
    → (path_form a ≡ often → ⊥) → (path_form a ≡ more_often → ⊥) → led d a line ≡ passed d a line
led_other d (along p) line other less more = refl
led_other d here line other less more = absurd (other refl)
led_other d (first_then a b) line other less more = absurd (other refl)
led_other d none line other less more = refl
led_other d (one_or_other a b) line other less more = refl
led_other d (turned a) line other less more = refl
led_other d (any_times a) line other less more = absurd (less refl)
led_other d (some_times a) line other less more = absurd (more refl)
led_other d (perhaps a) line other less more = refl

-- ---- what is left

module _ (g : Graph) where
  -- the way w is left at the start, and the rest where the line ends, and no more than that if no closure
  -- turns there
  pub record Leaves (w : Way) (line : Line) (rest : Way) : Type 0 where
    pub left : Left g (λ q. w) 1 line.places line.edges
    pub within : line.end < line.places
    pub least : SubWay rest (left.at line.end)
    pub most : line.turns ≡ false → SubWay (left.at line.end) rest

  Leaves-same : (w : Way) (line : Line) (rest other : Way) → SubWay other rest → SubWay rest other
      → Leaves w line rest → Leaves w line other
  Leaves-same w line rest other less more leaves = record {
    left = leaves.left;
    within = leaves.within;
    least = SubWay-trans less leaves.least;
    most = λ still. SubWay-trans (leaves.most still) more;
  }

  Leaves-start : (w : Way) → Leaves w nothing_laid w
  Leaves-start w = record {
    left = Left-none g (λ q. w) 1;
    within = omega arith;
    least = SubWay-itself w;
    most = λ still. SubWay-itself w;
  }

module _ (g : Graph) (known : AllKnown g) (d : Direction) (w : Way) where
  pass : (a : Route) (line : Line) (rest : Way) → Leaves g w line (then_by (way g d a) rest)
      → Leaves g w (passed d a line) rest
  pass a line rest leaves =
      let M = leaves.left.at in
      let s = line.end in
      let n = line.places in
      let edges = laid d a s n (n + 1) in
      let part : Left g (put M n rest) (n + 1) (after a (n + 1)) edges =
      left g known d a s n (n + 1) (put M n rest) (M s) rest (put_below M n rest s leaves.within)
      (put_same M n rest) (omega (arith, leaves.within)) (omega arith) leaves.least in
      let at_end : part.at n ≡ rest = part.same n (omega arith) ∙ put_same M n rest in
      record {
        left =
            Left-append g (λ q. w) 1 n (after a (n + 1)) line.edges edges leaves.left
            (Left-put g M n (after a (n + 1)) rest edges part);
        within = omega (arith, part.more);
        least = subst (SubWay rest) (sym at_end) (SubWay-itself rest);
        most = λ still. subst (λ v. SubWay v rest) (sym at_end) (SubWay-itself rest);
      }

  -- where no closure turns, a closure of a turns
  turn : (a : Route) (line : Line) (rest : Way) → line.turns ≡ false
      → Leaves g w line (then_by (way g d (any_times a)) rest) → Leaves g w (turning d a line) rest
  turn a line rest still leaves =
      let M = leaves.left.at in
      let s = line.end in
      let n = line.places in
      let one = way g d a in
      let count = length g.terms in
      let more = repeated count one in
      let all = closed count one in
      let edges = laid d a s s n in
      let again : SubWay (then_by one (M s)) (M s) =
      SubWay-trans (SubWay-after one (M s) (then_by all rest) (leaves.most still))
      (SubWay-trans (SubWay-together one all rest)
      (SubWay-trans (SubWay-before (then_by one all) all rest
      (SubWay-trans (SubWay-once_more count one (path_within g known d a)) (SubWay-right stay more)))
      leaves.least)) in
      let part : Left g M n (after a n) edges =
      left g known d a s s n M (M s) (M s) refl refl leaves.within leaves.within again in
      let at_end : part.at s ≡ M s = part.same s leaves.within in
      record {
        left = Left-append g (λ q. w) 1 n (after a n) line.edges edges leaves.left part;
        within = omega (arith, leaves.within, part.more);
        least =
            subst (SubWay rest) (sym at_end)
            (SubWay-trans (SubWay-stayed rest)
            (SubWay-trans (SubWay-before stay all rest (SubWay-left stay more)) leaves.least));
        most = λ turns. absurd (true≢false turns);
      }

  turn_back : (a : Route) (line : Line) (rest : Way) → line.turns ≡ false
      → Leaves g w line (then_by (way g d (some_times a)) rest) → Leaves g w (turning_back d a line) rest
  turn_back a line rest still leaves =
      let M = leaves.left.at in
      let s = line.end in
      let n = line.places in
      let one = way g d a in
      let count = length g.terms in
      let more = repeated count one in
      let all = closed count one in
      let mid = then_by all rest in
      let N = put M n mid in
      let m = after a (n + 1) in
      let edges = laid d a s n (n + 1) in
      let back = edge_by Free n s in
      let at_s : N s ≡ M s = put_below M n mid s leaves.within in
      let at_n : N n ≡ mid = put_same M n mid in
      let once : SubWay (then_by one mid) (M s) =
      SubWay-trans (SubWay-together one all rest)
      (SubWay-trans (SubWay-before (then_by one all) more rest
      (SubWay-once_more count one (path_within g known d a))) leaves.least) in
      let again : SubWay (then_by stay (M s)) mid =
      SubWay-trans (SubWay-stay (M s))
      (SubWay-trans (leaves.most still) (SubWay-before more all rest (SubWay-right stay more))) in
      let part : Left g N (n + 1) m edges =
      left g known d a s n (n + 1) N (M s) mid at_s at_n (omega (arith, leaves.within)) (omega arith) once in
      let at_end : part.at n ≡ mid = part.same n (omega arith) ∙ at_n in
      record {
        left =
            Left-append g (λ q. w) 1 n m line.edges (back ∷ edges) leaves.left
            (Left-put g M n m mid (back ∷ edges)
            (Left-edge g N (n + 1) m edges back (omega arith) (omega (arith, leaves.within))
            (kept g N Free n s mid (M s) at_n at_s again) part));
        within = omega (arith, part.more);
        least =
            subst (SubWay rest) (sym at_end)
            (SubWay-trans (SubWay-stayed rest) (SubWay-before stay all rest (SubWay-left stay more)));
        most = λ turns. absurd (true≢false turns);
      }

  leave : (line : Line) (rest : Way) → Leaves g w line rest
      → Leaves g w (left_closure d line) rest × ((left_closure d line).turns ≡ false)
  leave line rest leaves =
      let there = passed d here line in
      elim line.turns as
      (λ b. line.turns ≡ b
      → Leaves g w (if b then there else line) rest × ((if b then there else line).turns ≡ false)) [
        | true ↦ λ turns. (
          pass here line rest
              (Leaves-same g w line rest (then_by stay rest) (SubWay-stay rest) (SubWay-stayed rest) leaves),
          refl,
        )
        | false ↦ λ still. (leaves, still)
      ] refl

module _ (g : Graph) (known : AllKnown g) (w : Way) where
  lead : (d : Direction) (a : Route) (line : Line) (rest : Way) → Leaves g w line (then_by (way g d a) rest)
      → Leaves g w (led d a line) rest
  lead d (along p) line rest leaves = pass g known d w (along p) line rest leaves
  lead d here line rest leaves =
      Leaves-same g w line (then_by stay rest) rest (SubWay-stayed rest) (SubWay-stay rest) leaves
  lead Forward (first_then a b) line rest leaves =
      let v = way g Forward a in
      let u = way g Forward b in
      lead Forward b (led Forward a line) rest
      (lead Forward a line (then_by u rest)
      (Leaves-same g w line (then_by (then_by v u) rest) (then_by v (then_by u rest))
      (SubWay-together v u rest) (SubWay-apart v u rest) leaves))
  lead Backward (first_then a b) line rest leaves =
      let v = way g Backward b in
      let u = way g Backward a in
      lead Backward a (led Backward b line) rest
      (lead Backward b line (then_by u rest)
      (Leaves-same g w line (then_by (then_by v u) rest) (then_by v (then_by u rest))
      (SubWay-together v u rest) (SubWay-apart v u rest) leaves))
  lead d none line rest leaves = pass g known d w none line rest leaves
  lead d (one_or_other a b) line rest leaves = pass g known d w (one_or_other a b) line rest leaves
  lead d (turned a) line rest leaves = pass g known d w (turned a) line rest leaves
  lead d (any_times a) line rest leaves =
      let there = leave g known d w line (then_by (way g d (any_times a)) rest) leaves in
      turn g known d w a (left_closure d line) rest there.1 there.0
  lead d (some_times a) line rest leaves =
      let there = leave g known d w line (then_by (way g d (some_times a)) rest) leaves in
      turn_back g known d w a (left_closure d line) rest there.1 there.0
  lead d (perhaps a) line rest leaves = pass g known d w (perhaps a) line rest leaves

-- the whole path is left at its start, and nothing at its end
pub whole_left : (g : Graph) → AllKnown g → (d : Direction) (a : Route)
    → Leaves g (way g d a) (whole d a) stay
whole_left g known d a =
    let w = way g d a in
    lead g known w d a nothing_laid stay
    (Leaves-same g w nothing_laid w (then_by w stay) (SubWay-end w) (SubWay-ended w) (Leaves-start g w))
