use Rattle.std.specs.Prelude.{◌≡◌, ℕ, ◌<◌, Some, length, slice_get, All, flat_map, get_or}
use Rattle.std.proofs.Common.{rules, refl, sym, ◌∙◌, subst, arith}
use Rattle.std.proofs.lemmas.Option.{slice_get_read}
use Rattle.shx_term.proofs.MemberLemmas.{none_in_empty}
use Rattle.graph_view.specs.Graph.{HasTerms}
use Rattle.comp_core.specs.Memo.{remembered_of}
use Rattle.comp_core.specs.declared.pair.Pair.{Pair}
use Rattle.shape_eval.specs.Constraint.{IsReadOf, constraint_numbers}
use Rattle.shape_eval.specs.Nested.{asked_pairs, nested_in}
use Rattle.shape_eval.specs.Own.{asked_key}
use Rattle.shape_eval.specs.Recalled.{AreRecalled, Brings}
use Rattle.shape_eval.specs.Results.{value_nodes}
use Rattle.shape_eval.specs.inner.Told.{IsHeld}
use Rattle.shape_eval.proofs.AnswerLemmas.{IsOneAsked, all_held, asked_are, asked_at, brings_below}
use Rattle.shape_eval.proofs.AnswerLemmas.{held_below, more_held, nested_recalled, off_answer, off_nests_none}
use Rattle.shape_eval.proofs.AnswerLemmas.{on_answer, stays_below}
use Rattle.shape_eval.proofs.LevelLemmas.{numbers_known, shape_known}
use Rattle.shape_eval.proofs.RecalledLemmas.{AreRight-same, Brings-more, Brings-none, IsRecallOf-one}
use Rattle.shape_eval.proofs.RecalledLemmas.{RemembersSame-then}
use Rattle.shape_eval.proofs.ShapeLemmas.{values_known}
use Rattle.shape_eval.proofs.answering.+answer.Given.{Over}
use Rattle.shape_eval.proofs.answering.+answer.Goals.{After-deref-3, After-deref-below-items, After-pool}
use Rattle.shape_eval.proofs.answering.+answer.Goals as goal

-- the shape that is looked at is that of the pair
shape_is : (g : Over) (t : ℕ) (c : After-pool g t)
    → slice_get c.args.shapes.now c.args.pair.shape ≡ Some c.index-shapes-pair.result
shape_is g t c =
    slice_get_read c.args.shapes.now (length c.args.shapes.now) c.args.pair.shape c.index-shapes-pair.result
    refl c.requires.shape c.index-shapes-pair.is

abbrev start : Pair
start = record { shape = 0; node = 0 }

module _ (g : Over) (t : ℕ) (c : After-deref-below-items g t) where
  -- the loop goes over the pairs that the shape asks at the node
  all_asked : c.deref-below-items.result.now ≡ asked_pairs c.index-shapes-pair.result.constraints.items
      (value_nodes (g.V.GraphView.graph c.args.view.now) c.index-shapes-pair.result.path c.args.pair.node)
  all_asked =
      let sh = c.index-shapes-pair.result in
      asked_are c.deref-below-items.result.now c.in_ok-asked.asked.items c.deref.result.now
      sh.constraints.items c.deref-2.result.now c.in_ok-values.values.items
      (value_nodes (g.V.GraphView.graph c.args.view.now) sh.path c.args.pair.node)
      c.deref-below-items.ensures.value c.in_ok-asked.ensures c.deref.ensures.value c.deref-2.ensures.value
      c.in_ok-values.ensures.values

  one_asked : slice_get c.args.shapes.now c.args.pair.shape ≡ Some c.index-shapes-pair.result → (i : ℕ)
      → i < length c.deref-below-items.result.now
      → IsOneAsked (g.V.GraphView.graph c.args.view.now) c.args.pair c.index-shapes-pair.result
      (get_or c.deref-below-items.result.now i start)
  one_asked at i inside =
      let view = g.V.GraphView.graph c.args.view.now in
      let sh = c.index-shapes-pair.result in
      asked_at c.answers_follow.ensures.asks c.args.shapes.now c.requires.refers view c.args.pair sh at
      (values_known view c.pool.ensures.known sh.path c.args.pair.node c.requires.node)
      c.deref-below-items.result.now all_asked i start inside

pub returns-then-shape-clause-answer : goal.returns-then-shape-clause-answer
returns-then-shape-clause-answer g t c =
    off_answer c.answers_follow.ensures.follow c.args.shapes.now c.requires.refers
    (g.V.GraphView.graph c.args.view.now) c.pool.ensures.known c.requires.plan c.args.pair
    c.index-shapes-pair.result (shape_is g t (goal.at.returns-then-shape-clause-answer g t c).After-pool)
    c.requires.node g.M.Noted.Notes.has c.if-shape.true
    (record { rows = c.new.result; reads = c.new-reads.result })
    c.new.ensures.items c.new-reads.ensures

pub returns-then-shape-clause-nested : goal.returns-then-shape-clause-nested
returns-then-shape-clause-nested g t c =
    subst (AreRecalled (g.M.Memo.recalled c.args.memo.now))
    (sym (off_nests_none c.answers_follow.ensures.asks c.args.shapes.now c.requires.refers
    (g.V.GraphView.graph c.args.view.now) c.args.pair c.index-shapes-pair.result
    (shape_is g t (goal.at.returns-then-shape-clause-nested g t c).After-pool) c.if-shape.true))
    (record { each = λ p k. absurd (none_in_empty p k) })

pub returns-then-shape-clause-brings : goal.returns-then-shape-clause-brings
returns-then-shape-clause-brings g t c =
    Brings-more (nested_in c.args.shapes.now (g.V.GraphView.graph c.args.view.now) c.args.pair)
    (λ p k. absurd (none_in_empty p k)) (Brings-none (g.M.Memo.recalled c.args.memo.now) c.args.nested.now)

pub loop-below-init : goal.loop-below-init
loop-below-init g t c = record {
  known = c.requires.known;
  recall = c.requires.recall;
  brings = Brings-more (nested_in c.args.shapes.now (g.V.GraphView.graph c.args.view.now) c.args.pair)
      (λ p k. absurd (none_in_empty p k))
      (Brings-none (g.M.Memo.recalled c.args.memo.now) c.args.nested.now);
  kept = record { each = λ p. refl };
  held = search rules;
}

pub is_held-requires : goal.is_held-requires
is_held-requires g t c =
    let at = goal.at.is_held-requires g t c in
    let below = (one_asked g t at.After-deref-below-items (shape_is g t at.After-pool)
    c.loop-below.below-index c.loop-below-test.true).lower in
    let above = c.requires.shape in
    omega (arith, below, above)

pub loop-below-preserved-then-is_held : goal.loop-below-preserved-then-is_held
loop-below-preserved-then-is_held g t c =
    let state = g.M.Memo.recalled c.loop-below.memo in
    record {
      known = c.loop-below.invariant.known;
      recall = c.loop-below.invariant.recall;
      brings = c.loop-below.invariant.brings;
      kept = c.loop-below.invariant.kept;
      held = more_held c.args.shapes.now state state (λ p there. there) c.deref-below-items.result.now
          c.loop-below.below-index start c.loop-below-test.true c.loop-below.invariant.held
          c.if-is_held.ensures.held;
    }

pub answer-requires : goal.answer-requires
answer-requires g t c κs within =
    let shapes = c.args.shapes.now in
    let at = goal.at.answer-requires g t c in
    let one = one_asked g t at.After-deref-below-items (shape_is g t at.After-pool)
    c.loop-below.below-index c.loop-below-test.true in
    let d : Pair = get_or c.deref-below-items.result.now c.loop-below.below-index start in
    let below : d.shape < c.args.pair.shape = one.lower in
    let shape : d.shape < length shapes = omega (arith, below, c.requires.shape) in
    let node : d.node < length (g.V.GraphView.graph c.args.view.now).terms = one.node in
    let recall = c.loop-below.invariant.recall in
    search rules

pub returns-in_err-remember-clause-right : goal.returns-in_err-remember-clause-right
returns-in_err-remember-clause-right g t c =
    AreRight-same g.M.Noted.Notes.has c.args.shapes.now (g.V.GraphView.graph c.args.view.now)
    (g.M.Memo.recalled c.answer.new.memo) (g.M.Memo.recalled c.remember.new.self)
    c.in_err-remember.ensures.refused c.in_ok-found.ensures.right

pub loop-below-preserved : goal.loop-below-preserved
loop-below-preserved g t c =
    let view = g.V.GraphView.graph c.args.view.now in
    let shapes = c.args.shapes.now in
    let sh = c.index-shapes-pair.result in
    let asks = c.answers_follow.ensures.asks in
    let lower = c.requires.refers in
    let on = c.if-shape.false in
    let terms = c.pool.ensures.known in
    let asked = c.deref-below-items.result.now in
    let i = c.loop-below.below-index in
    let d : Pair = get_or asked i start in
    let inside = c.loop-below-test.true in
    let here = goal.at.loop-below-preserved g t c in
    let at = shape_is g t here.After-pool in
    let one = one_asked g t here.After-deref-below-items at i inside in
    let found = remembered_of c.in_ok-found.found in
    let first = g.M.Memo.recalled c.args.memo.now in
    let before = g.M.Memo.recalled c.loop-below.memo in
    let mid = g.M.Memo.recalled c.answer.new.memo in
    let after = g.M.Memo.recalled c.remember.new.self in
    let also = c.in_ok-remember.ensures.remembered in
    let to_find = c.if-is_held.ensures.to_find in
    let inner = c.in_ok-found.ensures.brings in
    let is = c.in_ok-found.ensures.answer in
    let kept = g.M.Memo.kept in
    record {
      known = c.in_ok-found.ensures.known;
      recall = IsRecallOf-one mid after d found also g.M.Noted.Notes.has shapes view
          (record { rows = is.rows; reads = is.reads; node = one.node }) c.in_ok-found.ensures.recall
          c.in_ok-found.ensures.nested;
      brings = subst (Brings first after (nested_in shapes view c.args.pair) c.args.nested.now)
          (sym c.tick.ensures)
          (brings_below asks shapes lower view c.args.pair sh at on terms d one first before mid after found
          to_find also c.args.nested.now c.loop-below.nested c.answer.new.nested
          c.loop-below.invariant.brings inner);
      kept = RemembersSame-then (kept c.args.memo.now) (kept c.loop-below.memo) (kept c.remember.new.self)
          c.loop-below.invariant.kept
          (RemembersSame-then (kept c.loop-below.memo) (kept c.answer.new.memo) (kept c.remember.new.self)
          c.in_ok-found.ensures.kept c.in_ok-remember.ensures.kept);
      held = more_held shapes before after
          (stays_below asks shapes lower view c.args.pair sh at on terms d one first before mid after found
          to_find also c.loop-below.nested c.answer.new.nested inner)
          asked i start inside c.loop-below.invariant.held
          (held_below asks shapes lower view c.args.pair sh at on terms d one first before mid after found
          to_find also);
    }

pub check_each-requires-clause-numbers : goal.check_each-requires-clause-numbers
check_each-requires-clause-numbers g t c =
    let view = g.V.GraphView.graph c.args.view.now in
    subst (λ cs. HasTerms view (flat_map constraint_numbers cs)) (sym c.deref-3.ensures.value)
    (numbers_known view c.args.shapes.now c.requires.plan c.args.pair.shape c.index-shapes-pair.result
    (shape_is g t (goal.at.check_each-requires-clause-numbers g t c).After-pool))

pub check_each-requires-clause-read : goal.check_each-requires-clause-read
check_each-requires-clause-read g t c =
    let view = g.V.GraphView.graph c.args.view.now in
    subst (All (λ k. IsReadOf k view.terms)) (sym c.deref-3.ensures.value)
    (shape_known view c.args.shapes.now c.requires.plan c.args.pair.shape c.index-shapes-pair.result
    (shape_is g t (goal.at.check_each-requires-clause-read g t c).After-pool)).read

pub check_each-requires-clause-held : goal.check_each-requires-clause-held
check_each-requires-clause-held g t c =
    let asked = c.deref-below-items.result.now in
    let items = c.index-shapes-pair.result.constraints.items in
    all_held c.args.shapes.now (g.M.Memo.recalled c.loop-below.memo) asked
    (asked_pairs c.deref-3.result.now c.deref-4.result.now) c.loop-below.below-index c.loop-below-test.false
    c.loop-below.invariant.held
    (asked_are asked c.in_ok-asked.asked.items c.deref.result.now c.deref-3.result.now c.deref-2.result.now
    c.in_ok-values.values.items c.deref-4.result.now c.deref-below-items.ensures.value c.in_ok-asked.ensures
    (◌∙◌ {b = items} c.deref.ensures.value (sym c.deref-3.ensures.value)) c.deref-2.ensures.value
    (sym c.deref-4.ensures.value))

-- behind the loop all that the shape asks is held
all_are_held : (g : Over) (t : ℕ) (c : After-deref-3 g t)
    → c.deref-below-items.result.now ≡ asked_pairs c.index-shapes-pair.result.constraints.items
    (value_nodes (g.V.GraphView.graph c.args.view.now) c.index-shapes-pair.result.path c.args.pair.node)
    → All (IsHeld c.args.shapes.now (g.M.Memo.recalled c.loop-below.memo))
    (asked_pairs c.index-shapes-pair.result.constraints.items
    (value_nodes (g.V.GraphView.graph c.args.view.now) c.index-shapes-pair.result.path c.args.pair.node))
all_are_held g t c same =
    let sh = c.index-shapes-pair.result in
    all_held c.args.shapes.now (g.M.Memo.recalled c.loop-below.memo) c.deref-below-items.result.now
    (asked_pairs sh.constraints.items
    (value_nodes (g.V.GraphView.graph c.args.view.now) sh.path c.args.pair.node))
    c.loop-below.below-index c.loop-below-test.false c.loop-below.invariant.held same

pub returns-clause-nested : goal.returns-clause-nested
returns-clause-nested g t c =
    let at = goal.at.returns-clause-nested g t c in
    nested_recalled c.answers_follow.ensures.asks c.args.shapes.now c.requires.refers
    (g.V.GraphView.graph c.args.view.now) c.args.pair c.index-shapes-pair.result (shape_is g t at.After-pool)
    c.if-shape.false g.M.Noted.Notes.has (g.M.Memo.recalled c.loop-below.memo) c.loop-below.invariant.recall
    (all_are_held g t at.After-deref-3 (all_asked g t at.After-deref-below-items))

pub returns-clause-answer : goal.returns-clause-answer
returns-clause-answer g t c =
    let view = g.V.GraphView.graph c.args.view.now in
    let shapes = c.args.shapes.now in
    let state = g.M.Memo.recalled c.loop-below.memo in
    let right = c.loop-below.invariant.recall.right in
    let at = goal.at.returns-clause-answer g t c in
    on_answer c.answers_follow.ensures.follow shapes c.requires.refers view c.pool.ensures.known
    c.requires.plan c.args.pair c.index-shapes-pair.result (shape_is g t at.After-pool) c.requires.node
    g.M.Noted.Notes.has g.met.M.Noted.Notes.laws g.met.M.Noted.Notes.has_more state right c.if-shape.false
    (all_are_held g t at.After-deref-3 (all_asked g t at.After-deref-below-items)) c.deref-3.result.now
    c.deref-3.ensures.value c.deref-4.result.now c.in_ok-values.values.items c.deref-4.ensures.value
    c.in_ok-values.ensures.values (record { rows = c.in_ok-rows.rows; reads = c.pack.new.self })
    c.in_ok-rows.ensures.rows c.new-reads.result c.find_values.new.reads c.check_each.new.reads
    c.new-reads.ensures c.in_ok-values.ensures.reads
    (c.in_ok-rows.ensures.reads (asked_key shapes) (λ d. refl)) c.in_ok-pack.ensures
