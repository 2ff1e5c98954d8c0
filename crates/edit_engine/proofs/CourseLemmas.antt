-- Changes of a history can be taken back, and made again, whichever of these is done.
use Rattle.std.specs.Prelude.{◌≡◌, ℕ, ◌+◌, ◌-◌, ◌==◌, Bool, true, false, List, [], ◌∷◌, ◌++◌, Some}
use Rattle.std.specs.Prelude.{None, drop, length, map, reverse, slice_get, take, if◌then◌else◌}
use Rattle.std.proofs.Common.{refl, sym, ap, ◌∙◌, subst, arith}
use Rattle.std.proofs.lemmas.Bool.{eqb-false}
use Rattle.std.proofs.lemmas.List.{drop_all, drop_more, map-append, reverse-append, take-append-drop}
use Rattle.std.proofs.lemmas.List.{take_all, take_more}
use Rattle.std.proofs.lemmas.Option.{get_or_from_slice_get, slice_get_within}
use Rattle.edit_history.specs.declared.net.Net.{Net}
use Rattle.edit_history.specs.History.{Past, history_after, redo_change, undo_change}
use Rattle.graph_view.specs.Graph.{Graph}
use Rattle.graph_view.specs.SameGraph.{SameGraph}
use Rattle.edit_engine.specs.Course.{CanFollow, IsCourse, IsReady, IsWhole}
use Rattle.edit_engine.specs.Nets.{IsNetOn, graph_after, is_no_change, turned}
use Rattle.edit_engine.proofs.SoundLemmas.{CanFollow-front, CanFollow-over, Extends-same, IsSound}
use Rattle.edit_engine.proofs.SoundLemmas.{IsSound-after, IsSound-whole}
use Rattle.edit_engine.proofs.TakenBackLemmas.{Extends-back, ready_back}

-- the changes that take these back, the last one first
abbrev pub ways_back : List Net → List Net
ways_back nets = map (turned true) (reverse nets)

ways_back-push : (nets : List Net) (net : Net)
    → ways_back (nets ++ net ∷ []) ≡ turned true net ∷ ways_back nets
ways_back-push nets net = ap (map (turned true)) (reverse-append nets (net ∷ []))

-- those of the last so many come first
ways_back-front : (n : ℕ) (nets : List Net)
    → ways_back nets ≡ ways_back (drop n nets) ++ ways_back (take n nets)
ways_back-front n nets =
    ap ways_back (sym (take-append-drop n nets))
    ∙ ap (map (turned true)) (reverse-append (take n nets) (drop n nets))
    ∙ map-append (turned true) (reverse (drop n nets)) (reverse (take n nets))

-- ---- the change at a place

module _ (changes : List Net) (i : ℕ) (net : Net) (here : slice_get changes i ≡ Some net) where
  take_next : take (i + 1) changes ≡ take i changes ++ net ∷ []
  take_next =
      take_more changes i net (slice_get_within changes i net here)
      ∙ ap (λ x. take i changes ++ x ∷ []) (get_or_from_slice_get changes i net net here)

  drop_next : drop i changes ≡ net ∷ drop (i + 1) changes
  drop_next =
      drop_more changes i net (slice_get_within changes i net here)
      ∙ ap (λ x. x ∷ drop (i + 1) changes) (get_or_from_slice_get changes i net net here)

undo_place : (past : Past) (net : Net) → undo_change past ≡ Some net
    → (past.cursor ≡ (past.cursor - 1) + 1) × (slice_get past.changes (past.cursor - 1) ≡ Some net)
undo_place past net e = by (past.cursor == 0) refl e
  where
    by : (b : Bool) → (past.cursor == 0) ≡ b
        → (if b then None else slice_get past.changes (past.cursor - 1)) ≡ Some net
        → (past.cursor ≡ (past.cursor - 1) + 1) × (slice_get past.changes (past.cursor - 1) ≡ Some net)
    by true zero e = absurd (cc)
    by false some e =
        let more = eqb-false past.cursor 0 some in
        (omega (arith, more), e)

module _ (most : ℕ) (g : Graph) (past : Past) (net : Net) (course : IsCourse most g past.changes past.cursor)
  where
    -- what can be taken back, and what then
    undo_first : undo_change past ≡ Some net
        → CanFollow most g (turned true net ∷ ways_back (take (past.cursor - 1) past.changes))
    undo_first e =
        let place = undo_place past net e in
        let taken : take past.cursor past.changes ≡ take (past.cursor - 1) past.changes ++ net ∷ [] =
        ap (λ n. take n past.changes) place.0 ∙ take_next past.changes (past.cursor - 1) net place.1 in
        subst (CanFollow most g)
        (ap ways_back taken ∙ ways_back-push (take (past.cursor - 1) past.changes) net) course.back

    redo_first : redo_change past ≡ Some net → CanFollow most g (net ∷ drop (past.cursor + 1) past.changes)
    redo_first e = subst (CanFollow most g) (drop_next past.changes past.cursor net e) course.forth

pub course_back : (most : ℕ) (g : Graph) (past : Past) (net : Net) → IsCourse most g past.changes past.cursor
    → undo_change past ≡ Some net → IsReady most g (turned true net)
course_back most g past net course e = (undo_first most g past net course e).0

pub course_forth : (most : ℕ) (g : Graph) (past : Past) (net : Net) → IsCourse most g past.changes past.cursor
    → redo_change past ≡ Some net → IsReady most g net
course_forth most g past net course e = (redo_first most g past net course e).0

module _ (most : ℕ) (g h : Graph) (net : Net) (whole : IsWhole most g) (fits : IsNetOn g net)
    (changes : is_no_change net ≡ false) (same : SameGraph (graph_after g net) h) where
  sound : IsSound g
  sound = IsSound-whole most g whole

  -- what may follow once it is made may follow in the graph at hand
  follow_now : (nets : List Net) → CanFollow most (graph_after g net) nets → CanFollow most h nets
  follow_now nets =
      CanFollow-over most (graph_after g net) h nets
      (Extends-same (graph_after g net) h same (IsSound-after g net sound fits))

  -- it can be taken back, and then what may follow before it
  follow_back : (nets : List Net) → CanFollow most g nets → CanFollow most h (turned true net ∷ nets)
  follow_back nets follow = (
    ready_back g h net sound fits same most whole changes,
    CanFollow-over most g (graph_after h (turned true net)) nets
        (Extends-back g h net sound fits same whole.valid) follow,
  )

pub course_made : (most : ℕ) (g h : Graph) (past : Past) (net : Net) → IsWhole most g
    → IsCourse most g past.changes past.cursor → IsNetOn g net → is_no_change net ≡ false
    → SameGraph (graph_after g net) h
    → IsCourse most h (history_after past net) (length (history_after past net))
course_made most g h past net whole course fits changes same =
    let made = take past.cursor past.changes in
    let all = made ++ net ∷ [] in
    let n = length all - past.depth in
    let new = history_after past net in
    let first = follow_back most g h net whole fits changes same (ways_back made) course.back in
    let each : CanFollow most h (ways_back all) =
    subst (CanFollow most h) (sym (ways_back-push made net)) first in
    let back : CanFollow most h (ways_back new) =
    CanFollow-front most h (ways_back new) (ways_back (take n all))
    (subst (CanFollow most h) (ways_back-front n all) each) in
    record {
      back = subst (λ nets. CanFollow most h (ways_back nets)) (sym (take_all (length new) new (omega arith)))
          back;
      forth = subst (CanFollow most h) (sym (drop_all (length new) new (omega arith))) tt;
    }

pub course_undone : (most : ℕ) (g h : Graph) (past : Past) (net : Net) → IsWhole most g
    → IsCourse most g past.changes past.cursor → undo_change past ≡ Some net
    → SameGraph (graph_after g (turned true net)) h → IsCourse most h past.changes (past.cursor - 1)
course_undone most g h past net whole course e same =
    let place = undo_place past net e in
    let first = undo_first most g past net course e in
    let ready = first.0 in
    let next : drop (past.cursor - 1) past.changes ≡ net ∷ drop past.cursor past.changes =
    drop_next past.changes (past.cursor - 1) net place.1
    ∙ ap (λ n. net ∷ drop n past.changes) (sym place.0) in
    record {
      back = follow_now most g h (turned true net) whole ready.fits ready.changes same
          (ways_back (take (past.cursor - 1) past.changes)) first.1;
      forth = subst (CanFollow most h) (sym next)
          (follow_back most g h (turned true net) whole ready.fits ready.changes same
          (drop past.cursor past.changes) course.forth);
    }

pub course_redone : (most : ℕ) (g h : Graph) (past : Past) (net : Net) → IsWhole most g
    → IsCourse most g past.changes past.cursor → redo_change past ≡ Some net
    → SameGraph (graph_after g net) h → IsCourse most h past.changes (past.cursor + 1)
course_redone most g h past net whole course e same =
    let first = redo_first most g past net course e in
    let ready = first.0 in
    let made = take past.cursor past.changes in
    let next : ways_back (take (past.cursor + 1) past.changes) ≡ turned true net ∷ ways_back made =
    ap ways_back (take_next past.changes past.cursor net e) ∙ ways_back-push made net in
    record {
      back = subst (CanFollow most h) (sym next)
          (follow_back most g h net whole ready.fits ready.changes same (ways_back made) course.back);
      forth = follow_now most g h net whole ready.fits ready.changes same
          (drop (past.cursor + 1) past.changes) first.1;
    }
