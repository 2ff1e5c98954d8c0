-- The walk along a path: what stands in the output, and what is due.
use Rattle.std.proofs.Common.{◌≡◌, ℕ, ◌+◌, ◌<◌, ◌≤◌, zero, suc, Bool, true, false, not, ◌&&◌, List, [], ◌∷◌}
use Rattle.std.proofs.Common.{◌++◌, length, get_or, take, drop, Option, Some, None, Bor, refl, sym, ap, subst}
use Rattle.std.proofs.Common.{◌∙◌, arith}
use Rattle.std.specs.Prelude.{IsUtf8, MatchOption, is_some, ◌==◌}
use Rattle.std.specs.Str.{IsCharBoundary}
use Rattle.std.specs.List.{list_any, before_first, after_first, position_or_len}
use Rattle.std.proofs.lemmas.Bool.{eqb-true, ne_eqb}
use Rattle.std.proofs.lemmas.List.{append_assoc, length-take, length-drop, take-append-drop, take-take}
use Rattle.std.proofs.lemmas.List.{take_all, drop-take}
use Rattle.std.proofs.lemmas.List.Folds.{length-prefix_len}
use Rattle.std.proofs.lemmas.List.Sums.{prefix_len-le-length}
use Rattle.std.proofs.lemmas.Str.{IsCharBoundary-from_take}
use Rattle.std.proofs.Math.Nat.{add-zero}
use Rattle.std.proofs.Math.Seq.{get_or-drop, drop-length, take-length}
use Rattle.iri_resolve.specs.Characters.{is_slash}
use Rattle.iri_resolve.specs.DotSegments.{without_dot_segments}
use Rattle.iri_resolve.specs.Parts.{Parts}
use Rattle.iri_resolve.specs.Resolution.{up_to_last_slash, merged_with, merged_path}
use Rattle.iri_resolve.specs.inner.Walk.{after_slash, dots_removed, slash_after, with_segment}
use Rattle.iri_resolve.specs.inner.Walk.{with_last_segment}
use Rattle.iri_resolve.specs.inner.Walk.{last_segment, IsSegment, WritesFrom, IsWalked, is_rooted}
use Rattle.iri_resolve.proofs.CutLemmas.{before_first-after_first, passes-at, list_any-none}
use Rattle.iri_resolve.proofs.CutLemmas.{list_any-before_first}
use Rattle.iri_resolve.proofs.PathLemmas.{up_to_last_slash-none, up_to_last_slash-segment, last_segment-none}
use Rattle.iri_resolve.proofs.PathLemmas.{last_segment-segment, up_to_last_slash-append-last_segment}
use Rattle.iri_resolve.proofs.PathLemmas.{list_any-last_segment}
use Rattle.iri_resolve.proofs.SegmentLemmas.{dots_removed-segment, dots_removed-last}

-- a text may be cut before its first slash, and at its end
pub IsCharBoundary-before_slash : (text before : List ℕ) → before ≡ before_first is_slash text
    → IsCharBoundary text (length before)
IsCharBoundary-before_slash text before e =
    let len : length before ≡ position_or_len is_slash text = ap length e
    ∙ length-prefix_len (λ x. not (is_slash x)) text in
    let fits : length before ≤ length text =
    omega (arith, prefix_len-le-length (λ x. not (is_slash x)) text) in (
      fits,
      λ inside high.
          let at : get_or text (position_or_len is_slash text) 0 ≡ 47 =
          eqb-true _ 47 (passes-at is_slash text (omega arith)) in
          let here : get_or text (length before) 0 ≡ 47 = rw len at in
          absurd (omega arith),
    )

pub IsSegment-first : (path before behind : List ℕ) → before ≡ before_first is_slash path
    → behind ≡ after_first is_slash path → position_or_len is_slash path < length path
    → IsSegment path before behind
IsSegment-first path before behind e f inside =
    let at = eqb-true _ 47 (passes-at is_slash path inside) in
    let whole = before_first-after_first is_slash path inside in
    record {
      parts = rw (e, f)
          (whole ∙ ap (λ (b : ℕ). before_first is_slash path ++ (b ∷ after_first is_slash path)) at);
      slash_free = ap (list_any is_slash) e ∙ list_any-before_first is_slash path;
    }

-- what `split_once` gives at a slash
pub IsSegment-split_once : (path : List ℕ) (cut : Option (Bor (List ℕ) × Bor (List ℕ)))
    → MatchOption cut (position_or_len is_slash path ≡ length path)
    (λ parts. (parts.0.now ≡ before_first is_slash path) × (parts.1.now ≡ after_first is_slash path)
    × (position_or_len is_slash path < length path))
    → MatchOption cut (list_any is_slash path ≡ false) (λ parts. IsSegment path parts.0.now parts.1.now)
IsSegment-split_once path None h = list_any-none is_slash path h
IsSegment-split_once path (Some parts) h = IsSegment-first path parts.0.now parts.1.now h.0 h.1 h.2

-- the output may be cut at its start and before a slash
pub IsCharBoundary-output : (bytes : List ℕ) (start kept : ℕ) → IsUtf8 bytes → start ≤ length bytes
    → IsUtf8 (take start bytes) → kept ≤ length (drop start bytes)
    → (0 < kept → is_slash (get_or (drop start bytes) kept 0) ≡ true) → IsCharBoundary bytes (start + kept)
IsCharBoundary-output bytes start zero u within text fits slash =
    subst (IsCharBoundary bytes) (sym (add-zero start)) (IsCharBoundary-from_take bytes start u within text)
IsCharBoundary-output bytes start (suc kept) u within text fits slash = (
  omega (arith, length-drop start bytes),
  λ inside high.
      let here : get_or bytes (start + suc kept) 0 ≡ 47 = sym (get_or-drop start bytes (suc kept) 0)
      ∙ eqb-true _ 47 (slash (omega arith)) in
      absurd (omega arith),
)

pub WritesFrom-truncated : (start kept : ℕ) (old new output : List ℕ) → start ≤ length old
    → kept ≤ length (drop start old) → new ≡ take (start + kept) old → take kept (drop start old) ≡ output
    → WritesFrom start old new output
WritesFrom-truncated start kept old new output within fits e f = record {
  within = rw e (omega (arith, length-take (start + kept) old, length-drop start old));
  front = rw e (take-take start (start + kept) old (omega arith));
  output_is = rw e (drop-take start kept old ∙ f);
}

-- what is known after some segments: what the definition says of the rest, from the output so far
pub record Walking (start : ℕ) (old new : List ℕ) (slash next : Bool) (path rest : List ℕ) : Type 0 where
  pub within : start ≤ length new
  pub front : take start new ≡ take start old
  pub due : (behind : List ℕ)
      → dots_removed (after_slash next (up_to_last_slash rest ++ behind)) (drop start new) ≡ dots_removed
      (after_slash slash (up_to_last_slash path ++ behind)) (drop start old)
  pub last : last_segment rest ≡ last_segment path

pub Walking-step : (start : ℕ) (old new later : List ℕ) (slash next after : Bool)
    (path rest segment behind : List ℕ)
    → Walking start old new slash next path rest → IsSegment rest segment behind
    → WritesFrom start new later (with_segment next segment (drop start new))
    → after ≡ slash_after next segment
    → Walking start old later slash after path behind
Walking-step start old new later slash next after path rest segment behind w s o e = record {
  within = o.within;
  front = o.front ∙ w.front;
  due = λ more.
      let up : up_to_last_slash rest ≡ segment ++ (47 ∷ up_to_last_slash behind) =
      ap up_to_last_slash s.parts ∙ up_to_last_slash-segment segment behind in
      let assoc = append_assoc segment (47 ∷ up_to_last_slash behind) more in
      let step =
      dots_removed-segment next segment (up_to_last_slash behind ++ more) (drop start new) s.slash_free in
      let there : dots_removed (after_slash next (up_to_last_slash rest ++ more))
      (drop start new) ≡ dots_removed
      (after_slash next (segment ++ (47 ∷ (up_to_last_slash behind ++ more)))) (drop start new)
      = rw (up, assoc) refl in
      let here : dots_removed (after_slash after (up_to_last_slash behind ++ more))
      (drop start later) ≡ dots_removed
      (after_slash (slash_after next segment) (up_to_last_slash behind ++ more))
      (with_segment next segment (drop start new))
      = rw (e, o.output_is) refl in
      here ∙ sym step ∙ sym there ∙ w.due more;
  last = sym (ap last_segment s.parts ∙ last_segment-segment segment behind) ∙ w.last;
}

pub IsWalked-end : (start : ℕ) (old new : List ℕ) (slash next : Bool) (path rest : List ℕ)
    → Walking start old new slash next path rest → list_any is_slash rest ≡ false
    → IsWalked start old new slash path next
IsWalked-end start old new slash next path rest w none = record {
  within = w.within;
  front = w.front;
  due = λ more. ap (λ (l : List ℕ). dots_removed (after_slash next (l ++ more)) (drop start new))
      (sym (up_to_last_slash-none rest none)) ∙ w.due more;
}

pub last_segment-end : (start : ℕ) (old new : List ℕ) (slash next : Bool) (path rest : List ℕ)
    → Walking start old new slash next path rest → list_any is_slash rest ≡ false → rest ≡ last_segment path
last_segment-end start old new slash next path rest w none = sym (last_segment-none rest none) ∙ w.last

-- the walk to the end of a path
pub WritesFrom-walked : (start : ℕ) (old new later : List ℕ) (slash next : Bool) (path last : List ℕ)
    → IsWalked start old new slash path next → last ≡ last_segment path
    → WritesFrom start new later (with_last_segment next last (drop start new))
    → WritesFrom start old later (dots_removed (after_slash slash path) (drop start old))
WritesFrom-walked start old new later slash next path last w e o =
    let none = ap (list_any is_slash) e ∙ list_any-last_segment path in
    let whole = ap (λ (l : List ℕ). up_to_last_slash path ++ l) e
    ∙ up_to_last_slash-append-last_segment path in
    record {
      within = o.within;
      front = o.front ∙ w.front;
      output_is = o.output_is ∙ sym (dots_removed-last next last (drop start new) none) ∙ w.due last
          ∙ ap (λ (l : List ℕ). dots_removed (after_slash slash l) (drop start old)) whole;
    }

-- all that was written is text
pub IsUtf8-written : (text : List ℕ) (start : ℕ) → IsUtf8 text → start ≡ length text
    → IsUtf8 (take start text)
IsUtf8-written text start u e = subst IsUtf8 (sym (take_all start text (omega arith))) u

-- a path written behind what was written
pub append-WritesFrom : (old new path : List ℕ) (start : ℕ) → start ≡ length old
    → WritesFrom start old new (dots_removed (after_slash false path) (drop start old))
    → new ≡ old ++ without_dot_segments path
unfolding dots_removed
append-WritesFrom old new path start e o =
    let nothing : drop start old ≡ [] = rw e (drop-length old) in
    let all : take start old ≡ old = rw e (take-length old) in
    let front : take start new ≡ old = o.front ∙ all in
    let output : drop start new ≡ without_dot_segments path = o.output_is ∙ ap (dots_removed path) nothing in
    sym (take-append-drop start new) ∙ rw (front, output) refl

-- a relative path is the base's up to its last slash, and then it
merged_path-is : (base : Parts) (path : List ℕ)
    → merged_path base path ≡ after_slash (is_rooted base) (up_to_last_slash base.path ++ path)
merged_path-is base path = by base.authority base.path where
  by : (authority : Option (List ℕ)) (front : List ℕ)
      → merged_with authority front path ≡ after_slash (is_some authority && (length front == 0))
      (up_to_last_slash front ++ path)
  by None front = refl
  by (Some authority) [] = refl
  by (Some authority) (b ∷ bs) =
      let some : (suc (length bs) == 0) ≡ false = ne_eqb _ _ (λ none. absurd (omega arith)) in
      rw some refl

-- a merged path written behind what was written
pub append-merged : (old new later path : List ℕ) (base : Parts) (start : ℕ) (rooted slash : Bool)
    → start ≡ length old → rooted ≡ is_rooted base → IsWalked start old new rooted base.path slash
    → WritesFrom start new later (dots_removed (after_slash slash path) (drop start new))
    → later ≡ old ++ without_dot_segments (merged_path base path)
append-merged old new later path base start rooted slash e r w o =
    append-WritesFrom old later (merged_path base path) start e (record {
      within = o.within;
      front = o.front ∙ w.front;
      output_is = o.output_is ∙ w.due path
          ∙ ap (λ (b : Bool). dots_removed (after_slash b (up_to_last_slash base.path ++ path))
          (drop start old)) r
          ∙ ap (λ (l : List ℕ). dots_removed l (drop start old)) (sym (merged_path-is base path));
    })

pub IsUtf8-walked : {old new path : List ℕ} {start : ℕ} {slash next : Bool}
    → IsWalked start old new slash path next → IsUtf8 (take start old) → IsUtf8 (take start new)
IsUtf8-walked w u = subst IsUtf8 (sym w.front) u
