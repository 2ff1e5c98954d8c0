-- Whom a change reaches: the targets and the pairs whose reads it touches.
use Rattle.std.specs.Prelude.{◌≡◌, ℕ, ◌<◌, true, List, Some, Contains, ◌↔◌, length}
use Rattle.std.proofs.Common.{sym, ◌∙◌, subst, inl, inr, true≢false}
use Rattle.shx_term.specs.declared.triple.Triple.{Triple}
use Rattle.graph_view.specs.declared.key.Key.{Key}
use Rattle.graph_view.specs.Graph.{Graph}
use Rattle.comp_core.specs.declared.pair.Pair.{Pair}
use Rattle.comp_core.specs.Pairs.{answer_key}
use Rattle.shape_eval.specs.declared.shape.PlanShape.{PlanShape}
use Rattle.shape_eval.specs.Own.{own_reads}
use Rattle.shape_eval.specs.Results.{pair_reads}
use Rattle.shape_eval.specs.Targets.{target_reads}
use Rattle.read_records.specs.declared.reader.Reader.{Reader}
use Rattle.read_records.specs.declared.reader.Reader.TheVariants.{OfPair, OfTarget}
use Rattle.read_records.specs.Recall.{IsReached, RecallState, kept_of}
use Rattle.read_records.specs.Records.{IsReachedBy, IsTouchedByAny, Recorded, reads_of}
use Rattle.edit_engine.specs.Recorded.{Holds}
use Rattle.edit_engine.specs.Touched.{is_any_touched}
use Rattle.edit_engine.specs.inner.Recall.{RemembersNested}
use Rattle.edit_engine.proofs.ReachedLemmas.{ReadLaws, along_reached, below_read, nested_recalled}
use Rattle.edit_engine.proofs.ReachedLemmas.{own_or_beyond, own_touched, reached_touched}
use Rattle.edit_engine.proofs.TargetReadLemmas.{target_part}
use Rattle.edit_engine.proofs.TouchLemmas.{HasTouched, touched_test}

some_is : {X : Type 0} (x y : X) → Some x ≡ Some y → x ≡ y
some_is x y e = cc

module _ {state : Recorded} {reader : Reader} {keys : List Key} (holds : Holds state reader keys) where
  -- what is recorded is what was read
  recorded_key : (reads : List Key) → reads_of state reader ≡ Some reads → (key : Key) → Contains reads key
      → Contains keys key
  recorded_key reads recorded key c =
      let same = some_is reads holds.reads (sym recorded ∙ holds.recorded) in
      (holds.same.each key).0 (subst (λ ks. Contains ks key) same c)

  -- whoever has these keys recorded is touched where they are
  touched_keys : {changed : List Triple} → IsTouchedByAny state changed reader → HasTouched changed keys
  touched_keys any =
      let key = any.touched.touched in
      record {
        triple = any.triple;
        changes = any.changes;
        touched = (
          key.0,
          (recorded_key any.touched.reads any.touched.recorded key.0 key.1.0, key.1.1),
        );
      }

  keys_touched : {changed : List Triple} → HasTouched changed keys → IsTouchedByAny state changed reader
  keys_touched has =
      let key = has.touched in
      record {
        triple = has.triple;
        changes = has.changes;
        touched = record {
          reads = holds.reads;
          recorded = holds.recorded;
          touched = (key.0, ((holds.same.each key.0).1 key.1.0, key.1.1));
        };
      }

-- of whoever is reached something is recorded
pub reached_record : (state : Recorded) (changed : List Triple) (answers : List Pair) (reader : Reader)
    → IsReachedBy state changed answers reader → (reads : List Key) × (reads_of state reader ≡ Some reads)
reached_record state changed answers reader (inl any) = (any.touched.reads, any.touched.recorded)
reached_record state changed answers reader (inr rests) = (rests.reads, rests.recorded)

module _ (state : Recorded) (changed : List Triple) (answers : List Pair) where
  -- ---- a target has read no answer

  pub target_reached : (shapes : List PlanShape) (g : Graph) (n : ℕ)
      → Holds state (OfTarget n) (target_reads shapes g n)
      → IsReachedBy state changed answers (OfTarget n)
      ↔ (is_any_touched changed (target_reads shapes g n) ≡ true)
  target_reached shapes g n holds =
      let test = touched_test changed (target_reads shapes g n) in (
        λ h. elim h [
          | inl any ↦ test.1 (touched_keys holds any)
          | inr rests ↦
              let key = answer_key rests.pair in
              absurd (true≢false
              (target_part shapes g n key (recorded_key holds rests.reads rests.recorded key rests.read)))
        ],
        λ e. inl (keys_touched holds (test.0 e)),
      )

-- ---- a pair has read those of the pairs right below it

-- these are the pairs that a change reaches, of which all that is nested in some others are remembered
pub record Reaches (shapes : List PlanShape) (g : Graph) (ps : List Pair) (changed : List Triple)
    (first : RecallState) (answers : List Pair) : Type 0 where
  pub laws : ReadLaws shapes g
  pub remembers : RemembersNested shapes g ps (kept_of first)
  pub each : (q : Pair) → Contains answers q ↔ IsReached first changed q

module _ {shapes : List PlanShape} {g : Graph} {ps : List Pair} {changed : List Triple} {first : RecallState}
    {answers : List Pair} (reaches : Reaches shapes g ps changed first answers) (state : Recorded) (p : Pair)
    (node : p.node < length g.terms) (holds : Holds state (OfPair p) (own_reads shapes g p)) where
  reached_has : IsReachedBy state changed answers (OfPair p) → HasTouched changed (pair_reads shapes g p)
  reached_has (inl any) =
      let laws = reaches.laws in
      own_touched laws.parts shapes laws.refers g laws.known laws.plan changed p node (touched_keys holds any)
  reached_has (inr rests) =
      let key = answer_key rests.pair in
      let own = recorded_key holds rests.reads rests.recorded key rests.read in
      let below = reached_touched reaches.laws first changed reaches.remembers.recall rests.pair
      ((reaches.each rests.pair).0 rests.among) in
      record {
        triple = below.triple;
        changes = below.changes;
        touched = (
          below.touched.0,
          (
            below_read reaches.laws p rests.pair node own below.touched.0 below.touched.1.0,
            below.touched.1.1,
          ),
        );
      }

  has_reached : Contains ps p → HasTouched changed (pair_reads shapes g p)
      → IsReachedBy state changed answers (OfPair p)
  has_reached c has =
      let key = has.touched in
      let nested = nested_recalled ps reaches.remembers p c in
      elim (own_or_beyond reaches.laws reaches.remembers.recall p node nested key.0 key.1.0) [
        | inl own ↦
            let touched : HasTouched changed (own_reads shapes g p) = record {
              triple = has.triple;
              changes = has.changes;
              touched = (key.0, (own.0, key.1.1));
            } in
            inl (keys_touched holds touched)
        | inr beyond ↦
            let reached = along_reached reaches.laws first changed reaches.remembers.recall beyond.first
            has.triple has.changes key.0 key.1.1 beyond.along in
            inr (record {
              pair = beyond.first;
              among = (reaches.each beyond.first).1 reached;
              reads = holds.reads;
              recorded = holds.recorded;
              read = (holds.same.each (answer_key beyond.first)).1 beyond.asked;
            })
      ]

  pub pair_reached : Contains ps p → IsReachedBy state changed answers (OfPair p)
      ↔ (is_any_touched changed (pair_reads shapes g p) ≡ true)
  pair_reached c =
      let test = touched_test changed (pair_reads shapes g p) in
      (λ h. test.1 (reached_has h), λ e. has_reached c (test.0 e))
