-- What is read for a pair, found along answers: parts of the graph that are read for it itself, or for a pair
-- to which one leads from it. So a change reaches a pair exactly where it touches what is read for it.
use Rattle.std.specs.Prelude.{◌≡◌, ℕ, zero, suc, ◌<◌, false, List, [], ◌∷◌, Option, Some, None, length}
use Rattle.std.specs.Prelude.{Contains, IsSome, is_some, ◌↔◌, ◌⊎◌}
use Rattle.std.proofs.Common.{refl, sym, ap, subst, arith, inl, inr, true≢false}
use Rattle.shx_term.specs.Members.{SameMembers}
use Rattle.shx_term.specs.declared.triple.Triple.{Triple}
use Rattle.shx_term.proofs.MemberLemmas.{Contains-flat_map, Contains-head}
use Rattle.graph_view.specs.declared.key.Key.{Key}
use Rattle.graph_view.specs.Graph.{Graph, AllKnown}
use Rattle.graph_view.specs.Key.{is_answer, Touches}
use Rattle.graph_view.proofs.ValidLemmas.{AllKnown-valid}
use Rattle.comp_core.specs.declared.pair.Pair.{Pair}
use Rattle.comp_core.specs.Pairs.{answer_key}
use Rattle.shape_eval.specs.declared.shape.PlanShape.{PlanShape}
use Rattle.shape_eval.specs.Laws.{AnswersReadAreBelow, NestedAreBelow, NestedAreLower, ReadsAreOwnOrBelow}
use Rattle.shape_eval.specs.Nested.{nested_in, pairs_below}
use Rattle.shape_eval.specs.Own.{own_reads}
use Rattle.shape_eval.specs.Plan.{IsKnownPlan, Planned, RefersLower}
use Rattle.shape_eval.specs.Recalled.{AreRecalled, IsRecallOf, IsRecalled}
use Rattle.shape_eval.specs.Results.{pair_reads}
use Rattle.read_records.specs.Recall.{Answer, IsReached, IsReadInAll, LeadsTo, RecallState, kept_of, recalled}
use Rattle.edit_engine.specs.MayBeAsked.{MayBeAsked}
use Rattle.edit_engine.specs.inner.Recall.{RemembersNested}
use Rattle.edit_engine.proofs.TouchLemmas.{HasTouched, touched_part}

-- what is so of the pairs of some shapes on a graph: what is read for one is read for it itself, or for one
-- right below it, whose answer is read; and that one is nested in it
pub record ReadLaws (shapes : List PlanShape) (g : Graph) : Type 0 where
  pub parts : ReadsAreOwnOrBelow
  pub answers : AnswersReadAreBelow
  pub below : NestedAreBelow
  pub lower : NestedAreLower
  pub refers : RefersLower shapes
  pub known : AllKnown g
  pub plan : IsKnownPlan g.terms shapes

pub ReadLaws-asked : ReadsAreOwnOrBelow → AnswersReadAreBelow → NestedAreBelow → NestedAreLower
    → (plan : Planned) (g : Graph) → MayBeAsked plan g → ReadLaws plan.shapes g
ReadLaws-asked parts answers below lower plan g asked = record {
  parts = parts;
  answers = answers;
  below = below;
  lower = lower;
  refers = asked.refers;
  known = AllKnown-valid g asked.valid;
  plan = asked.known;
}

-- a part of the graph that was read for what is known of a pair, or of one to which it leads
pub record IsReadAlong (known : Pair → Option Answer) (p : Pair) (key : Key) : Type 0 where
  pub last : Pair
  pub past : List Pair
  pub leads : LeadsTo known p past last
  pub answer : Answer
  pub is : known last ≡ Some answer
  pub read : Contains answer.reads key
  pub part : is_answer key ≡ false

-- or of one whose answer is among these keys
pub record IsReadBeyond (known : Pair → Option Answer) (keys : List Key) (key : Key) : Type 0 where
  pub first : Pair
  pub asked : Contains keys (answer_key first)
  pub along : IsReadAlong known first key

-- what is nested in one of some pairs is remembered where all that is nested in them is
pub nested_recalled : {shapes : List PlanShape} {g : Graph} {known : Pair → Option Answer} (ps : List Pair)
    → RemembersNested shapes g ps known → (p : Pair) → Contains ps p
    → AreRecalled known (nested_in shapes g p)
nested_recalled {shapes} {g} ps remembers p c = record {
  each = λ d k. remembers.nested.each d (Contains-flat_map (nested_in shapes g) ps p d c k);
}

-- where what is read for a pair itself is touched, what is read for it is
pub own_touched : ReadsAreOwnOrBelow → (shapes : List PlanShape) → RefersLower shapes → (g : Graph)
    → AllKnown g → IsKnownPlan g.terms shapes → (changed : List Triple) (p : Pair)
    → p.node < length g.terms → HasTouched changed (own_reads shapes g p)
    → HasTouched changed (pair_reads shapes g p)
own_touched law shapes refers g known plan changed p node has =
    let key = has.touched in
    let part = touched_part has.triple key.0 key.1.1 in
    record {
      triple = has.triple;
      changes = has.changes;
      touched = (
        key.0,
        ((law shapes refers g known plan p node key.0).1 (inl (key.1.0, part)), key.1.1),
      );
    }

module _ {shapes : List PlanShape} {g : Graph} (laws : ReadLaws shapes g) where
  -- ---- what is read for a pair itself, and for one whose answer is read

  pub own_read : (p : Pair) → p.node < length g.terms → (key : Key) → Contains (own_reads shapes g p) key
      → is_answer key ≡ false → Contains (pair_reads shapes g p) key
  own_read p node key own part =
      (laws.parts shapes laws.refers g laws.known laws.plan p node key).1 (inl (own, part))

  pub below_read : (p d : Pair) → p.node < length g.terms → Contains (own_reads shapes g p) (answer_key d)
      → (key : Key) → Contains (pair_reads shapes g d) key → Contains (pair_reads shapes g p) key
  below_read p d node own key read =
      (laws.parts shapes laws.refers g laws.known laws.plan p node key).1 (inr (record {
        below = d;
        stands = (laws.answers shapes g p d).0 own;
        read = read;
      }))

  -- a pair right below is nested in the pair
  nested_below : (p d : Pair) → Contains (pairs_below shapes g p) d → Contains (nested_in shapes g p) d
  nested_below p d c =
      subst (λ ds. Contains ds d) (sym (laws.below shapes laws.refers g p))
      (Contains-flat_map (λ e. e ∷ nested_in shapes g e) (pairs_below shapes g p) d d c
      (Contains-head d (nested_in shapes g d)))

  module _ {known : Pair → Option Answer} (recall : IsRecallOf SameMembers shapes g known) where
    -- ---- along answers

    -- what is read for the pair to which one leads is read for the pair
    read_through : (p : Pair) (past : List Pair) (last : Pair) → LeadsTo known p past last → (key : Key)
        → Contains (pair_reads shapes g last) key → Contains (pair_reads shapes g p) key
    read_through p [] last leads key read =
        subst (λ (q : Pair). Contains (pair_reads shapes g q) key) (sym leads) read
    read_through p (d ∷ ds) last leads key read =
        let rests = leads.0 in
        let right = recall.right.each p rests.answer rests.is in
        below_read p d right.node ((right.reads.each (answer_key d)).0 rests.read) key
        (read_through d ds last leads.1 key read)

    pub along_is_read : (p : Pair) (key : Key) → IsReadAlong known p key
        → Contains (pair_reads shapes g p) key
    along_is_read p key at =
        let right = recall.right.each at.last at.answer at.is in
        read_through p at.past at.last at.leads key
        (own_read at.last right.node key ((right.reads.each key).0 at.read) at.part)

    -- and what is read for a pair that is known is found so: it is read for the pair itself, or for one of a
    -- lower shape
    found_along : (n : ℕ) (o : Option Answer) (p : Pair) → known p ≡ o → IsSome o → p.shape < n
        → (key : Key) → Contains (pair_reads shapes g p) key → IsReadAlong known p key
    found_along zero o p is there under key read = absurd (omega arith)
    found_along (suc n) None p is there under key read = absurd (true≢false (sym there))
    found_along (suc n) (Some a) p is there under key read =
        let right = recall.right.each p a is in
        elim ((laws.parts shapes laws.refers g laws.known laws.plan p right.node key).0 read) [
          | inl own ↦ record {
            last = p;
            past = [];
            leads = refl;
            answer = a;
            is = is;
            read = (right.reads.each key).1 own.0;
            part = own.1;
          }
          | inr through ↦
              let d = through.below in
              let nested = nested_below p d through.stands in
              let lower = (laws.lower shapes laws.refers g laws.known p right.node d nested).lower in
              let under_it : d.shape < n = omega arith in
              let rest = found_along n (known d) d refl
              ((recall.closed.each p (ap is_some is)).each d nested) under_it key through.read in
              let asked = (laws.answers shapes g p d).1 through.stands in
              record {
                last = rest.last;
                past = d ∷ rest.past;
                leads = (
                  record { answer = a; is = is; read = (right.reads.each (answer_key d)).1 asked },
                  rest.leads,
                );
                answer = rest.answer;
                is = rest.is;
                read = rest.read;
                part = rest.part;
              }
        ]

    pub read_is_along : (p : Pair) → IsRecalled known p → (key : Key) → Contains (pair_reads shapes g p) key
        → IsReadAlong known p key
    read_is_along p there key read = found_along (suc p.shape) (known p) p refl there (omega arith) key read

    -- ---- of a pair that need not be known, where all that is nested in it is

    module _ (p : Pair) (node : p.node < length g.terms)
        (nested : AreRecalled known (nested_in shapes g p)) where
      pub own_or_beyond : (key : Key) → Contains (pair_reads shapes g p) key
          → (Contains (own_reads shapes g p) key × (is_answer key ≡ false))
          ⊎ IsReadBeyond known (own_reads shapes g p) key
      own_or_beyond key read =
          elim ((laws.parts shapes laws.refers g laws.known laws.plan p node key).0 read) [
            | inl own ↦ inl own
            | inr through ↦
                let d = through.below in
                inr (record {
                  first = d;
                  asked = (laws.answers shapes g p d).1 through.stands;
                  along = read_is_along d (nested.each d (nested_below p d through.stands)) key through.read;
                })
          ]

  -- what is read in all from these keys on
  pub read_in_all : (state : RecallState) → IsRecallOf SameMembers shapes g (recalled state) → (p : Pair)
      → p.node < length g.terms → AreRecalled (recalled state) (nested_in shapes g p) → (keys : List Key)
      → SameMembers (own_reads shapes g p) keys → (key : Key)
      → Contains (pair_reads shapes g p) key ↔ IsReadInAll state keys key
  read_in_all state recall p node nested keys same key = (
    λ read. elim (own_or_beyond recall p node nested key read) [
      | inl own ↦ record { part = own.1; read = inl ((same.each key).0 own.0) }
      | inr beyond ↦
          let at = beyond.along in
          record {
            part = at.part;
            read = inr (record {
              first = beyond.first;
              among = (same.each (answer_key beyond.first)).0 beyond.asked;
              past = at.past;
              last = at.last;
              leads = at.leads;
              answer = at.answer;
              is = at.is;
              read = at.read;
            });
          }
    ],
    λ all. elim all.read [
      | inl c ↦ own_read p node key ((same.each key).1 c) all.part
      | inr at ↦
          below_read p at.first node ((same.each (answer_key at.first)).1 at.among) key
          (along_is_read recall at.first key (record {
            last = at.last;
            past = at.past;
            leads = at.leads;
            answer = at.answer;
            is = at.is;
            read = at.read;
            part = all.part;
          }))
    ],
  )

  -- ---- whom a change reaches

  module _ (state : RecallState) (changed : List Triple)
      (recall : IsRecallOf SameMembers shapes g (kept_of state)) where
    pub reached_touched : (p : Pair) → IsReached state changed p → HasTouched changed (pair_reads shapes g p)
    reached_touched p reached =
        let at = reached.touched in
        let key = at.touched in
        let along : IsReadAlong (kept_of state) p key.0 = record {
          last = reached.last;
          past = reached.past;
          leads = reached.leads;
          answer = at.answer;
          is = at.kept;
          read = key.1.0;
          part = touched_part at.triple key.0 key.1.1;
        } in
        record {
          triple = at.triple;
          changes = at.changes;
          touched = (key.0, (along_is_read recall p key.0 along, key.1.1));
        }

    -- where what is read along answers is touched
    pub along_reached : (p : Pair) (triple : Triple) → Contains changed triple → (key : Key)
        → Touches triple key → IsReadAlong (kept_of state) p key → IsReached state changed p
    along_reached p triple changes key touches at = record {
      last = at.last;
      past = at.past;
      leads = at.leads;
      touched = record {
        answer = at.answer;
        kept = at.is;
        triple = triple;
        changes = changes;
        touched = (key, (at.read, touches));
      };
    }

    pub touched_reached : (p : Pair) → IsRecalled (kept_of state) p
        → HasTouched changed (pair_reads shapes g p) → IsReached state changed p
    touched_reached p there has =
        let key = has.touched in
        along_reached p has.triple has.changes key.0 key.1.1 (read_is_along recall p there key.0 key.1.0)
