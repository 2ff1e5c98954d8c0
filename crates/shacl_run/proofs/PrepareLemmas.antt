-- What was read decides what the two texts come to.
use Rattle.std.proofs.Common.{◌≡◌, ℕ, false, List, Option, None, Some, refl, ◌∙◌, sym, subst, inl, inr}
use Rattle.std.proofs.Common.{Result, Ok, Err}
use Rattle.std.specs.Prelude.{IfSome, IfOk, IfErr, OnOk, ◌⊎◌}
use Rattle.shx_outside.specs.declared.flags.Flags.{Flags}
use Rattle.shx_outside.specs.declared.role.Role.TheVariants.{Shapes as of_shapes, Data as of_data}
use Rattle.shx_outside.specs.Outside.{PatternState}
use Rattle.shx_term.specs.declared.fault_codes.TheConstants.{PATTERN_REFUSED}
use Rattle.shx_term.specs.declared.limits.Limits.{Limits}
use Rattle.shx_term.specs.declared.term.Scope.{Scope}
use Rattle.shx_term.specs.declared.term.Scope.TheVariants.{Shapes, Data}
use Rattle.shx_term.specs.declared.term.Term.{Term}
use Rattle.shx_term.specs.Pool.{Pooled}
use Rattle.shx_term.specs.Vocabulary.{vocabulary}
use Rattle.graph_view.specs.Graph.{Graph}
use Rattle.shape_eval.specs.Plan.{Planned}
use Rattle.shape_eval.specs.Planned.{plan_of}
use Rattle.text_input.specs.TextRead.{ReadsWhole, IsTooLong}
use Rattle.text_output.specs.declared.format.Format.{Format}
use Rattle.ttl_meaning.specs.State.{State}
use Rattle.script_lines.specs.declared.fault.LineFault.TheVariants.{Memory as no_memory}
use Rattle.report_write.specs.declared.answer.Answer.{Answer}
use Rattle.report_write.specs.declared.answer.Answer.TheVariants.{OfShape, TooLong}
use Rattle.shape_text.specs.declared.judging.Accepted.{Accepted}
use Rattle.shape_text.specs.declared.refusal.Refusal.{Refusal}
use Rattle.shape_text.specs.declared.refusal.Refusal.TheVariants.{Text, Cut}
use Rattle.shape_text.specs.declared.unopened.Unopened.{Unopened}
use Rattle.shape_text.specs.declared.unopened.Unopened.TheVariants as unopened
use Rattle.shape_text.specs.declared.stop.Stop.{Stop}
use Rattle.script_run.specs.declared.validation.Validation.{Validation}
use Rattle.shape_text.specs.Judging.{Accepts, IsShapesRefusal, RefusesShapes}
use Rattle.shacl_run.specs.inner.Validation.{Opens, RefusesData}
use Rattle.shacl_run.specs.inner.Prepared.{AreRead, HasNamesRead, HostStays, IsPrepared, JudgedBy, Prepares}
use Rattle.shacl_run.specs.inner.Prepared.{PreparesBy}
use Rattle.shape_text.specs.Refusal.{IsRefusalOf}
use Rattle.shape_text.specs.Unopened.{beside}
use Rattle.script_run.specs.Manner.{LineReadings}
use Rattle.shape_text.specs.Names.{HasNamesOf}
use Rattle.shacl_run.specs.Readings.{Readings}
use Rattle.shape_text.specs.TextReadings.{TextReading, States, Faulty, Long, IsReadAs, stated_graph}
use Rattle.shape_text.specs.ShapesReadings.{AreJudged, ComeTo, HavePlan, IsRefusedIn, PatternsAreAdmitted}
use Rattle.shape_text.specs.ShapesReadings.{ShapesAreRead}
use Rattle.shacl_run.specs.Readings.{DataIsRead}
use Rattle.shacl_run.specs.Run.{Opening, texts_opening, with_data, with_shapes, with_verdict}
use Rattle.shape_text.specs.Verdict.{passed_over, RoseWhere, Obstacle, Verdict, obstacle_answer, plans}
use Rattle.shape_text.specs.Verdict.{refuses_pattern, stops}
use Rattle.shacl_run.specs.Run.{refused}
use Rattle.shacl_run.specs.Run.Opening.{ends, opens}
use Rattle.shape_text.specs.Verdict.Obstacle.{breaks, recurs, reaches_far, misspells, is_refused}
use Rattle.shape_text.proofs.ReadingLemmas.{read_once}

-- ---- the texts that are told

-- a text that is told is read so
abbrev IsToldAs : Limits → List ℕ → Scope → List Term → Option (List ℕ) → TextReading → Type 0
IsToldAs limits base scope held told reading =
    IfSome told (λ text. IsReadAs limits base scope held text reading)

module _ (limits : Limits) (base : List ℕ) (scope : Scope) (held : List Term) where
  -- it is read as the bytes are that were read of it
  told_bytes : (told rest : Option (List ℕ)) (bytes : List ℕ) (reading : TextReading)
      → ReadsWhole told rest limits.text bytes → IsReadAs limits base scope held bytes reading
      → IsToldAs limits base scope held told reading
  told_bytes None rest bytes reading whole is = tt
  told_bytes (Some text) rest bytes reading whole is =
      subst (λ (bs : List ℕ). IsReadAs limits base scope held bs reading) (whole.whole text refl) is

  told_long : (told : Option (List ℕ)) → IsTooLong told limits.text
      → IsToldAs limits base scope held told Long
  told_long None long = tt
  told_long (Some text) long = long.longer text refl

-- the patterns of what was read are those of the text
pub admitted_bytes : (limits : Limits) (base : List ℕ) (told rest : Option (List ℕ)) (bytes : List ℕ)
    (admits : Flags → List ℕ → Type 0) → ReadsWhole told rest limits.text bytes
    → PatternsAreAdmitted limits base told admits → PatternsAreAdmitted limits base (Some bytes) admits
admitted_bytes limits base None rest bytes admits whole all =
    λ document end is. record { each = λ d value states. all _ _ }
admitted_bytes limits base (Some text) rest bytes admits whole all =
    subst (λ (bs : List ℕ). PatternsAreAdmitted limits base (Some bs) admits)
    (sym (whole.whole text refl)) all

-- ---- what the shapes text comes to

module _ (limits : Limits) (base : List ℕ) (reading : TextReading) (readings : Readings) where
  -- what holds of one reading of the text holds of any
  read_alike : (P : TextReading → Type 0) → P reading → (shapes : Option (List ℕ))
      → IsToldAs limits base Shapes vocabulary shapes reading
      → ShapesAreRead limits base readings.shapes shapes → IfSome shapes (λ bytes. P readings.shapes)
  read_alike P holds None told right = tt
  read_alike P holds (Some text) told right =
      subst P (read_once limits base Shapes vocabulary text reading readings.shapes told right) holds

  -- and so the texts come to what that reading does
  opening_once : (verdict : Verdict) (format : Format) (P : Opening → Type 0)
      (shapes data_text : Option (List ℕ)) → IsToldAs limits base Shapes vocabulary shapes reading
      → ShapesAreRead limits base readings.shapes shapes
      → (readings.shapes ≡ reading → IfSome (with_shapes format readings verdict reading data_text) P)
      → IfSome (texts_opening format readings verdict shapes data_text) P
  opening_once verdict format P None data_text told right holds = tt
  opening_once verdict format P (Some text) data_text told right holds =
      let same : readings.shapes ≡ reading =
      read_once limits base Shapes vocabulary text readings.shapes reading right told in
      rw same (holds same)

judged_told : (limits : Limits) (reading : TextReading) (verdict : Verdict) → ComeTo limits reading verdict
    → (shapes : Option (List ℕ)) → AreJudged limits reading shapes verdict
judged_told limits reading verdict come None = tt
judged_told limits reading verdict come (Some text) = come

-- the data text is read so, behind the shapes of this document
opening_data : (limits : Limits) (base : List ℕ) (readings : Readings) (format : Format)
    (P : Opening → Type 0) (document : Graph) (end : State) (plan : Planned) (data_text : Option (List ℕ))
    (other : TextReading)
    → readings.shapes ≡ States document end → DataIsRead limits base readings (plans plan) data_text
    → IsToldAs limits base Data document.terms data_text other
    → P (with_data format (passed_over (stated_graph document)) plan other)
    → IfSome (with_verdict format readings (stated_graph document) (plans plan) data_text) P
opening_data limits base readings format P document end plan None other same right told holds = tt
opening_data limits base readings format P document end plan (Some text) other same right told holds =
    let once : readings.data_text ≡ other =
    read_once limits base Data document.terms text readings.data_text other
    (right document end plan same refl) told in
    rw once holds

-- ---- what stands in the way

-- the shapes of a reading are refused so
record Refuses (limits : Limits) (reading : TextReading) (before after : PatternState) (terms : List Term)
    (answer : Answer) : Type 0 where
  obstacle : Obstacle
  come : ComeTo limits reading (stops obstacle)
  patterns : RoseWhere (refuses_pattern (stops obstacle)) before.faults after.faults
  last : IsRefusedIn limits reading (stops obstacle) after.refused
  told : (format : Format) (readings : Readings) (data_text : Option (List ℕ))
      → IfSome (with_shapes format readings (stops obstacle) reading data_text)
      (λ opening. opening ≡ ends (refused format terms answer))

refuses : (limits : Limits) (reading : TextReading) (before after : PatternState) (terms : List Term)
    (answer : Answer) → IsShapesRefusal limits reading before after terms answer
    → Refuses limits reading before after terms answer
refuses limits (States document end) before after terms answer is = record {
  obstacle = is.1.obstacle;
  come = is.1.judged;
  patterns = is.1.patterns;
  last = is.1.refused;
  told = λ format readings data_text. rw (is.0, is.1.told) refl;
}
refuses limits (Faulty code at) before after terms answer is = record {
  obstacle = recurs 0;
  come = refl;
  patterns = is.1;
  last = tt;
  told = λ format readings data_text. rw is.0 refl;
}
refuses limits Long before after terms answer is = record {
  obstacle = recurs 0;
  come = refl;
  patterns = is.1;
  last = tt;
  told = λ format readings data_text. rw is.0 refl;
}

-- what is told of shapes that are refused tells whether a pattern was
told_obstacle : (obstacle : Obstacle) (before after : ℕ)
    → RoseWhere (refuses_pattern (stops obstacle)) before after → (answer : Answer)
    → answer ≡ obstacle_answer obstacle
    → (after ≡ before) ⊎ ((shape : ℕ) × (answer ≡ OfShape PATTERN_REFUSED shape))
told_obstacle (breaks fault) before after same answer told = inl same
told_obstacle (recurs shape) before after same answer told = inl same
told_obstacle (reaches_far shape) before after same answer told = inl same
told_obstacle (misspells shape) before after same answer told = inl same
told_obstacle (is_refused shape) before after rose answer told = inr (shape, told)

told_refusal : (limits : Limits) (reading : TextReading) (before after : PatternState) (terms : List Term)
    (answer : Answer) → IsShapesRefusal limits reading before after terms answer
    → (after.faults ≡ before.faults) ⊎ ((shape : ℕ) × (answer ≡ OfShape PATTERN_REFUSED shape))
told_refusal limits (States document end) before after terms answer is =
    told_obstacle is.1.obstacle before.faults after.faults is.1.patterns answer is.1.told
told_refusal limits (Faulty code at) before after terms answer is = inl is.1
told_refusal limits Long before after terms answer is = inl is.1

pub HostStays-unplanned : (limits : Limits) (base text : List ℕ) (before after : PatternState)
    (why : Unopened) → RefusesShapes limits base text before after why
    → HostStays before.faults after.faults (Err why)
HostStays-unplanned limits base text before after (unopened.Told answer pool) (reading, read, is) =
    told_refusal limits reading before after pool.terms answer is
HostStays-unplanned limits base text before after (unopened.Cut stop) is = tt

-- where its count stays, what is told is no matter
pub HostStays-same : (before after : ℕ) → after ≡ before → (prepared : Result Validation Unopened)
    → HostStays before after prepared
HostStays-same before after same (Ok validation) = same
HostStays-same before after same (Err (unopened.Told answer pool)) = inl same
HostStays-same before after same (Err (unopened.Cut stop)) = tt

data_ends : (format : Format) (notices : ℕ) (plan : Planned) (other : TextReading) (terms : List Term)
    (answer : Answer) → IsRefusalOf of_data other answer
    → with_data format notices plan other ≡ ends (refused format terms answer)
data_ends format notices plan (States document end) terms answer is = absurd is
data_ends format notices plan (Faulty code at) terms answer is = rw is refl
data_ends format notices plan Long terms answer is = rw is refl

-- what is refused states no document
data_refuses : (other : TextReading) (answer : Answer) → IsRefusalOf of_data other answer
    → (document : Graph) (end : State) → other ≡ States document end → ⊥
data_refuses (States document' end') answer refusal document end is = refusal
data_refuses (Faulty code at) answer refusal document end is = absurd (cc)
data_refuses Long answer refusal document end is = absurd (cc)

-- no line is read so far
abbrev no_lines : LineReadings
no_lines line = Err no_memory

-- a text states one document
same_end : (other : TextReading) (document document' : Graph) (end end' : State)
    → other ≡ States document end → other ≡ States document' end' → end ≡ end'
same_end other document document' end end' is is' = cc

-- without a plan the data text is not read
unread : (limits : Limits) (base : List ℕ) (readings : Readings) (obstacle : Obstacle)
    (data_text : Option (List ℕ)) → DataIsRead limits base readings (stops obstacle) data_text
unread limits base readings obstacle None = tt
unread limits base readings obstacle (Some text) = λ document end plan same is. absurd (cc)

data_told : (limits : Limits) (base : List ℕ) (document : Graph) (end : State) (other : TextReading)
    (verdict : Verdict) (data_text : Option (List ℕ))
    → IsToldAs limits base Data document.terms data_text other
    → DataIsRead limits base (record { shapes = States document end; data_text = other; lines = no_lines })
    verdict data_text
data_told limits base document end other verdict None told = tt
data_told limits base document end other verdict (Some text) told = λ document' end' plan same is.
    let one : document ≡ document' = cc in
    subst (λ (g : Graph). IsReadAs limits base Data g.terms text other) one told

-- ---- what was prepared

module _ (limits : Limits) (format : Format) (base : List ℕ) (shapes data_text : Option (List ℕ))
    (before after : PatternState) (DataIsOpened : Type 0) where
  -- so it is prepared
  abbrev Is : Result Validation Unopened → Type 0
  Is = IsPrepared limits format base shapes data_text before after DataIsOpened

  prepared_cut : (stop : Stop)
      → Is (Err (unopened.Cut stop))
  prepared_cut stop = record {
    due = λ uncut. absurd (uncut tt);
    read = λ uncut. absurd (uncut tt);
  }

  -- the shapes text is refused
  shapes_refused : (reading : TextReading) (answer : Answer) (pool : Pooled)
      → IsToldAs limits base Shapes vocabulary shapes reading
      → IsShapesRefusal limits reading before after pool.terms answer → (DataIsOpened → ⊥)
      → Is (Err (unopened.Told answer pool))
  shapes_refused reading answer pool told is closed =
      let found = refuses limits reading before after pool.terms answer is in
      let verdict = stops found.obstacle in
      let readings : Readings = record { shapes = reading; data_text = Long; lines = no_lines } in
      record {
        due = λ uncut readings right. record {
          verdict = verdict;
          judged = read_alike limits base reading readings (λ r. ComeTo limits r verdict) found.come shapes
              told right;
          patterns = found.patterns;
          refused = read_alike limits base reading readings
              (λ r. IsRefusedIn limits r verdict after.refused) found.last shapes told right;
          says = record {
            due = λ data_right. opening_once limits base reading readings verdict format
                (λ opening. opening ≡ ends (refused format pool.terms answer)) shapes data_text told right
                (λ same. found.told format readings data_text);
            planned = λ opened. absurd (closed opened);
            built = tt;
          };
        };
        read = λ uncut. record {
          readings = readings;
          shapes_read = told;
          verdict = verdict;
          judged = judged_told limits reading verdict found.come shapes;
          data_read = unread limits base readings found.obstacle data_text;
          names_read = λ document end plan is. absurd (cc);
        };
      }

  -- ... since it is too long
  pub prepared_long : after.faults ≡ before.faults → (DataIsOpened → ⊥) → (pool : Pooled) (refusal : Refusal)
      → ((answer : Answer) → refusal ≡ Text answer
      → (answer ≡ TooLong of_shapes) × IsTooLong shapes limits.text)
      → Is (Err (beside pool refusal))
  prepared_long quiet closed pool (Text answer) long =
      let (is, longer) = long answer refl in
      shapes_refused Long answer pool (told_long limits base Shapes vocabulary shapes longer) (is, quiet)
      closed
  prepared_long quiet closed pool (Cut stop) long = prepared_cut stop

  module _ (rest : Option (List ℕ)) (bytes : List ℕ) (whole : ReadsWhole shapes rest limits.text bytes) where
    -- ... or makes no plan
    pub prepared_unplanned : (why : Unopened) → RefusesShapes limits base bytes before after why
        → (DataIsOpened → ⊥) → Is (Err why)
    prepared_unplanned (unopened.Told answer pool) (reading, is, refusal) closed =
        shapes_refused reading answer pool
        (told_bytes limits base Shapes vocabulary shapes rest bytes reading whole is) refusal closed
    prepared_unplanned (unopened.Cut stop) refusal closed = prepared_cut stop

    -- its shapes are accepted, so the data text decides
    module _ (accepted : Accepted) (accepts : Accepts limits base bytes before after accepted) where
      abbrev plan : Planned
      plan = plan_of accepted.plan

      abbrev reading : TextReading
      reading = States accepts.document accepts.end

      abbrev held : List Term
      held = accepts.document.terms

      shapes_told : IsToldAs limits base Shapes vocabulary shapes reading
      shapes_told = told_bytes limits base Shapes vocabulary shapes rest bytes reading whole accepts.read

      both_read : (other : TextReading) (prepared : Result Validation Unopened)
          → IsToldAs limits base Data held data_text other → HasNamesRead other (plans plan) prepared
          → AreRead limits base shapes data_text prepared
      both_read other prepared told names = record {
        readings = record { shapes = reading; data_text = other; lines = no_lines };
        shapes_read = shapes_told;
        verdict = plans plan;
        judged = judged_told limits reading (plans plan) accepts.plan.judged shapes;
        data_read = data_told limits base accepts.document accepts.end other (plans plan) data_text told;
        names_read = names;
      }

      both_decide : (other : TextReading) → IsToldAs limits base Data held data_text other
          → (P : Opening → Type 0)
          → P (with_data format (passed_over (stated_graph accepts.document)) plan other)
          → (readings : Readings) → ShapesAreRead limits base readings.shapes shapes
          → DataIsRead limits base readings (plans plan) data_text
          → IfSome (texts_opening format readings (plans plan) shapes data_text) P
      both_decide other told P holds readings right data_right =
          opening_once limits base reading readings (plans plan) format P shapes data_text shapes_told right
          (λ same. opening_data limits base readings format P accepts.document accepts.end plan data_text
          other same data_right told holds)

      built_by : (prepared : Result Validation Unopened)
          → OnOk prepared (refuses_pattern (plans plan) ≡ false)
      built_by (Ok validation) = refl
      built_by (Err why) = tt

      -- the verdict is that the shapes have this plan
      planned_by : (prepared : Result Validation Unopened) (readings : Readings)
          → ShapesAreRead limits base readings.shapes shapes
          → (DataIsRead limits base readings (plans plan) data_text
          → Prepares limits format readings (plans plan) shapes data_text prepared)
          → JudgedBy limits readings.shapes shapes before after
          (PreparesBy limits format base readings shapes data_text DataIsOpened prepared)
      planned_by prepared readings right due = record {
        verdict = plans plan;
        judged = read_alike limits base reading readings (λ r. ComeTo limits r (plans plan))
            accepts.plan.judged shapes shapes_told right;
        patterns = accepts.plan.patterns;
        refused = read_alike limits base reading readings
            (λ r. IsRefusedIn limits r (plans plan) after.refused) tt shapes shapes_told right;
        says = record {
          due = due;
          planned = λ _. read_alike limits base reading readings (λ r. HavePlan r (plans plan)) tt shapes
              shapes_told right;
          built = built_by prepared;
        };
      }

      data_refused : (other : TextReading) (answer : Answer) (pool : Pooled)
          → IsToldAs limits base Data held data_text other → IsRefusalOf of_data other answer
          → Is
          (Err (unopened.Told answer pool))
      data_refused other answer pool told is = record {
        due = λ uncut readings right. planned_by (Err (unopened.Told answer pool)) readings right
            (both_decide other told (λ opening. opening ≡ ends (refused format pool.terms answer))
            (data_ends format (passed_over (stated_graph accepts.document)) plan other pool.terms answer is)
            readings right);
        read = λ uncut. both_read other (Err (unopened.Told answer pool)) told
            (λ document end plan same. data_refuses other answer is document end);
      }

      pub prepared_data_long : (pool : Pooled) (refusal : Refusal)
          → ((answer : Answer) → refusal ≡ Text answer
          → (answer ≡ TooLong of_data) × IsTooLong data_text limits.text)
          → Is (Err (beside pool refusal))
      prepared_data_long pool (Text answer) long =
          let (is, longer) = long answer refl in
          data_refused Long answer pool (told_long limits base Data held data_text longer) is
      prepared_data_long pool (Cut stop) long = prepared_cut stop

      data_bytes : (rest' : Option (List ℕ)) (bytes' : List ℕ) (other : TextReading)
          → ReadsWhole data_text rest' limits.text bytes'
          → IsReadAs limits base Data accepted.pool.terms bytes' other
          → IsToldAs limits base Data held data_text other
      data_bytes rest' bytes' other whole' is =
          told_bytes limits base Data held data_text rest' bytes' other whole'
          (subst (λ (terms : List Term). IsReadAs limits base Data terms bytes' other) (sym accepts.terms) is)

      pub prepared_opened : (rest' : Option (List ℕ)) (bytes' : List ℕ)
          (prepared : Result Validation Unopened) → ReadsWhole data_text rest' limits.text bytes'
          → IfOk prepared (Opens limits format base accepted.pool.terms plan bytes')
          → IfOk prepared (λ validation. validation.passed_over ≡ accepted.passed_over)
          → IfErr prepared (RefusesData limits base accepted.pool.terms bytes')
          → Is prepared
      prepared_opened rest' bytes' (Ok validation) whole' (other, is, found) passed refusal =
          let told = data_bytes rest' bytes' other whole' is in
          let notices : passed_over (stated_graph accepts.document) ≡ validation.passed_over =
          sym (passed ∙ accepts.passed) in
          record {
            due = λ uncut readings right. planned_by (Ok validation) readings right (λ data_right. record {
              state = _;
              stored = found.stored;
              due = both_decide other told (λ opening. opening ≡ opens validation.passed_over _)
                  (λ i. with_data format (notices i) plan (found.is i)) readings right data_right;
            });
            read = λ uncut. both_read other (Ok validation) told (λ document end same.
                let one : found.end ≡ end =
                same_end other found.document document found.end end found.is same in
                subst (λ (end : State). HasNamesOf end validation.document) one found.stored.names_are);
          }
      prepared_opened rest' bytes' (Err (unopened.Told answer pool)) whole' found passed
          (other, is, refusal) =
          data_refused other answer pool (data_bytes rest' bytes' other whole' is) refusal
      prepared_opened rest' bytes' (Err (unopened.Cut stop)) whole' found passed refusal = prepared_cut stop
