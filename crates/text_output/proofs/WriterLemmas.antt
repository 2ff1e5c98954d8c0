-- What single puts add to what was put, and what a writer leaves that is finished.
use Rattle.std.proofs.Common.{◌≡◌, ◌≢◌, ℕ, ◌-◌, ◌≤◌, List, [], ◌++◌, length, take, drop}
use Rattle.std.proofs.Common.{refl, sym, ap, ◌∙◌, subst, append-nil, take-append-drop}
use Rattle.std.specs.Borrow.{GName}
use Rattle.std.specs.Prelude.{false, Result, Ok, Err, is_err}
use Rattle.std.specs.Result.{IsErr}
use Rattle.std.proofs.lemmas.List.{take_rest, length-take-le}
use Rattle.shx_outside.specs.Counted.{Rose}
use Rattle.shx_outside.specs.Outside.{SinkState}
use Rattle.shx_outside.specs.Told.{Grew, Fell, IsUsedUp}
use Rattle.shx_outside.proofs.ToldLemmas.{Grew-none}
use Rattle.text_output.specs.inner.Added.{WriterState, Added, Finishes, fresh}
use Rattle.text_output.specs.inner.AddedLaws.{SentUnless-then}
use Rattle.text_output.specs.Writes.{Put, Sent, FellShort, Writes, SentUnless}

-- a front of what is due is put
pub Put-front : (s0 s1 : SinkState) (due : List ℕ) (n : ℕ) → n ≤ length due
    → Grew s0.held s1.held (take n due) → Fell s0.room s1.room n → s1.faults ≡ s0.faults
    → Sent s0 s1 due (take (length due - n) (drop n due))
Put-front s0 s1 due n within grew fell quiet = record {
  front = take n due;
  whole = rw take_rest (sym (take-append-drop n due));
  put = record {
    grew = grew;
    fell = subst (Fell s0.room s1.room) (sym (length-take-le n due within)) fell;
    quiet = quiet;
  };
}

-- nothing of what is due is put
pub FellShort-at_once : (s0 s1 : SinkState) (due : List ℕ) → due ≢ [] → s1.held ≡ s0.held
    → IsUsedUp s0.room s1.room → Rose s0.faults s1.faults → FellShort s0 s1 due
FellShort-at_once s0 s1 due proper held used_up rose = record {
  front = [];
  rest = due;
  whole = refl;
  proper = proper;
  grew = rw held (Grew-none s0.held);
  fell = record { told = λ room is. let u = used_up.told room is in (0, u.1, u.0) };
  used_up = λ room is. (used_up.told room is).1;
  rose = rose;
}

-- nothing is left
pub Put-all : {s0 s1 : SinkState} {due rest : List ℕ} → rest ≡ [] → Sent s0 s1 due rest → Put s0 s1 due
Put-all {s0 = s0} {s1 = s1} {due = due} {rest = rest} none sent =
    let front = sent.front in
    let all : front ≡ due = sym (append-nil front) ∙ ap (λ xs. front ++ xs) (sym none) ∙ sym sent.whole in
    subst (Put s0 s1) all sent.put

pub Writes-short : {T E : Type 0} {s0 s1 : SinkState} {text : List ℕ} {result : Result T E} → IsErr result
    → FellShort s0 s1 text → Writes s0 s1 text result
Writes-short {result = Ok x} is short = cc
Writes-short {result = Err e} is short = record { ok = tt; err = short }

Writes-sent : {T E : Type 0} (s0 s1 : SinkState) (text : List ℕ) (result : Result T E)
    → SentUnless false (is_err result) s0 s1 text [] → Writes s0 s1 text result
Writes-sent s0 s1 text (Ok x) sent = record { ok = Put-all refl sent; err = tt }
Writes-sent s0 s1 text (Err e) short = record { ok = tt; err = short }

-- all that was added to a new writer was put, or the sink failed, through the reference that it was given
pub Writes-finished : {T E : Type 0} {w0 w1 : WriterState} {after : SinkState} {text : List ℕ}
    (before : SinkState) (through : GName) (result : Result T E)
    → w0 ≡ fresh before through → Added w0 w1 text → Finishes w1 after result
    → (w1.through ≡ through) × Writes before after text result
Writes-finished {w1 = w1} {after = after} {text = text} before through result new added finished =
    let same = added.same ∙ ap (λ (w : WriterState). w.through) new in
    let first : SentUnless false w1.failed before w1.sink text w1.pending
    = subst (λ w. SentUnless w.failed w1.failed w.sink w1.sink (w.pending ++ text) w1.pending) new
    added.sent in
    let rest : SentUnless w1.failed (is_err result) w1.sink after (w1.pending ++ []) []
    = rw append-nil finished in
    let whole : SentUnless false (is_err result) before after (text ++ []) []
    = SentUnless-then false w1.failed _ before w1.sink _ text w1.pending _ _ first rest in
    (same, Writes-sent before after text result (rw append-nil at whole))
