-- Texts that are added in turn are one text.
use Rattle.std.specs.Prelude.{◌≢◌, ℕ, Bool, true, false, List, [], ◌∷◌, ◌++◌, refl}
use Rattle.std.proofs.Common.{sym, ◌∙◌, ap, subst, append_assoc, append-nil, length-append}
use Rattle.shx_outside.specs.Counted.{Rose}
use Rattle.shx_outside.specs.Outside.{SinkState}
use Rattle.shx_outside.specs.Told.{Fell}
use Rattle.shx_outside.proofs.ToldLemmas.{Grew-none, Grew-then, Fell-none, Fell-then}
use Rattle.text_output.specs.inner.Added.{WriterState, Added}
use Rattle.text_output.specs.Writes.{Put, Sent, FellShort, SentUnless}

pub Put-none : (s : SinkState) → Put s s []
Put-none s = record { grew = Grew-none s.held; fell = Fell-none s.room; quiet = refl }

pub Put-then : {s0 s1 s2 : SinkState} {xs ys : List ℕ} → Put s0 s1 xs → Put s1 s2 ys → Put s0 s2 (xs ++ ys)
Put-then {s0 = s0} {s2 = s2} {xs = xs} {ys = ys} first next = record {
  grew = Grew-then first.grew next.grew;
  fell = subst (Fell s0.room s2.room) (sym (length-append xs ys)) (Fell-then first.fell next.fell);
  quiet = next.quiet ∙ first.quiet;
}

-- nothing was put of what is due
pub Sent-none : (s : SinkState) (due : List ℕ) → Sent s s due due
Sent-none s due = record { front = []; whole = refl; put = Put-none s }

-- more is due behind it
pub Sent-more : {s0 s1 : SinkState} {due rest : List ℕ} (more : List ℕ) → Sent s0 s1 due rest
    → Sent s0 s1 (due ++ more) (rest ++ more)
Sent-more {rest = rest} more sent = record {
  front = sent.front;
  whole = ap (λ xs. xs ++ more) sent.whole ∙ append_assoc sent.front rest more;
  put = sent.put;
}

-- some was put, and then some of the rest
pub Sent-on : {s0 s1 s2 : SinkState} {due rest rest' : List ℕ} → Sent s0 s1 due rest → Sent s1 s2 rest rest'
    → Sent s0 s2 due rest'
Sent-on {rest' = rest'} first next = record {
  front = first.front ++ next.front;
  whole = first.whole ∙ ap (λ xs. first.front ++ xs) next.whole
      ∙ sym (append_assoc first.front next.front rest');
  put = Put-then first.put next.put;
}

not_empty : (xs ys : List ℕ) → xs ≢ [] → xs ++ ys ≢ []
not_empty [] ys not = absurd (not refl)
not_empty (x ∷ xs) ys not = λ is. cc

-- more was due than what was cut short
pub FellShort-more : {s0 s1 : SinkState} {due : List ℕ} (more : List ℕ) → FellShort s0 s1 due
    → FellShort s0 s1 (due ++ more)
FellShort-more more short = record {
  front = short.front;
  rest = short.rest ++ more;
  whole = ap (λ xs. xs ++ more) short.whole ∙ append_assoc short.front short.rest more;
  proper = not_empty short.rest more short.proper;
  grew = short.grew;
  fell = short.fell;
  used_up = short.used_up;
  rose = short.rose;
}

-- some was put, and the rest was cut short
pub FellShort-on : {s0 s1 s2 : SinkState} {due rest : List ℕ} → Sent s0 s1 due rest → FellShort s1 s2 rest
    → FellShort s0 s2 due
FellShort-on {s0 = s0} {s2 = s2} first next = record {
  front = first.front ++ next.front;
  rest = next.rest;
  whole = first.whole ∙ ap (λ xs. first.front ++ xs) next.whole
      ∙ sym (append_assoc first.front next.front next.rest);
  proper = next.proper;
  grew = Grew-then first.put.grew next.grew;
  fell = subst (Fell s0.room s2.room) (sym (length-append first.front next.front))
      (Fell-then first.put.fell next.fell);
  used_up = λ room is. let left = first.put.fell.told room is in next.used_up left.0 left.1;
  rose = subst (λ faults. Rose faults s2.faults) first.put.quiet next.rose;
}

-- one text and then more, wherever the sink failed
pub SentUnless-then : (f0 f1 f2 : Bool) (s0 s1 s2 : SinkState) (due rest rest' more : List ℕ)
    → SentUnless f0 f1 s0 s1 due rest → SentUnless f1 f2 s1 s2 (rest ++ more) rest'
    → SentUnless f0 f2 s0 s2 (due ++ more) rest'
SentUnless-then true true f2 s0 s1 s2 due rest rest' more first next = (next.0, next.1 ∙ first.1)
SentUnless-then true false f2 s0 s1 s2 due rest rest' more first next = let e = first.0 in absurd cc
SentUnless-then false true true s0 s1 s2 due rest rest' more first next =
    subst (λ s. FellShort s0 s (due ++ more)) (sym next.1) (FellShort-more more first)
SentUnless-then false true false s0 s1 s2 due rest rest' more first next = let e = next.0 in absurd cc
SentUnless-then false false true s0 s1 s2 due rest rest' more first next =
    FellShort-on (Sent-more more first) next
SentUnless-then false false false s0 s1 s2 due rest rest' more first next =
    Sent-on (Sent-more more first) next

pub SentUnless-none : (f : Bool) (s : SinkState) (due : List ℕ) → SentUnless f f s s due due
SentUnless-none true s due = (refl, refl)
SentUnless-none false s due = Sent-none s due

pub Added-none : (w : WriterState) → Added w w []
Added-none w = record {
  same = refl;
  sent = rw append-nil (SentUnless-none w.failed w.sink w.pending);
}

pub Added-then : {a b c : WriterState} {x y : List ℕ} → Added a b x → Added b c y → Added a c (x ++ y)
Added-then {a = a} {b = b} {c = c} {x = x} {y = y} first next = record {
  same = next.same ∙ first.same;
  sent = rw (← append_assoc a.pending x y) (SentUnless-then _ _ _ _ _ _ _ _ _ _ first.sent next.sent);
}
