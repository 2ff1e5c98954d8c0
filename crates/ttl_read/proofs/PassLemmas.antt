-- Laws of what leads past a form that nothing follows, and of what is nowhere.
use Rattle.std.proofs.Common.{◌≡◌, ℕ, Bool, List, sym, ap, subst}
use Rattle.shx_term.specs.Pool.{Pooled}
use Rattle.ttl_tokens.specs.declared.token.Token.{Token}
use Rattle.ttl_tokens.specs.Form.{Item, Then, Or}
use Rattle.ttl_tokens.specs.Walks.{Only}
use Rattle.ttl_tokens.proofs.FormLemmas.{same_only, same_never, then_same, then_never, left_same, right_same}
use Rattle.ttl_tokens.proofs.FormLemmas.{or_never}
use Rattle.ttl_meaning.specs.inner.IsReading.{Does}
use Rattle.ttl_meaning.specs.State.{State}
use Rattle.ttl_read.specs.declared.reader.Reader.{Reader}
use Rattle.ttl_read.specs.declared.reader.Tokens.{Tokens}
use Rattle.ttl_read.specs.inner.Follows.{Avoids}
use Rattle.ttl_read.specs.Grammar.{Rule, StepsTo, Do}
use Rattle.ttl_read.specs.inner.Reads.{Passes, IsNowhere, Reads, Refuses, place}
use Rattle.ttl_read.proofs.StepLemmas.{do_only}
use Rattle.ttl_read.proofs.FollowLemmas.{only_leads, never_fails}

-- something is done between tokens
pub do_passes : (text : List ℕ) (act : State → State) (r : Reader) (p : Pooled) (r' : Reader) (p' : Pooled)
    → Does act r.reading p r'.reading p' → r'.tokens ≡ r.tokens → Passes text (Item (Do act)) r p r' p'
do_passes text act r p r' p' does same = record {
  on = λ bounds s reads. (
    act s,
    does bounds s reads,
    subst (λ (n : ℕ). Only (StepsTo text) (Item (Do act)) (place r s) (record { at = n; state = act s }))
        (sym (ap (λ (t : Tokens). t.place) same)) (do_only text act (place r s)),
  );
}

-- ---- sequences

pub then_passes : {text : List ℕ} {f g : Rule} {r m r' : Reader} {p q p' : Pooled}
    → Passes text f r p m q → Passes text g m q r' p' → Passes text (Then f g) r p r' p'
then_passes a b = record {
  on = λ bounds s reads.
      let first = a.on bounds s reads in
      let rest = b.on bounds first.0 first.1 in
      (rest.0, rest.1, same_only (then_same first.2) rest.2);
}

pub then_nowhere : {text : List ℕ} {f g : Rule} {r : Reader} {p : Pooled} → IsNowhere text f r p
    → IsNowhere text (Then f g) r p
then_nowhere n = record { none = λ bounds s reads. then_never (n.none bounds s reads) }

pub behind_nowhere : {text : List ℕ} {f g : Rule} {r m : Reader} {p q : Pooled} → Passes text f r p m q
    → IsNowhere text g m q → IsNowhere text (Then f g) r p
behind_nowhere a n = record {
  none = λ bounds s reads.
      let first = a.on bounds s reads in
      same_never (then_same first.2) (n.none bounds first.0 first.1);
}

-- ---- choices

pub left_passes : {text : List ℕ} {f g : Rule} {r r' : Reader} {p p' : Pooled} → Passes text f r p r' p'
    → IsNowhere text g r p → Passes text (Or f g) r p r' p'
left_passes a n = record {
  on = λ bounds s reads.
      let first = a.on bounds s reads in
      (first.0, first.1, same_only (left_same (n.none bounds s reads)) first.2);
}

pub right_passes : {text : List ℕ} {f g : Rule} {r r' : Reader} {p p' : Pooled} → IsNowhere text f r p
    → Passes text g r p r' p' → Passes text (Or f g) r p r' p'
right_passes n a = record {
  on = λ bounds s reads.
      let first = a.on bounds s reads in
      (first.0, first.1, same_only (right_same (n.none bounds s reads)) first.2);
}

pub or_nowhere : {text : List ℕ} {f g : Rule} {r : Reader} {p : Pooled} → IsNowhere text f r p
    → IsNowhere text g r p → IsNowhere text (Or f g) r p
or_nowhere n m = record { none = λ bounds s reads. or_never (n.none bounds s reads) (m.none bounds s reads) }

-- ---- whatever may follow

pub passes_reads : {text : List ℕ} {f : Rule} {stop : Token → Bool} {r r' : Reader} {p p' : Pooled}
    → Passes text f r p r' p' → Reads text f stop r p r' p'
passes_reads a = record {
  on = λ bounds s reads. let first = a.on bounds s reads in (first.0, first.1, only_leads first.2);
}

pub nowhere_refuses : {text : List ℕ} {f : Rule} {stop : Token → Bool} {r : Reader} {p : Pooled}
    → IsNowhere text f r p → Refuses text f stop r p
nowhere_refuses n = record { none = λ bounds s reads. never_fails (n.none bounds s reads) }

-- what follows is known
pub reads_then_passes : {text : List ℕ} {f g : Rule} {stop : Token → Bool} {r m r' : Reader} {p q p' : Pooled}
    → Avoids stop g → Reads text f stop r p m q → Passes text g m q r' p' → Passes text (Then f g) r p r' p'
reads_then_passes {g = g} avoids a b = record {
  on = λ bounds s reads.
      let first = a.on bounds s reads in
      let rest = b.on bounds first.0 first.1 in
      (rest.0, rest.1, same_only (first.2.on g avoids) rest.2);
}

pub reads_then_nowhere : {text : List ℕ} {f g : Rule} {stop : Token → Bool} {r m : Reader} {p q : Pooled}
    → Avoids stop g → Reads text f stop r p m q → IsNowhere text g m q → IsNowhere text (Then f g) r p
reads_then_nowhere {g = g} avoids a n = record {
  none = λ bounds s reads.
      let first = a.on bounds s reads in
      same_never (first.2.on g avoids) (n.none bounds first.0 first.1);
}

pub refuses_then : {text : List ℕ} {f g : Rule} {stop : Token → Bool} {r : Reader} {p : Pooled}
    → Avoids stop g → Refuses text f stop r p → IsNowhere text (Then f g) r p
refuses_then {g = g} avoids n = record { none = λ bounds s reads. (n.none bounds s reads).none g avoids }
