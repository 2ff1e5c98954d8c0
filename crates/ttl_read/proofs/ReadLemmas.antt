-- Laws of what a reader finds of a form, whatever may follow it.
use Rattle.std.proofs.Common.{◌≡◌, ℕ, Bool, true, List, sym, true≢false}
use Rattle.std.proofs.lemmas.Bool.{and_right}
use Rattle.shx_term.specs.Pool.{Pooled}
use Rattle.ttl_tokens.specs.declared.token.Token.{Token}
use Rattle.ttl_tokens.specs.Form.{Then, Or, Maybe, Many, Item}
use Rattle.ttl_tokens.specs.Walks.{Same}
use Rattle.ttl_tokens.proofs.FormLemmas.{same_trans, same_never, then_same, then_assoc}
use Rattle.ttl_meaning.specs.inner.IsReading.{IsReading}
use Rattle.ttl_meaning.specs.IsStated.{Bounds}
use Rattle.ttl_meaning.specs.State.{State}
use Rattle.ttl_read.specs.declared.reader.Reader.{Reader}
use Rattle.ttl_read.specs.inner.Follows.{Avoids, takes_no_token}
use Rattle.ttl_read.specs.Grammar.{Place, Rule, StepsTo, Do}
use Rattle.ttl_read.specs.inner.Reads.{Passes, Reads, Refuses, place}
use Rattle.ttl_read.specs.inner.Stops.{stops_nowhere}
use Rattle.ttl_read.proofs.PassLemmas.{passes_reads}
use Rattle.ttl_read.proofs.StepLemmas.{do_only}
use Rattle.ttl_read.proofs.FollowLemmas.{then_leads, then_fails, behind_fails, left_leads, right_leads}
use Rattle.ttl_read.proofs.FollowLemmas.{or_fails}
use Rattle.ttl_read.proofs.FollowLemmas.{NoneFollows, maybe_there, maybe_absent, maybe_fails, many_more}
use Rattle.ttl_read.proofs.FollowLemmas.{many_end}
use Rattle.ttl_read.proofs.FollowLemmas.{many_fails}

-- ---- sequences: what follows f is g with whatever follows it

pub then_reads : {text : List ℕ} {f g : Rule} {stop next : Token → Bool} {r m r' : Reader} {p q p' : Pooled}
    → ((h : Rule) → Avoids stop h → Avoids next (Then g h)) → Reads text f next r p m q
    → Reads text g stop m q r' p' → Reads text (Then f g) stop r p r' p'
then_reads avoids a b = record {
  on = λ bounds s reads.
      let first = a.on bounds s reads in
      let rest = b.on bounds first.0 first.1 in
      (rest.0, rest.1, then_leads avoids first.2 rest.2);
}

pub then_refuses : {text : List ℕ} {f g : Rule} {stop next : Token → Bool} {r : Reader} {p : Pooled}
    → ((h : Rule) → Avoids stop h → Avoids next (Then g h)) → Refuses text f next r p
    → Refuses text (Then f g) stop r p
then_refuses avoids n = record { none = λ bounds s reads. then_fails avoids (n.none bounds s reads) }

pub behind_refuses : {text : List ℕ} {f g : Rule} {stop next : Token → Bool} {r m : Reader} {p q : Pooled}
    → ((h : Rule) → Avoids stop h → Avoids next (Then g h)) → Reads text f next r p m q
    → Refuses text g stop m q → Refuses text (Then f g) stop r p
behind_refuses avoids a n = record {
  none = λ bounds s reads.
      let first = a.on bounds s reads in
      behind_fails avoids first.2 (n.none bounds first.0 first.1);
}

-- ---- what nothing goes on with, and then whatever may follow

-- any form may stand behind
pub nothing_goes_on : {stop : Token → Bool} (g h : Rule) → Avoids stop h → Avoids stops_nowhere (Then g h)
nothing_goes_on g h free = record {
  some = and_right (takes_no_token g) _ free.some;
  other = λ t e. absurd (true≢false (sym e));
}

pub passes_then_reads : {text : List ℕ} {f g : Rule} {stop : Token → Bool} {r m r' : Reader} {p q p' : Pooled}
    → Passes text f r p m q → Reads text g stop m q r' p' → Reads text (Then f g) stop r p r' p'
passes_then_reads {g = g} a b = then_reads (nothing_goes_on g) (passes_reads a) b

pub passes_then_refuses : {text : List ℕ} {f g : Rule} {stop : Token → Bool} {r m : Reader} {p q : Pooled}
    → Passes text f r p m q → Refuses text g stop m q → Refuses text (Then f g) stop r p
passes_then_refuses {g = g} a n = behind_refuses (nothing_goes_on g) (passes_reads a) n

-- ---- a sequence of three, however it is grouped

then_regroup : {text : List ℕ} {a b c g : Rule} {x : Place}
    → Same (StepsTo text) (Then (Then a (Then b c)) g) x (Then (Then (Then a b) c) g) x
then_regroup = record {
  to = λ z t. (t.0, (t.1.2.0, (t.1.0, t.1.1, t.1.2.1), t.1.2.2), t.2);
  back = λ z t. (t.0, (t.1.1.0, t.1.1.1, (t.1.0, t.1.1.2, t.1.2)), t.2);
}

pub regroup_reads : {text : List ℕ} {a b c : Rule} {stop : Token → Bool} {r r' : Reader} {p p' : Pooled}
    → Reads text (Then (Then a b) c) stop r p r' p' → Reads text (Then a (Then b c)) stop r p r' p'
regroup_reads f = record {
  on = λ bounds s reads.
      let first = f.on bounds s reads in
      (first.0, first.1, record { on = λ h free. same_trans then_regroup (first.2.on h free) });
}

pub regroup_refuses : {text : List ℕ} {a b c : Rule} {stop : Token → Bool} {r : Reader} {p : Pooled}
    → Refuses text (Then (Then a b) c) stop r p → Refuses text (Then a (Then b c)) stop r p
regroup_refuses n = record {
  none = λ bounds s reads. record {
    none = λ h free. same_never then_regroup ((n.none bounds s reads).none h free);
  };
}

-- ---- fewer followers

pub avoids_fewer : {stop more : Token → Bool} {h : Rule} → ((t : Token) → stop t ≡ true → more t ≡ true)
    → Avoids more h → Avoids stop h
avoids_fewer within free = record { some = free.some; other = λ t e. free.other t (within t e) }

-- where more tokens would go on, fewer forms may follow
pub reads_before : {text : List ℕ} {f : Rule} {stop more : Token → Bool} {r r' : Reader} {p p' : Pooled}
    → ((t : Token) → stop t ≡ true → more t ≡ true) → Reads text f stop r p r' p'
    → Reads text f more r p r' p'
reads_before within a = record {
  on = λ bounds s reads.
      let first = a.on bounds s reads in
      (first.0, first.1, record { on = λ h free. first.2.on h (avoids_fewer within free) });
}

pub refuses_before : {text : List ℕ} {f : Rule} {stop more : Token → Bool} {r : Reader} {p : Pooled}
    → ((t : Token) → stop t ≡ true → more t ≡ true) → Refuses text f stop r p → Refuses text f more r p
refuses_before within n = record {
  none = λ bounds s reads. record {
    none = λ h free. (n.none bounds s reads).none h (avoids_fewer within free);
  };
}

-- ---- choices

pub left_reads : {text : List ℕ} {f g : Rule} {stop : Token → Bool} {r r' : Reader} {p p' : Pooled}
    → Reads text f stop r p r' p' → Refuses text g stop r p → Reads text (Or f g) stop r p r' p'
left_reads a n = record {
  on = λ bounds s reads.
      let first = a.on bounds s reads in
      (first.0, first.1, left_leads first.2 (n.none bounds s reads));
}

pub right_reads : {text : List ℕ} {f g : Rule} {stop : Token → Bool} {r r' : Reader} {p p' : Pooled}
    → Refuses text f stop r p → Reads text g stop r p r' p' → Reads text (Or f g) stop r p r' p'
right_reads n a = record {
  on = λ bounds s reads.
      let first = a.on bounds s reads in
      (first.0, first.1, right_leads (n.none bounds s reads) first.2);
}

pub or_refuses : {text : List ℕ} {f g : Rule} {stop : Token → Bool} {r : Reader} {p : Pooled}
    → Refuses text f stop r p → Refuses text g stop r p → Refuses text (Or f g) stop r p
or_refuses n m = record { none = λ bounds s reads. or_fails (n.none bounds s reads) (m.none bounds s reads) }

-- ---- nothing that may follow is here

pub record NoFollower (text : List ℕ) (stop : Token → Bool) (r : Reader) : Type 0 where
  pub none : (s : State) → NoneFollows text stop (place r s)

-- what is done between tokens leads nowhere, where no follower is here
pub do_refuses : {text : List ℕ} {act : State → State} {stop : Token → Bool} {r : Reader} {p : Pooled}
    → NoFollower text stop r → Refuses text (Item (Do act)) stop r p
do_refuses {text = text} {act = act} {r = r} n = record {
  none = λ bounds s reads. record {
    none = λ h avoids. same_never (then_same (do_only text act (place r s))) (n.none (act s) h avoids);
  };
}

-- ---- what may be absent

pub maybe_reads : {text : List ℕ} {f : Rule} {stop : Token → Bool} {r r' : Reader} {p p' : Pooled}
    → NoFollower text stop r → Reads text f stop r p r' p' → Reads text (Maybe f) stop r p r' p'
maybe_reads n a = record {
  on = λ bounds s reads.
      let first = a.on bounds s reads in
      (first.0, first.1, maybe_there (n.none s) first.2);
}

pub maybe_reads_none : {text : List ℕ} {f : Rule} {stop : Token → Bool} {r : Reader} {p : Pooled}
    → Refuses text f stop r p → Reads text (Maybe f) stop r p r p
maybe_reads_none n = record { on = λ bounds s reads. (s, reads, maybe_absent (n.none bounds s reads)) }

pub maybe_refuses : {text : List ℕ} {f : Rule} {stop : Token → Bool} {r : Reader} {p : Pooled}
    → NoFollower text stop r → Refuses text f stop r p → Refuses text (Maybe f) stop r p
maybe_refuses n a = record { none = λ bounds s reads. maybe_fails (n.none s) (a.none bounds s reads) }

-- ---- what comes many times: so far f has led to where more of them may come

pub record Goes (text : List ℕ) (f unit : Rule) (stop : Token → Bool) (r : Reader) (p : Pooled) (r' : Reader)
    (p' : Pooled) : Type 0 where
  pub on : (bounds : Bounds) (s : State) → IsReading bounds s r.reading p
      → (s' : State) × IsReading bounds s' r'.reading p'
      × ((h : Rule) → Avoids stop h
      → Same (StepsTo text) (Then f h) (place r s) (Then (Many unit) h) (place r' s'))

pub goes_first : {text : List ℕ} {f unit : Rule} {stop next : Token → Bool} {r r' : Reader} {p p' : Pooled}
    → ((h : Rule) → Avoids stop h → Avoids next (Then (Many unit) h)) → Reads text f next r p r' p'
    → Goes text (Then f (Many unit)) unit stop r p r' p'
goes_first {unit = unit} avoids a = record {
  on = λ bounds s reads.
      let first = a.on bounds s reads in
      (first.0, first.1, λ h free. same_trans then_assoc (first.2.on (Then (Many unit) h) (avoids h free)));
}

pub goes_on_with : {text : List ℕ} {f unit : Rule} {stop next : Token
    → Bool} {r m r' : Reader} {p q p' : Pooled}
    → ((h : Rule) → Avoids stop h → Avoids next (Then (Many unit) h)) → NoFollower text stop m
    → Goes text f unit stop r p m q → Reads text unit next m q r' p' → Goes text f unit stop r p r' p'
goes_on_with avoids none a b = record {
  on = λ bounds s reads.
      let first = a.on bounds s reads in
      let rest = b.on bounds first.0 first.1 in (
        rest.0,
        rest.1,
        λ h free.
            same_trans (first.2 h free) (many_more (none.none first.0 h free) (avoids h free) rest.2),
      );
}

pub goes_to_end : {text : List ℕ} {f unit : Rule} {stop next : Token → Bool} {r r' : Reader} {p p' : Pooled}
    → ((h : Rule) → Avoids stop h → Avoids next (Then (Many unit) h)) → Goes text f unit stop r p r' p'
    → Refuses text unit next r' p' → Reads text f stop r p r' p'
goes_to_end avoids a n = record {
  on = λ bounds s reads.
      let first = a.on bounds s reads in (
        first.0,
        first.1,
        record {
          on = λ h free. same_trans (first.2 h free)
              (many_end (avoids h free) (n.none bounds first.0 first.1));
        },
      );
}

pub goes_wrong : {text : List ℕ} {f unit : Rule} {stop next : Token → Bool} {r m : Reader} {p q : Pooled}
    → ((h : Rule) → Avoids stop h → Avoids next (Then (Many unit) h)) → NoFollower text stop m
    → Goes text f unit stop r p m q → Refuses text unit next m q → Refuses text f stop r p
goes_wrong avoids none a n = record {
  none = λ bounds s reads. record {
    none = λ h free.
        let first = a.on bounds s reads in
        same_never (first.2 h free)
        (many_fails (none.none first.0 h free) (avoids h free) (n.none bounds first.0 first.1));
  };
}
