-- Answers that rest on others: whoever is reached upwards, and whoever stands below.
use Rattle.std.specs.Prelude.{List, [], ◌∷◌, ◌++◌, Option, Contains, ◌↔◌}
use Rattle.std.proofs.Common.{refl, sym, ap, ◌∙◌, subst}
use Rattle.std.specs.Option.{option_map}
use Rattle.shx_term.specs.InOrder.{Lists}
use Rattle.shx_term.specs.declared.triple.Triple.{Triple}
use Rattle.shx_term.proofs.MemberLemmas.{Contains-one}
use Rattle.graph_view.specs.declared.key.Key.{Key}
use Rattle.graph_view.specs.Key.{key_cmp}
use Rattle.comp_core.specs.declared.pair.Pair.{Pair}
use Rattle.comp_core.specs.Pairs.{answer_key}
use Rattle.read_records.proofs.SeenLemmas.{kept_seen, seen_kept}
use Rattle.read_records.proofs.SearchLemmas.{AreReached}
use Rattle.read_records.proofs.StoreLemmas.{noted_is}
use Rattle.read_records.specs.declared.reader.Reader.{Reader}
use Rattle.read_records.specs.declared.reader.Reader.TheVariants.{OfPair}
use Rattle.read_records.specs.Reader.{reader_cmp}
use Rattle.read_records.specs.Recall.{Answer, IsReached, IsTouchedAt, LeadsTo, RecallState, RestsOn, kept_of}
use Rattle.read_records.specs.Recall.{recalled}
use Rattle.read_records.specs.Store.{if_noted, note_at}
use Rattle.read_records.specs.inner.Notes.{HasNoted}
use Rattle.read_records.specs.inner.Reached.{IsReadFrom}
use Rattle.read_records.specs.inner.Remembered.{NotedRows, as_recalled, as_remembered}
use Rattle.read_records.specs.inner.Touched.{IsTouchedKey}

-- ---- what was read from some keys

-- what is kept was read from one of the keys where that is noted
noted_from : (state : NotedRows) (keys : List Key) (p : Pair)
    → ((key : Key) × (Contains keys key × HasNoted state.kept (OfPair p) key))
    ↔ IsReadFrom (as_recalled state) keys p
noted_from state keys p = (
  λ h. record {
    answer = as_remembered h.1.1.noted;
    kept = kept_seen as_remembered state (OfPair p)
        ∙ ap (λ entry. option_map as_remembered (if_noted entry)) h.1.1.stands;
    key = h.0;
    among = h.1.0;
    read = h.1.1.read;
  },
  λ h.
      let noted = seen_kept as_remembered state (OfPair p) h.answer h.kept in (
        h.key,
        (
          h.among,
          record {
            noted = noted.0;
            stands = noted_is (note_at state.kept (OfPair p)) noted.0 noted.1.0;
            read = subst (λ (a : Answer). Contains a.reads h.key) (sym noted.1.1) h.read;
          },
        ),
      ),
)

-- the pairs among the readers of some keys
pub read_from : (state : NotedRows) (keys : List Key) (readers : List Reader)
    → Lists reader_cmp (λ r. (key : Key) × (Contains keys key × HasNoted state.kept r key)) readers
    → (p : Pair) → Contains readers (OfPair p) ↔ IsReadFrom (as_recalled state) keys p
read_from state keys readers lists p =
    let listed = lists.each (OfPair p) in
    let noted = noted_from state keys p in
    (λ c. noted.0 (listed.0 c), λ h. listed.1 (noted.1 h))

module _ (state : RecallState) where
  -- from a key that one of the triples touches
  pub read_touched : (changed : List Triple) (keys : List Key) → Lists key_cmp (IsTouchedKey changed) keys
      → (p : Pair) → IsReadFrom state keys p ↔ IsTouchedAt state changed p
  read_touched changed keys own p = (
    λ h.
        let by = (own.each h.key).0 h.among in
        record {
          answer = h.answer;
          kept = h.kept;
          triple = by.triple;
          changes = by.changes;
          touched = (h.key, (h.read, by.touches));
        },
    λ h. record {
      answer = h.answer;
      kept = h.kept;
      key = h.touched.0;
      among = (own.each h.touched.0).1
          (record { triple = h.triple; changes = h.changes; touches = h.touched.1.1 });
      read = h.touched.1.0;
    },
  )

  -- from the answer of a pair
  pub read_answer : (d p : Pair) → IsReadFrom state (answer_key d ∷ []) p ↔ RestsOn (kept_of state) p d
  read_answer d p = (
    λ h. record {
      answer = h.answer;
      is = h.kept;
      read = subst (Contains h.answer.reads) ((Contains-one (answer_key d) h.key).0 h.among) h.read;
    },
    λ h. record {
      answer = h.answer;
      kept = h.is;
      key = answer_key d;
      among = (Contains-one (answer_key d) (answer_key d)).1 refl;
      read = h.read;
    },
  )

-- ---- upwards

pub are_touched : (state : RecallState) (changed : List Triple)
    → AreReached (IsTouchedAt state changed) (IsReached state changed) (λ d p. RestsOn (kept_of state) p d)
are_touched state changed = record {
  start = λ p h. record { last = p; past = []; leads = refl; touched = h };
  step = λ d p h rests. record {
    last = h.last;
    past = d ∷ h.past;
    leads = (rests, h.leads);
    touched = h.touched;
  };
  least = λ found starts closed p h. up found closed p h.past h.last h.leads (starts h.last h.touched);
}
  where
    up : (found : List Pair)
        → ((d p : Pair) → Contains found d → RestsOn (kept_of state) p d → Contains found p)
        → (p : Pair) (past : List Pair) (last : Pair) → LeadsTo (kept_of state) p past last
        → Contains found last → Contains found p
    up found closed p [] last same c = subst (Contains found) (sym same) c
    up found closed p (d ∷ past) last leads c = closed d p (up found closed d past last leads.1 c) leads.0

-- ---- downwards

-- a pair to which one leads whose answer is among the keys
pub record IsBelow (state : RecallState) (keys : List Key) (p : Pair) : Type 0 where
  pub first : Pair
  pub among : Contains keys (answer_key first)
  pub past : List Pair
  pub leads : LeadsTo (recalled state) first past p

-- one step more
leads_on : (known : Pair → Option Answer) (p : Pair) (past : List Pair) (d q : Pair) → LeadsTo known p past d
    → RestsOn known d q → LeadsTo known p (past ++ q ∷ []) q
leads_on known p [] d q same rests = (subst (λ r. RestsOn known r q) (sym same) rests, refl)
leads_on known p (r ∷ past) d q leads rests = (leads.0, leads_on known r past d q leads.1 rests)

pub are_below : (state : RecallState) (keys : List Key)
    → AreReached (λ p. Contains keys (answer_key p)) (IsBelow state keys) (RestsOn (recalled state))
are_below state keys = record {
  start = λ p c. record { first = p; among = c; past = []; leads = refl };
  step = λ p q h rests. record {
    first = h.first;
    among = h.among;
    past = h.past ++ q ∷ [];
    leads = leads_on (recalled state) h.first h.past p q h.leads rests;
  };
  least = λ found starts closed p h. down found closed h.first h.past p h.leads (starts h.first h.among);
}
  where
    down : (found : List Pair)
        → ((p q : Pair) → Contains found p → RestsOn (recalled state) p q → Contains found q)
        → (p : Pair) (past : List Pair) (last : Pair) → LeadsTo (recalled state) p past last
        → Contains found p → Contains found last
    down found closed p [] last same c = subst (Contains found) same c
    down found closed p (d ∷ past) last leads c = down found closed d past last leads.1 (closed p d c leads.0)
