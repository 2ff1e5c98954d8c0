-- Keys that were read, of which the answers lead on, and the parts of the graph are gathered.
use Rattle.std.specs.Prelude.{◌≡◌, ℕ, false, ◌+◌, ◌≤◌, ◌<◌, List, [], ◌∷◌, ◌++◌, length, take}
use Rattle.std.specs.Prelude.{Some, None, Contains, ◌↔◌, ◌⊎◌}
use Rattle.std.proofs.Common.{refl, sym, ap, ◌∙◌, subst, inl, inr, get_or, true≢false, append-nil, arith}
use Rattle.std.proofs.lemmas.List.{take_all}
use Rattle.std.proofs.lemmas.List.Elements.{Contains-append_left, Contains-append_right}
use Rattle.std.proofs.lemmas.List.Elements.{Contains-append_cases}
use Rattle.indexmap.specs.IndexSet.{insert_key}
use Rattle.shx_term.specs.Members.{Adds}
use Rattle.shx_term.proofs.MemberLemmas.{Contains-one, none_in_empty}
use Rattle.graph_view.specs.declared.key.Key.{Key}
use Rattle.graph_view.specs.declared.key.Key.TheVariants.{Out, In, Subject, Predicate, Answer}
use Rattle.graph_view.specs.Key.{is_answer, key_first, key_second}
use Rattle.comp_core.specs.declared.pair.Pair.{Pair}
use Rattle.comp_core.specs.Pairs.{answer_key, same_pair}
use Rattle.read_records.proofs.GainLemmas.{Gains-inserted, Gains-none, Gains-same, Gains-then, first_taken}
use Rattle.read_records.proofs.GainLemmas.{read_at}
use Rattle.read_records.proofs.ReadingLemmas.{Contains-taken}
use Rattle.read_records.proofs.RestLemmas.{IsBelow, are_below}
use Rattle.read_records.proofs.SearchLemmas.{Searched, Searched-all, Searched-next, Searched-start}
use Rattle.read_records.specs.Recall.{IsReadInAll, RecallState, RestsOn, recalled}
use Rattle.read_records.specs.Recall as remembered
use Rattle.read_records.specs.inner.Reached.{AddsParts}

-- ---- keys of answers

-- a key tells its pair
answer_of : (p q : Pair) → answer_key p ≡ answer_key q → p ≡ q
answer_of p q e = λ i. record { shape = key_first (e i); node = key_second (e i) }

-- no answer
pub part_of : (key : Key) → ((shape node : ℕ) → key ≡ Answer shape node → ⊥) → is_answer key ≡ false
part_of (Out s p) other = refl
part_of (In p o) other = refl
part_of (Subject s) other = refl
part_of (Predicate p) other = refl
part_of (Answer s n) other = absurd (other s n refl)

-- ---- keys that are added one after the other

pub AddsParts-none : (found : List Pair) (all : List Key) → AddsParts [] found found all all
AddsParts-none found all = record {
  answers = Gains-none (λ p. Contains [] (answer_key p)) found (λ p. none_in_empty (answer_key p));
  parts = λ key. (
    λ c. inl c,
    λ h. elim h [ inl c ↦ c | inr more ↦ absurd (none_in_empty key more.0) ],
  );
}

module _ (keys : List Key) (i : ℕ) (d : Key) (inside : i < length keys) {old found : List Pair}
    {before all : List Key} (so_far : AddsParts (take i keys) old found before all)
  where
    -- the next is an answer
    pub AddsParts-answer : (q : Pair) → get_or keys i d ≡ answer_key q
        → AddsParts (take (i + 1) keys) old (insert_key same_pair found q) before all
    AddsParts-answer q is = record {
      answers = Gains-same (Gains-then so_far.answers (Gains-inserted found q)) (λ p.
          let taken = Contains-taken keys i d inside (answer_key p) in (
            λ h. taken.1 (elim h [ inl c ↦ inl c | inr same ↦ inr (ap answer_key same ∙ sym is) ]),
            λ c. elim (taken.0 c) [ inl e ↦ inl e | inr same ↦ inr (answer_of p q (same ∙ is)) ],
          ));
      parts = λ key.
          let taken = Contains-taken keys i d inside key in (
            λ c. elim ((so_far.parts key).0 c) [
              | inl held ↦ inl held
              | inr more ↦ inr (taken.1 (inl more.0), more.1)
            ],
            λ h. (so_far.parts key).1 (elim h [
              | inl held ↦ inl held
              | inr more ↦ elim (taken.0 more.0) [
                | inl c ↦ inr (c, more.1)
                | inr same ↦ absurd (true≢false (sym (ap is_answer (same ∙ is)) ∙ more.1))
              ]
            ]),
          );
    }

    -- or a part of the graph
    pub AddsParts-part : is_answer (get_or keys i d) ≡ false → {new : List Key}
        → Adds all new (get_or keys i d ∷ []) → AddsParts (take (i + 1) keys) old found before new
    AddsParts-part part adds = record {
      answers = Gains-same so_far.answers (λ p.
          let taken = Contains-taken keys i d inside (answer_key p) in (
            λ c. taken.1 (inl c),
            λ c. elim (taken.0 c) [
              | inl e ↦ e
              | inr same ↦ absurd (true≢false (ap is_answer same ∙ part))
            ],
          ));
      parts = λ key.
          let taken = Contains-taken keys i d inside key in
          let added = adds.each key in (
            λ c. elim (added.0 c) [
              | inl held ↦ elim ((so_far.parts key).0 held) [
                | inl first ↦ inl first
                | inr more ↦ inr (taken.1 (inl more.0), more.1)
              ]
              | inr one ↦
                  let same = (Contains-one (get_or keys i d) key).0 one in
                  inr (taken.1 (inr same), ap is_answer same ∙ part)
            ],
            λ h. added.1 (elim h [
              | inl first ↦ inl ((so_far.parts key).1 (inl first))
              | inr more ↦ elim (taken.0 more.0) [
                | inl c ↦ inl ((so_far.parts key).1 (inr (c, more.1)))
                | inr same ↦ inr ((Contains-one (get_or keys i d) key).1 same)
              ]
            ]),
          );
    }

-- ---- what was read in all

module _ (state : RecallState) where
  -- the key was read for what is remembered of the pair
  record IsReadFor (p : Pair) (key : Key) : Type 0 where
    answer : remembered.Answer
    is : recalled state p ≡ Some answer
    read : Contains answer.reads key

  -- or for that of one of the pairs
  record IsReadAmong (pairs : List Pair) (key : Key) : Type 0 where
    pair : Pair
    among : Contains pairs pair
    by : IsReadFor pair key

module _ (state : RecallState) (reads : List Key) where
  -- the parts of the graph among the keys, and among those that were read for the pairs
  record AreParts (pairs : List Pair) (all : List Key) : Type 0 where
    each : (key : Key)
        → Contains all key ↔ ((is_answer key ≡ false) × (Contains reads key ⊎ IsReadAmong state pairs key))

  -- the pairs below were searched up to a place, and their parts gathered
  pub record Gathered (pairs : List Pair) (all : List Key) (at : ℕ) : Type 0 where
    searched : Searched (λ p. Contains reads (answer_key p)) (IsBelow state reads)
        (RestsOn (recalled state)) pairs at
    parts : AreParts (take at pairs) all

  pub Gathered-start : {pairs : List Pair} {all : List Key} → AddsParts reads [] pairs [] all
      → Gathered pairs all 0
  Gathered-start {pairs} adds = record {
    searched = Searched-start (are_below state reads) pairs adds.answers;
    parts = record {
      each = λ key. (
        λ c. elim ((adds.parts key).0 c) [
          | inl none ↦ absurd (none_in_empty key none)
          | inr read ↦ (read.1, inl read.0)
        ],
        λ h. (adds.parts key).1 (inr (elim h.1 [
          | inl read ↦ (read, h.0)
          | inr more ↦ absurd (none_in_empty more.pair more.among)
        ])),
      );
    };
  }

  module _ (pairs : List Pair) (all : List Key) (at : ℕ) (gathered : Gathered pairs all at)
      (slice : List Pair) (d : Pair) (same : slice ≡ pairs) (more : at < length slice)
    where
      abbrev next : Pair
      next = get_or slice at d

      -- the parts of one pair more
      parts_more : (behind : List Pair) (after : List Key)
          → ((key : Key) → Contains after key
          ↔ (Contains all key ⊎ ((is_answer key ≡ false) × IsReadFor state next key)))
          → AreParts (take (at + 1) (pairs ++ behind)) after
      parts_more behind after added =
          let front = first_taken pairs (pairs ++ behind) behind at next refl
          (omega (arith, more, ap length same)) (read_at pairs slice at d same more) in
          subst (λ ps. AreParts ps after) (sym front) (record {
            each = λ key. (
              λ c. elim ((added key).0 c) [
                | inl held ↦
                    let h = (gathered.parts.each key).0 held in (
                      h.0,
                      elim h.1 [
                        | inl read ↦ inl read
                        | inr one ↦ inr (record {
                          pair = one.pair;
                          among = Contains-append_left (take at pairs) (next ∷ []) one.pair one.among;
                          by = one.by;
                        })
                      ],
                    )
                | inr h ↦ (
                  h.0,
                  inr (record {
                    pair = next;
                    among = Contains-append_right (take at pairs) (next ∷ []) next
                        ((Contains-one next next).1 refl);
                    by = h.1;
                  }),
                )
              ],
              λ h. (added key).1 (elim h.1 [
                | inl read ↦ inl ((gathered.parts.each key).1 (h.0, inl read))
                | inr one ↦ elim (Contains-append_cases (take at pairs) (next ∷ []) one.pair one.among) [
                  | inl before ↦ inl ((gathered.parts.each key).1 (
                    h.0,
                    inr (record {
                      pair = one.pair;
                      among = before;
                      by = one.by;
                    }),
                  ))
                  | inr last ↦
                      let is = (Contains-one next one.pair).0 last in
                      inr (h.0, subst (λ p. IsReadFor state p key) is one.by)
                ]
              ]),
            );
          })

      -- something is remembered of the next
      pub Gathered-found : (answer : remembered.Answer) → recalled state next ≡ Some answer
          → (new : List Pair) (after : List Key) → AddsParts answer.reads pairs new all after
          → Gathered new after (at + 1)
      Gathered-found answer is new after adds = record {
        searched = Searched-next (are_below state reads) pairs at gathered.searched slice d same more new
            (Gains-same adds.answers (λ p. (
              λ c. record { answer = answer; is = is; read = c },
              λ rests. reads_it rests.answer rests.is (answer_key p) rests.read,
            )));
        parts = subst (λ ps. AreParts (take (at + 1) ps) after) (sym adds.answers.behind)
            (parts_more adds.answers.more after (λ key. (
              λ c. elim ((adds.parts key).0 c) [
                | inl held ↦ inl held
                | inr read ↦ inr (read.1, record { answer = answer; is = is; read = read.0 })
              ],
              λ h. (adds.parts key).1 (elim h [
                | inl held ↦ inl held
                | inr read ↦ inr (reads_it read.1.answer read.1.is key read.1.read, read.0)
              ]),
            )));
      }
        where
          one_answer : (a b : remembered.Answer) → Some a ≡ Some b → a ≡ b
          one_answer a b e = cc

          reads_it : (other : remembered.Answer) → recalled state next ≡ Some other → (key : Key)
              → Contains other.reads key → Contains answer.reads key
          reads_it other at key =
              subst (λ (a : remembered.Answer). Contains a.reads key) (one_answer other answer (sym at ∙ is))

      -- or nothing is
      pub Gathered-none : recalled state next ≡ None → Gathered pairs all (at + 1)
      Gathered-none is = record {
        searched = Searched-next (are_below state reads) pairs at gathered.searched slice d same more pairs
            (Gains-none (RestsOn (recalled state) next) pairs (λ p rests. nothing rests.answer rests.is));
        parts = subst (λ ps. AreParts (take (at + 1) ps) all) (append-nil pairs)
            (parts_more [] all (λ key. (
              λ c. inl c,
              λ h. elim h [ inl held ↦ held | inr read ↦ absurd (nothing read.1.answer read.1.is) ],
            )));
      }
        where
          nothing : (answer : remembered.Answer) → recalled state next ≡ Some answer → ⊥
          nothing answer some = cc

  -- once all pairs were looked up, all parts were gathered
  pub Gathered-all : (pairs : List Pair) (all : List Key) (at : ℕ) → Gathered pairs all at
      → length pairs ≤ at → (key : Key) → Contains all key ↔ IsReadInAll state reads key
  Gathered-all pairs all at gathered done key =
      let are = gathered.parts.each key in
      let below = Searched-all (are_below state reads) pairs at gathered.searched done in
      let whole = take_all at pairs done in (
        λ c.
            let h = are.0 c in
            record {
              part = h.0;
              read = elim h.1 [
                | inl read ↦ inl read
                | inr one ↦
                    let reached = (below one.pair).0 (subst (λ ps. Contains ps one.pair) whole one.among) in
                    inr (record {
                      first = reached.first;
                      among = reached.among;
                      past = reached.past;
                      last = one.pair;
                      leads = reached.leads;
                      answer = one.by.answer;
                      is = one.by.is;
                      read = one.by.read;
                    })
              ];
            },
        λ h. are.1 (
          h.part,
          elim h.read [
            | inl read ↦ inl read
            | inr one ↦ inr (record {
              pair = one.last;
              among = subst (λ ps. Contains ps one.last) (sym whole) ((below one.last).1 (record {
                first = one.first;
                among = one.among;
                past = one.past;
                leads = one.leads;
              }));
              by = record { answer = one.answer; is = one.is; read = one.read };
            })
          ],
        ),
      )
