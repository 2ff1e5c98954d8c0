-- Words are read by `clap` as the definition reads them.
use Rattle.std.proofs.Common.{◌≡◌, ◌∙◌, Bool, true, false, List, [], ◌∷◌, Option, Some, None, codes, fold}
use Rattle.std.proofs.Common.{option_map, option_and_then, not, refl, sym, ap, ap₂, subst, append_assoc}
use Rattle.std.proofs.Common.{append-nil}
use Rattle.std.specs.Bool.{⊤}
use Rattle.std.specs.List.{All, list_any}
use Rattle.std.proofs.lemmas.Bool.{or_from}
use Rattle.std.specs.Borrow.{Bor}
use Rattle.std.specs.Option.{option_map_or}
use Rattle.std.proofs.lemmas.List.Elements.{All-head, All-tail}
use Rattle.clap.specs.Walk.{Row, Text, Waiting, Walk, all_of, idle, option, positional, settled, settled_rows}
use Rattle.clap.specs.Walk.{used, arg_by_id, option_word, used_by_id, walked}
use Rattle.clap.specs.Simple.{Shape}
use Rattle.clap.specs.Kinds.{Kinds, or_else}
use Rattle.clap.specs.Faults.{settle_fault, turn_fault, use_fault, walk_fault}
use Rattle.clap.specs.declared.error.kind.ErrorKind.TheVariants as kind
use Rattle.command_words.specs.Words.{Seen, is_barred, is_dashed, nothing_seen, read_from, read_value}
use Rattle.command_words.specs.Words.{texts_of, with_files}
use Rattle.command_words.specs.inner.Allowed.{IsAllowed}
use Rattle.command_words.proofs.SortLemmas.{Key, Sort, alone, attached, base_key, dashes, format_key}
use Rattle.command_words.proofs.SortLemmas.{is_plain, name_of, plain, read_by, sort_of, sorted, unknown}
use Rattle.command_words.proofs.SortLemmas.{with_key}
use Rattle.command_words.proofs.TurnLemmas.{IsOurs, IsTurn, IsTurnPlain, Pending, asking, at, before, behind}
use Rattle.command_words.proofs.TurnLemmas.{held, never, or_else_assoc, or_else_parts, rule_for, settles}
use Rattle.command_words.proofs.TurnLemmas.{trails, turned, with_file}
use Rattle.command_words.proofs.StandLemmas.{Stands, file_stands, option_stands, put, put_again, put_first}
use Rattle.command_words.proofs.StandLemmas.{used_again, used_first, value_of}

abbrev pub AreAllowed : List Text → Type 0
AreAllowed [] = ⊤
AreAllowed (word ∷ words) = IsAllowed word × AreAllowed words

pub each_allowed : (words : List (Bor Text)) → All (λ word. IsAllowed word.now) words
    → AreAllowed (texts_of words)
each_allowed [] h = tt
each_allowed (word ∷ words) h =
    let P : Bor Text → Type 0 = λ w. IsAllowed w.now in
    (All-head P word words h, each_allowed words (All-tail P word words h))

pub none_barred : (words : List Text) → AreAllowed words → list_any is_barred words ≡ false
none_barred [] h = refl
none_barred (word ∷ words) h =
    or_from (is_barred word) (list_any is_barred words) h.0.stands (none_barred words h.1)

-- no option waits for its value
abbrev pub IsFree : Waiting → Type 0
IsFree (option id) = ⊥
IsFree _ = ⊤

module _ (s : Shape) (ours : IsOurs s) where
  key_settles : (k : Key) (values : List Text) (rows : List Row)
      → settles s ours rows (Some (name_of k, values)) ≡ use_fault false (rule_for k) values rows
  key_settles k values rows = ap (λ o. option_map_or (λ a. use_fault false a values rows) o []) (ours.key k)

  key_rows : (k : Key) (values : List Text) (rows : List Row)
      → settled_rows s.rules (Some (name_of k, values)) rows ≡ used (rule_for k) values rows
  key_rows k values rows = ap (λ o. used_by_id o values rows) (ours.key k)

  -- what is pending passes, and with it the rows hold what was seen
  pub record Settles (seen : Seen) (rows : List Row) (pending : Pending) : Type 0 where
    pub quiet : settles s ours rows pending ≡ []
    pub stands : Stands seen (settled_rows s.rules pending rows)

  settles_file : (word : Text) (seen : Seen) (rows : List Row) → Stands seen rows
      → Settles (with_files (word ∷ []) seen) rows (Some (codes "files", word ∷ []))
  settles_file word seen rows h = record {
    quiet = ap (λ o. option_map_or (λ a. use_fault false a (word ∷ []) rows) o []) ours.files;
    stands = subst (Stands (with_files (word ∷ []) seen))
        (sym (ap (λ o. used_by_id o (word ∷ []) rows) ours.files))
        (file_stands word seen rows h);
  }

  settles_key : (k : Key) (value : Text) (seen : Seen) (rows : List Row) → Stands seen rows
      → value_of k seen ≡ None
      → Settles (put k value seen) rows (Some (name_of k, value ∷ []))
  settles_key k value seen rows h e = record {
    quiet = key_settles k (value ∷ []) rows ∙ used_first k value seen rows h e;
    stands = subst (Stands (put k value seen)) (sym (key_rows k (value ∷ []) rows))
        (option_stands k value seen rows h e);
  }

  -- ---- how the words end

  abbrev pub end_of : Walk → List Text → Walk
  end_of = fold (walked s.rules [])

  abbrev pub rest_fault : Walk → List Text → Kinds
  rest_fault w words = or_else (walk_fault s [] w words) (settle_fault s.rules false (end_of w words).held)

  pub record HasEnded (seen : Seen) (w : Walk) (words : List Text) : Type 0 where
    pub quiet : rest_fault w words ≡ []
    pub stands : Stands seen (settled s.rules (end_of w words).held).rows
    pub no_subcommand : (end_of w words).stopped ≡ None

  abbrev pub Ends : Option Seen → Walk → List Text → Type 0
  Ends None w words = rest_fault w words ≡ [] → ⊥
  Ends (Some seen) w words = HasEnded seen w words

  rest_more : (w : Walk) (word : Text) (words : List Text)
      → rest_fault w (word ∷ words)
      ≡ or_else (turn_fault s [] w word) (rest_fault (walked s.rules [] w word) words)
  unfolding walk_fault
  rest_more w word words = or_else_assoc (turn_fault s [] w word) _ _

  rest_none : (w : Walk) → rest_fault w [] ≡ settle_fault s.rules false w.held
  unfolding walk_fault
  rest_none w = refl

  past : (w : Walk) (word : Text) (words : List Text) → turn_fault s [] w word ≡ []
      → rest_fault w (word ∷ words) ≡ rest_fault (walked s.rules [] w word) words
  past w word words quiet = rest_more w word words
      ∙ ap (λ kinds. or_else kinds (rest_fault (walked s.rules [] w word) words)) quiet

  ends_past : (seen : Option Seen) (w : Walk) (word : Text) (words : List Text) → turn_fault s [] w word ≡ []
      → Ends seen (walked s.rules [] w word) words → Ends seen w (word ∷ words)
  ends_past None w word words quiet h = λ e. h (sym (past w word words quiet) ∙ e)
  ends_past (Some seen) w word words quiet h = record {
    quiet = past w word words quiet ∙ h.quiet;
    stands = h.stands;
    no_subcommand = h.no_subcommand;
  }

  -- past a word that passes, the rest of the words ends as it does from there
  ends_on : (seen : Option Seen) (w after : Walk) (word : Text) (words : List Text)
      → turn_fault s [] w word ≡ []
      → walked s.rules [] w word ≡ after → Ends seen after words → Ends seen w (word ∷ words)
  ends_on seen w after word words quiet is h =
      ends_past seen w word words quiet (subst (λ v. Ends seen v words) (sym is) h)

  ends_here : (w : Walk) (word : Text) (words : List Text) → (turn_fault s [] w word ≡ [] → ⊥)
      → Ends None w (word ∷ words)
  ends_here w word words fails = λ e. fails (or_else_parts _ _ (sym (rest_more w word words) ∙ e)).0

  stands_at : (is_trailing : Bool) (waiting : Waiting) (seen : Seen) (rows : List Row) (pending : Pending)
      → Settles seen rows pending → Ends (Some seen) (at is_trailing waiting (held rows pending)) []
  stands_at is_trailing waiting seen rows pending h = record {
    quiet = rest_none (at is_trailing waiting (held rows pending)) ∙ h.quiet;
    stands = h.stands;
    no_subcommand = refl;
  }

  -- ---- behind `--`

  pub trailing_reads : (seen : Seen) (words : List Text) (waiting : Waiting) (rows : List Row)
      (pending : Pending)
      → Settles seen rows pending → Ends (Some (with_files words seen)) (behind waiting rows pending) words
  trailing_reads seen [] waiting rows pending h =
      let none = append-nil seen.files in
      subst (λ files. Ends (Some (record seen { files = files })) (behind waiting rows pending) []) (sym none)
      (stands_at true waiting seen rows pending h)
  trailing_reads seen (word ∷ words) waiting rows pending h =
      let turn = trails s ours waiting word rows pending in
      let after = at true positional (with_file s ours word rows pending) in
      let rest = trailing_reads (with_files (word ∷ []) seen) words positional
      (settled_rows s.rules pending rows)
      (Some (codes "files", word ∷ []))
      (settles_file word seen (settled_rows s.rules pending rows) h.stands) in
      subst (λ files. Ends (Some (record seen { files = files })) (behind waiting rows pending)
      (word ∷ words))
      (append_assoc seen.files (word ∷ []) words)
      (ends_on (Some (with_files words (with_files (word ∷ []) seen)))
      (behind waiting rows pending) after word words
      (turn.0 ∙ h.quiet) turn.1 rest)

  -- what is pending and does not pass fails at the next word, or at the end
  doomed_behind : (words : List Text) (waiting : Waiting) (rows : List Row) (pending : Pending)
      → (settles s ours rows pending ≡ [] → ⊥) → Ends None (behind waiting rows pending) words
  doomed_behind [] waiting rows pending fails = λ e. fails (sym (rest_none (behind waiting rows pending)) ∙ e)
  doomed_behind (word ∷ words) waiting rows pending fails =
      let turn = trails s ours waiting word rows pending in
      ends_here (behind waiting rows pending) word words (λ e. fails (sym turn.0 ∙ e))

  -- ---- before `--`

  free_turn : (waiting : Waiting) (word : Text) (rows : List Row) (pending : Pending) (fault : Kinds)
      (after : Walk)
      → IsFree waiting → IsTurnPlain s ours waiting word rows pending fault after
      → (fault ≡ settles s ours rows pending)
      × (after ≡ at false positional (with_file s ours word rows pending))
  free_turn idle word rows pending fault after free t = t
  free_turn positional word rows pending fault after free t = t
  free_turn (option id) word rows pending fault after free t = absurd free

  doomed : (words : List Text) (rows : List Row) (pending : Pending) → AreAllowed words
      → (settles s ours rows pending ≡ [] → ⊥) → Ends None (before idle rows pending) words
  doomed [] rows pending texts fails = λ e. fails (sym (rest_none (before idle rows pending)) ∙ e)
  doomed (word ∷ words) rows pending texts fails =
      go (sort_of word) (turned s ours idle word rows pending texts.0.utf8)
    where
      go : (sort : Sort)
          → IsTurn s ours sort idle word rows pending (turn_fault s [] (before idle rows pending) word)
          (walked s.rules [] (before idle rows pending) word)
          → Ends None (before idle rows pending) (word ∷ words)
      go dashes t = ends_on None (before idle rows pending) (behind idle rows pending) word words t.0 t.1
          (doomed_behind words idle rows pending fails)
      go (alone k) t = ends_here (before idle rows pending) word words (λ e. fails (sym t.0 ∙ e))
      go (attached k value) t = ends_here (before idle rows pending) word words
          (λ e. fails (or_else_parts _ _ (sym t.0 ∙ e)).0)
      go unknown t = ends_here (before idle rows pending) word words t
      go plain t = ends_here (before idle rows pending) word words (λ e. fails (sym t.0 ∙ e))

  -- an option without its value
  unpaid : (k : Key) (rows : List Row) → settles s ours rows (Some (name_of k, [])) ≡ [] → ⊥
  unpaid k rows e = never kind.InvalidValue [] (sym (key_settles k [] rows) ∙ e)

  value_next : (k : Key) (word : Text) (rows : List Row)
      → at false (option_word (arg_by_id s.rules (name_of k)) (name_of k) word
      (held rows (Some (name_of k, [])))).1
      (option_word (arg_by_id s.rules (name_of k)) (name_of k) word (held rows (Some (name_of k, [])))).0
      ≡ before idle rows (Some (name_of k, word ∷ []))
  value_next k word rows =
      ap (λ o. at false (option_word o (name_of k) word (held rows (Some (name_of k, [])))).1
      (option_word o (name_of k) word (held rows (Some (name_of k, [])))).0) (ours.key k)
      ∙ paid k
    where
      paid : (j : Key) → at false
          (option_word (Some (rule_for j)) (name_of j) word (held rows (Some (name_of j, [])))).1
          (option_word (Some (rule_for j)) (name_of j) word (held rows (Some (name_of j, [])))).0
          ≡ at false idle (held rows (Some (name_of j, word ∷ [])))
      paid format_key = refl
      paid base_key = refl

  abbrev pub Reads : List Text → Type 0
  Reads words = (seen : Seen) (waiting : Waiting) (rows : List Row) (pending : Pending) → IsFree waiting
      → Settles seen rows pending → Ends (read_from seen words) (before waiting rows pending) words

  abbrev pub ReadsValue : List Text → Type 0
  ReadsValue words = (k : Key) (seen : Seen) (rows : List Row) → Stands seen rows
      → Ends (read_value (with_key k) seen words) (asking k rows) words

  module _ (word : Text) (words : List Text) (onward : Reads words) (allowed : IsAllowed word) where
    -- an option with its value
    attached_reads : (k : Key) (value : Text) (seen : Seen) (waiting : Waiting) (rows : List Row)
        (pending : Pending)
        → Settles seen rows pending
        → IsTurn s ours (attached k value) waiting word rows pending
        (turn_fault s [] (before waiting rows pending) word)
        (walked s.rules [] (before waiting rows pending) word)
        → Ends (option_and_then (λ next. read_from next words) (with_key k value seen))
        (before waiting rows pending) (word ∷ words)
    attached_reads k value seen waiting rows pending h t = go (value_of k seen) refl
      where
        go : (o : Option Text) → value_of k seen ≡ o
            → Ends (option_and_then (λ next. read_from next words) (with_key k value seen))
            (before waiting rows pending) (word ∷ words)
        go None e =
            subst (λ r. Ends (option_and_then (λ next. read_from next words) r) (before waiting rows pending)
            (word ∷ words))
            (sym (put_first k value seen e))
            (ends_on (read_from (put k value seen) words) (before waiting rows pending)
            (at false idle (held (used (rule_for k) (value ∷ [])
            (settled_rows s.rules pending rows)) None)) word words
            (t.0 ∙ ap₂ or_else h.quiet
            (used_first k value seen (settled_rows s.rules pending rows) h.stands e)) t.1
            (onward (put k value seen) idle
            (used (rule_for k) (value ∷ []) (settled_rows s.rules pending rows)) None tt (record {
              quiet = refl;
              stands = option_stands k value seen (settled_rows s.rules pending rows) h.stands e;
            })))
        go (Some old) e =
            subst (λ r. Ends (option_and_then (λ next. read_from next words) r) (before waiting rows pending)
            (word ∷ words))
            (sym (put_again k value old seen e))
            (ends_here (before waiting rows pending) word words (λ quiet. never kind.ArgumentConflict []
            (sym (used_again k value old seen (settled_rows s.rules pending rows) h.stands e)
            ∙ (or_else_parts _ _ (sym t.0 ∙ quiet)).1)))

    reads_word : ReadsValue words → Reads (word ∷ words)
    reads_word values seen waiting rows pending free h =
        subst (λ r. Ends r (before waiting rows pending) (word ∷ words))
        (sym ((sorted word allowed.stands).reads seen words))
        (go (sort_of word) (turned s ours waiting word rows pending allowed.utf8))
      where
        go : (sort : Sort)
            → IsTurn s ours sort waiting word rows pending
            (turn_fault s [] (before waiting rows pending) word)
            (walked s.rules [] (before waiting rows pending) word)
            → Ends (read_by sort seen word words) (before waiting rows pending) (word ∷ words)
        go dashes t =
            ends_on (Some (with_files words seen)) (before waiting rows pending) (behind waiting rows pending)
            word words t.0 t.1 (trailing_reads seen words waiting rows pending h)
        go (alone k) t =
            ends_on (read_value (with_key k) seen words) (before waiting rows pending)
            (at false (option (name_of k))
            (held (settled_rows s.rules pending rows) (Some (name_of k, [])))) word words
            (t.0 ∙ h.quiet) t.1 (values k seen (settled_rows s.rules pending rows) h.stands)
        go (attached k value) t = attached_reads k value seen waiting rows pending h t
        go unknown t = ends_here (before waiting rows pending) word words t
        go plain t =
            let u = free_turn waiting word rows pending _ _ free t in
            ends_on (read_from (with_files (word ∷ []) seen) words) (before waiting rows pending)
            (at false positional (with_file s ours word rows pending)) word words (u.0 ∙ h.quiet) u.1
            (onward (with_files (word ∷ []) seen) positional (settled_rows s.rules pending rows)
            (Some (codes "files", word ∷ []))
            tt (settles_file word seen (settled_rows s.rules pending rows) h.stands))

    -- the word is the value of an option, unless it begins with a dash
    value_is : (with_value : Text → Seen → Option Seen) (seen : Seen) → is_dashed word ≡ false
        → read_value with_value seen (word ∷ words)
        ≡ option_and_then (λ next. read_from next words) (with_value word seen)
    unfolding read_value
    value_is with_value seen e = rw e refl

    no_value : (with_value : Text → Seen → Option Seen) (seen : Seen) → is_dashed word ≡ true
        → read_value with_value seen (word ∷ words) ≡ None
    unfolding read_value
    no_value with_value seen e = rw e refl

    reads_value : AreAllowed words → ReadsValue (word ∷ words)
    reads_value texts k seen rows h =
        go (sort_of word) (sorted word allowed.stands).dashed
        (turned s ours (option (name_of k)) word rows (Some (name_of k, [])) allowed.utf8)
      where
        refused : is_dashed word ≡ true
            → Ends None (asking k rows) (word ∷ words)
            → Ends (read_value (with_key k) seen (word ∷ words))
            (asking k rows) (word ∷ words)
        refused d ends =
            subst (λ r. Ends r (asking k rows) (word ∷ words))
            (sym (no_value (with_key k) seen d)) ends

        given : (turn_fault s [] (asking k rows) word ≡ [])
            → (walked s.rules [] (asking k rows) word
            ≡ before idle rows (Some (name_of k, word ∷ [])))
            → (o : Option Text) → value_of k seen ≡ o
            → Ends (option_and_then (λ next. read_from next words) (with_key k word seen))
            (asking k rows) (word ∷ words)
        given quiet after None e =
            subst (λ r. Ends (option_and_then (λ next. read_from next words) r)
            (asking k rows) (word ∷ words)) (sym (put_first k word seen e))
            (ends_on (read_from (put k word seen) words) (asking k rows)
            (before idle rows (Some (name_of k, word ∷ []))) word words quiet after
            (onward (put k word seen) idle rows (Some (name_of k, word ∷ [])) tt
            (settles_key k word seen rows h e)))
        given quiet after (Some old) e =
            subst (λ r. Ends (option_and_then (λ next. read_from next words) r)
            (asking k rows) (word ∷ words))
            (sym (put_again k word old seen e))
            (ends_on None (asking k rows)
            (before idle rows (Some (name_of k, word ∷ []))) word words quiet after
            (doomed words rows (Some (name_of k, word ∷ [])) texts (λ none. never kind.ArgumentConflict []
            (sym (key_settles k (word ∷ []) rows ∙ used_again k word old seen rows h e) ∙ none))))

        go : (sort : Sort) → is_dashed word ≡ not (is_plain sort)
            → IsTurn s ours sort (option (name_of k)) word rows (Some (name_of k, []))
            (turn_fault s [] (asking k rows) word)
            (walked s.rules [] (asking k rows) word)
            → Ends (read_value (with_key k) seen (word ∷ words))
            (asking k rows) (word ∷ words)
        go dashes d t = refused d
            (ends_on None (asking k rows)
            (behind (option (name_of k)) rows (Some (name_of k, []))) word words t.0 t.1
            (doomed_behind words (option (name_of k)) rows (Some (name_of k, [])) (unpaid k rows)))
        go (alone j) d t = refused d (ends_here _ word words (λ e. unpaid k rows (sym t.0 ∙ e)))
        go (attached j value) d t =
            refused d (ends_here _ word words (λ e. unpaid k rows (or_else_parts _ _ (sym t.0 ∙ e)).0))
        go unknown d t = refused d (ends_here _ word words t)
        go plain d t =
            subst (λ r. Ends r (asking k rows) (word ∷ words))
            (sym (value_is (with_key k) seen d))
            (given t.0 (t.1 ∙ value_next k word rows) (value_of k seen) refl)

  read_nil : (seen : Seen) → read_from seen [] ≡ Some seen
  unfolding read_from
  read_nil seen = refl

  value_nil : (with_value : Text → Seen → Option Seen) (seen : Seen) → read_value with_value seen [] ≡ None
  unfolding read_value
  value_nil with_value seen = refl

  mutual
    pub reads : (words : List Text) → AreAllowed words → Reads words
    reads [] allowed = λ seen waiting rows pending free h.
        subst (λ r. Ends r (before waiting rows pending) []) (sym (read_nil seen))
        (stands_at false waiting seen rows pending h)
    reads (word ∷ words) allowed =
        reads_word word words (reads words allowed.1) allowed.0 (values words allowed.1)

    values : (words : List Text) → AreAllowed words → ReadsValue words
    values [] allowed = λ k seen rows h.
        subst (λ r. Ends r (asking k rows) [])
        (sym (value_nil (with_key k) seen)) (λ e. unpaid k rows (sym (rest_none _) ∙ e))
    values (word ∷ words) allowed = reads_value word words (reads words allowed.1) allowed.0 allowed.1

  nothing_stands : Settles nothing_seen [] None
  nothing_stands = record { quiet = refl; stands = record { options = none; files = refl } }
    where
      none : (k : Key) → all_of (name_of k) [] ≡ option_map (λ value. value ∷ []) (value_of k nothing_seen)
      none format_key = refl
      none base_key = refl

  -- the words from the first on
  pub reads_all : (words : List Text) → AreAllowed words
      → Ends (read_from nothing_seen words) (before idle [] None) words
  reads_all words allowed = reads words allowed nothing_seen idle [] None tt nothing_stands
