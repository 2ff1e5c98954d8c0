-- What `clap` does at a word, by the word's sort.
use Rattle.std.proofs.Common.{◌≡◌, ◌∙◌, ℕ, ◌<◌, Bool, true, false, cond, ◌&&◌, ◌||◌, List, [], ◌∷◌, length}
use Rattle.std.proofs.Common.{Option, Some, None, codes, bytes_eq, chars, slice_get, option_map, fold, IsUtf8}
use Rattle.std.proofs.Common.{refl, sym, ap, subst, arith, if◌then◌else◌, drop, encode_utf8}
use Rattle.std.specs.Option.{option_map_or}
use Rattle.clap.specs.Lexer.{long_of, short_of}
use Rattle.clap.specs.Walk.{Held, Row, Rule, Step, Text, Waiting, Walk, after_flag, after_step, arg_by_id}
use Rattle.clap.specs.Walk.{arg_by_index, arg_by_long, arg_by_short, idle, is_pending, long_met}
use Rattle.clap.specs.Walk.{long_or_other, option, option_word, positional, pushed, settled, settled_rows}
use Rattle.clap.specs.Walk.{short_or_plain, subcommand_met, subcommand_or_other, to_positional, trailing}
use Rattle.clap.specs.Walk.{used, walked, with_default}
use Rattle.clap.specs.Simple.{Shape, filled, with_index}
use Rattle.clap.specs.Kinds.{Kinds, or_else}
use Rattle.clap.specs.Faults.{bundle_fault, bundle_step_fault, check_fault, defaults_fault, flag_word_fault}
use Rattle.clap.specs.Faults.{flags_fault, long_fault, other_fault, positional_fault, settle_fault}
use Rattle.clap.specs.Faults.{short_fault, step_fault, stray_fault, turn_fault, use_fault}
use Rattle.clap.specs.declared.error.kind.ErrorKind.{ErrorKind}
use Rattle.clap.specs.declared.error.kind.ErrorKind.TheVariants as kind
use Rattle.command_words.specs.inner.Command.{files_rule, option_rule}
use Rattle.command_words.proofs.SortLemmas.{Key, Sort, alone, attached, by_dashes, by_key, dashes, key_of}
use Rattle.command_words.proofs.SortLemmas.{name_of, by_short, plain, sort_of, unknown}
use Rattle.command_words.proofs.TextLemmas.{dash_and_flags, first_char}

abbrev pub rule_for : Key → Rule
rule_for k = filled (option_rule (name_of k))

abbrev pub files_built : Rule
files_built = with_index 1 (filled files_rule)

-- all that is read of the built command
pub record IsOurs (s : Shape) : Type 0 where
  pub again : s.args_override_self ≡ false
  pub long : (name : Text) → arg_by_long s.rules name ≡ option_map rule_for (key_of name)
  pub short : (x : ℕ) → arg_by_short s.rules x ≡ None
  pub key : (k : Key) → arg_by_id s.rules (name_of k) ≡ Some (rule_for k)
  pub files : arg_by_id s.rules (codes "files") ≡ Some files_built
  pub place : arg_by_index s.rules 1 ≡ Some files_built
  pub defaults : (rows : List Row) → fold with_default rows s.rules ≡ rows
  pub no_default_fault : (rows : List Row) → defaults_fault rows s.rules ≡ []
  pub no_check_fault : (rows : List Row) → check_fault s rows false ≡ []

abbrev pub Pending : Type 0
Pending = Option (Text × List Text)

abbrev pub held : List Row → Pending → Held
held rows pending = record { rows = rows; pending = pending; skip = 0 }

-- where the walk stands between two words
abbrev pub at : Bool → Waiting → Held → Walk
at is_trailing waiting h =
    record { held = h; waiting = waiting; position = 1; is_trailing = is_trailing; stopped = None }

-- before `--`, and behind it
abbrev pub before : Waiting → List Row → Pending → Walk
before waiting rows pending = at false waiting (held rows pending)

abbrev pub behind : Waiting → List Row → Pending → Walk
behind waiting rows pending = at true waiting (held rows pending)

-- an option waits for its value
abbrev pub asking : Key → List Row → Walk
asking k rows = before (option (name_of k)) rows (Some (name_of k, []))

-- ---- kinds in turn

pub never : {A : Type 0} (k : ErrorKind) (ks : Kinds) → k ∷ ks ≡ [] → A
never k ks e = cc

pub or_else_assoc : (a b c : Kinds) → or_else (or_else a b) c ≡ or_else a (or_else b c)
or_else_assoc [] b c = refl
or_else_assoc (k ∷ ks) b c = refl

pub or_else_nil : (a : Kinds) → or_else a [] ≡ a
or_else_nil [] = refl
or_else_nil (k ∷ ks) = refl

pub or_else_parts : (a b : Kinds) → or_else a b ≡ [] → (a ≡ []) × (b ≡ [])
or_else_parts [] b e = (refl, e)
or_else_parts (k ∷ ks) b e = never k ks e

or_else_some : (k : ErrorKind) (ks a b : Kinds) → a ≡ k ∷ ks → or_else a b ≡ [] → ⊥
or_else_some k ks [] b is e = never k ks (sym is)
or_else_some k ks (j ∷ js) b is e = never j js e

unless_never : {A : Type 0} (b : Bool) (x y : A) → cond (b && false) x y ≡ y
unless_never true x y = refl
unless_never false x y = refl

or_never : (b : Bool) → (b || false) ≡ b
or_never true = refl
or_never false = refl

module _ (s : Shape) (ours : IsOurs s) where
  abbrev pub settles : List Row → Pending → Kinds
  settles rows pending = settle_fault s.rules false (held rows pending)

  settle_once : (h : Held) → settle_fault s.rules s.args_override_self h ≡ settle_fault s.rules false h
  settle_once h = ap (λ b. settle_fault s.rules b h) ours.again

  -- the word goes to the files
  abbrev pub with_file : Text → List Row → Pending → Held
  with_file word rows pending = held (settled_rows s.rules pending rows) (Some (codes "files", word ∷ []))

  file_fault : (rows : List Row) (pending : Pending)
      → option_map_or (λ a. positional_fault s.rules s.args_override_self a (held rows pending))
      (arg_by_index s.rules 1) (stray_fault s) ≡ settles rows pending
  file_fault rows pending =
      ap (λ o. option_map_or (λ a. positional_fault s.rules s.args_override_self a (held rows pending)) o
      (stray_fault s))
      ours.place
      ∙ ap (λ b. positional_fault s.rules b files_built (held rows pending)) ours.again
      ∙ unless_never (is_pending files_built pending) [] (settles rows pending)

  file_next : (is_trailing : Bool) (waiting : Waiting) (word : Text) (rows : List Row) (pending : Pending)
      → to_positional s.rules (arg_by_index s.rules 1) word (at is_trailing waiting (held rows pending))
      (held rows pending)
      ≡ at is_trailing positional (with_file word rows pending)
  file_next is_trailing waiting word rows pending =
      let h = held rows pending in
      let goes : ◌≡◌ {A = Held} (cond (is_pending files_built pending && false) h (settled s.rules h))
      (settled s.rules h) =
      unless_never (is_pending files_built pending) h (settled s.rules h) in
      let same : ◌≡◌ {A = Walk} (to_positional s.rules (Some files_built) word (at is_trailing waiting h) h)
      (at is_trailing positional (with_file word rows pending)) =
      λ i. record {
        held = pushed (codes "files") word (goes i);
        waiting = positional;
        position = 1;
        is_trailing = or_never is_trailing i;
        stopped = None;
      } in
      ap (λ o. to_positional s.rules o word (at is_trailing waiting h) h) ours.place ∙ same

  -- behind `--` each word is a file
  pub trails : (waiting : Waiting) (word : Text) (rows : List Row) (pending : Pending)
      → (turn_fault s [] (behind waiting rows pending) word ≡ settles rows pending)
      × (walked s.rules [] (behind waiting rows pending) word
      ≡ at true positional (with_file word rows pending))
  unfolding walked
  trails waiting word rows pending = (file_fault rows pending, file_next true waiting word rows pending)

  -- ---- before `--`

  abbrev pub IsTurnPlain : Waiting → Text → List Row → Pending → Kinds → Walk → Type 0
  IsTurnPlain (option id) word rows pending fault after = (fault ≡ [])
      × (after ≡ at false (option_word (arg_by_id s.rules id) id word (held rows pending)).1
      (option_word (arg_by_id s.rules id) id word (held rows pending)).0)
  IsTurnPlain _ word rows pending fault after =
      (fault ≡ settles rows pending) × (after ≡ at false positional (with_file word rows pending))

  -- with these kinds the word fails, and without them the walk stands there after it
  abbrev pub IsTurn : Sort → Waiting → Text → List Row → Pending → Kinds → Walk → Type 0
  IsTurn dashes waiting word rows pending fault after =
      (fault ≡ []) × (after ≡ at true waiting (held rows pending))
  IsTurn (alone k) waiting word rows pending fault after = (fault ≡ settles rows pending)
      × (after ≡ at false (option (name_of k))
      (held (settled_rows s.rules pending rows) (Some (name_of k, []))))
  IsTurn (attached k value) waiting word rows pending fault after =
      (fault ≡ or_else (settles rows pending)
      (use_fault false (rule_for k) (value ∷ []) (settled_rows s.rules pending rows)))
      × (after ≡ at false idle (held
      (used (rule_for k) (value ∷ []) (settled_rows s.rules pending rows)) None))
  IsTurn unknown waiting word rows pending fault after = fault ≡ [] → ⊥
  IsTurn plain waiting word rows pending fault after = IsTurnPlain waiting word rows pending fault after

  no_subcommand : (waiting : Waiting) (word : Text) → subcommand_met [] waiting word ≡ None
  no_subcommand idle word = refl
  no_subcommand (option id) word = refl
  no_subcommand positional word = refl

  module _ (waiting : Waiting) (word : Text) (rows : List Row) (pending : Pending) where
    abbrev met_by : Bool → Option (Text × Option Text) → Held × Step
    met_by is_dashes long =
        if is_dashes then (held rows pending, trailing 1)
        else long_or_other s.rules waiting word long (held rows pending)

    abbrev fault_by : Bool → Option (Text × Option Text) → Kinds
    fault_by is_dashes long =
        or_else (if is_dashes then [] else flag_word_fault s.rules s.args_override_self long word
        (held rows pending))
        (step_fault s 1 (met_by is_dashes long).0 (met_by is_dashes long).1)

    abbrev after_by : Bool → Option (Text × Option Text) → Walk
    after_by is_dashes long =
        after_step s.rules word (before waiting rows pending) (met_by is_dashes long).0
        (met_by is_dashes long).1

    fault_is : turn_fault s [] (before waiting rows pending) word
        ≡ fault_by (bytes_eq word (45 ∷ 45 ∷ [])) (long_of word)
    fault_is =
        ap (λ (o : Option Text). let met = subcommand_or_other s.rules o waiting 1 word (held rows pending) in
        or_else (other_fault s o word (held rows pending)) (step_fault s 1 met.0 met.1))
        (no_subcommand waiting word)

    after_is : walked s.rules [] (before waiting rows pending) word
        ≡ after_by (bytes_eq word (45 ∷ 45 ∷ [])) (long_of word)
    unfolding walked
    after_is =
        ap (λ (o : Option Text). let met = subcommand_or_other s.rules o waiting 1 word (held rows pending) in
        after_step s.rules word (before waiting rows pending) met.0 met.1) (no_subcommand waiting word)

    -- an option that is one of ours, or none
    abbrev IsLongTurn : Sort → Option Text → Option Rule → Type 0
    IsLongTurn sort value o =
        let met = long_met s.rules o value (held rows pending) in
        let flag = after_flag s.rules waiting word met.0 met.1 in
        IsTurn sort waiting word rows pending
        (or_else (long_fault s.rules s.args_override_self o value (held rows pending))
        (step_fault s 1 flag.0 flag.1))
        (after_step s.rules word (before waiting rows pending) flag.0 flag.1)

    long_turn : (key : Option Key) (value : Option Text)
        → IsLongTurn (by_key key value) value (option_map rule_for key)
    long_turn None value = λ e. never kind.UnknownArgument [] e
    long_turn (Some k) None = (
      or_else_nil (settle_fault s.rules s.args_override_self (held rows pending))
          ∙ settle_once (held rows pending),
      refl,
    )
    long_turn (Some k) (Some value) = (
      or_else_nil (or_else (settle_fault s.rules s.args_override_self (held rows pending))
          (use_fault s.args_override_self (rule_for k) (value ∷ []) (settled_rows s.rules pending rows)))
          ∙ ap (λ b. or_else (settle_fault s.rules b (held rows pending))
          (use_fault b (rule_for k) (value ∷ []) (settled_rows s.rules pending rows))) ours.again,
      refl,
    )

    -- a word with one dash, or with none
    abbrev IsShortTurn : Sort → Option Text → Type 0
    IsShortTurn sort short =
        let met = short_or_plain s.rules waiting word short (held rows pending) in
        IsTurn sort waiting word rows pending
        (or_else (option_map_or (λ flags. bundle_fault s.rules s.args_override_self flags
        (held rows pending)) short [])
        (step_fault s 1 met.0 met.1))
        (after_step s.rules word (before waiting rows pending) met.0 met.1)

  plain_turn : (waiting : Waiting) (word : Text) (rows : List Row) (pending : Pending)
      → IsShortTurn waiting word rows pending plain None
  plain_turn idle word rows pending = (file_fault rows pending, file_next false idle word rows pending)
  plain_turn positional word rows pending =
      (file_fault rows pending, file_next false positional word rows pending)
  plain_turn (option id) word rows pending = (refl, refl)

  flags_fail : (flags : Text) (x : ℕ) (h : Held) → slice_get (chars flags) 0 ≡ Some x → 0 < length flags
      → flags_fault s.rules s.args_override_self (length flags) flags 0 h ≡ kind.UnknownArgument ∷ []
  unfolding flags_fault
  flags_fail [] x h first some = absurd (omega arith)
  flags_fail (y ∷ ys) x h first some =
      ap (λ o. bundle_step_fault s.rules s.args_override_self o (y ∷ ys) 0 h
      (flags_fault s.rules s.args_override_self (length ys))) first
      ∙ ap (λ (o : Option Rule). short_fault s.rules s.args_override_self o
      (drop (length (encode_utf8 x)) (y ∷ ys)) h
      (flags_fault s.rules s.args_override_self (length ys) (drop (length (encode_utf8 x)) (y ∷ ys)) 0))
      (ours.short x)

  short_turn : (waiting : Waiting) (word : Text) (rows : List Row) (pending : Pending) (flags : Text)
      → IsUtf8 word → short_of word ≡ Some flags → IsShortTurn waiting word rows pending unknown (Some flags)
  short_turn waiting word rows pending flags utf8 is =
      let parts = dash_and_flags word flags is in
      let first = first_char flags (subst IsUtf8 parts.0 utf8) parts.1 in
      or_else_some kind.UnknownArgument [] _ _ (flags_fail flags first.0 (held rows pending) first.1 parts.1)

  pub turned : (waiting : Waiting) (word : Text) (rows : List Row) (pending : Pending) → IsUtf8 word
      → IsTurn (sort_of word) waiting word rows pending (turn_fault s [] (before waiting rows pending) word)
      (walked s.rules [] (before waiting rows pending) word)
  unfolding sort_of
  turned waiting word rows pending utf8 =
      subst (λ fault. IsTurn (sort_of word) waiting word rows pending fault
      (walked s.rules [] (before waiting rows pending) word)) (sym (fault_is waiting word rows pending))
      (subst (λ after. IsTurn (sort_of word) waiting word rows pending
      (fault_by waiting word rows pending (bytes_eq word (45 ∷ 45 ∷ [])) (long_of word)) after)
      (sym (after_is waiting word rows pending))
      (go (bytes_eq word (45 ∷ 45 ∷ [])) (long_of word)))
    where
      by_short_of : (short : Option Text) → short_of word ≡ short
          → IsShortTurn waiting word rows pending (by_short short) short
      by_short_of None e = plain_turn waiting word rows pending
      by_short_of (Some flags) e = short_turn waiting word rows pending flags utf8 e

      go : (is_dashes : Bool) (long : Option (Text × Option Text))
          → IsTurn (by_dashes is_dashes long (short_of word)) waiting word rows pending
          (fault_by waiting word rows pending is_dashes long)
          (after_by waiting word rows pending is_dashes long)
      go true long = (refl, refl)
      go false None = by_short_of (short_of word) refl
      go false (Some p) =
          subst (IsLongTurn waiting word rows pending (by_key (key_of p.0) p.1) p.1) (sym (ours.long p.0))
          (long_turn waiting word rows pending (key_of p.0) p.1)
