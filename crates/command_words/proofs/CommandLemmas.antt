-- The built command is as `TurnLemmas` reads it, and its matches are what the definition reads.
use Rattle.std.proofs.Common.{◌≡◌, ◌∙◌, Bool, true, false, cond, ◌||◌, List, [], ◌∷◌, Option, Some, None}
use Rattle.std.proofs.Common.{codes, bytes_eq, fold, is_some, option_map, option_and_then, slice_get, refl}
use Rattle.std.proofs.Common.{sym, ap, ap₂, subst, if◌then◌else◌}
use Rattle.clap.specs.Matches.{first_value}
use Rattle.clap.specs.Walk.{Row, Rule, Text, all_of, arg_by_id, arg_by_long, default_rows, finished, first_of}
use Rattle.clap.specs.Walk.{has_row, idle, reading_by, rows_of, settled, with_default}
use Rattle.clap.specs.Simple.{Shape, built, entered, matches_of}
use Rattle.clap.specs.Kinds.{IsAmong, Kinds, or_else}
use Rattle.clap.specs.Faults.{check_fault, defaults_fault, entered_fault, fault_of, settle_fault, walk_fault}
use Rattle.clap.specs.declared.error.kind.ErrorKind.{ErrorKind}
use Rattle.clap.specs.declared.parser.matches.Found.{Found}
use Rattle.clap.proofs.WalkLemmas.{first_value-rows, raw_values-rows}
use Rattle.command_words.specs.Words.{Seen, nothing_seen, read_from}
use Rattle.command_words.specs.inner.Command.{command_app}
use Rattle.command_words.specs.inner.Found.{AreRead, HasSeen}
use Rattle.command_words.proofs.RowLemmas.{first_of-all_of}
use Rattle.command_words.proofs.SortLemmas.{Key, base_key, format_key, key_of, name_of}
use Rattle.command_words.proofs.TurnLemmas.{IsOurs, before, files_built, or_else_parts, rule_for}
use Rattle.command_words.proofs.ReadLemmas.{AreAllowed, Ends, HasEnded, end_of, reads_all, rest_fault}
use Rattle.command_words.proofs.StandLemmas.{Stands, value_of}

abbrev pub top : Shape
top = (built command_app).top

same_either_way : {A : Type 0} (b : Bool) (x : A) → cond b x x ≡ x
same_either_way true x = refl
same_either_way false x = refl

no_default : (rows : List Row) (a : Rule) → a.defaults ≡ [] → with_default rows a ≡ rows
no_default rows a none =
    ap (λ values. if has_row a.id rows then rows else default_rows a.id (reading_by a) values rows) none
    ∙ same_either_way (has_row a.id rows) rows

or_true : (b : Bool) (x : Kinds) → (if b || true then [] else x) ≡ []
or_true true x = refl
or_true false x = refl

our_long : (name : Text) → arg_by_long top.rules name ≡ option_map rule_for (key_of name)
our_long name = go (bytes_eq (codes "format") name) (bytes_eq (codes "base") name)
  where
    go : (b c : Bool) → cond (b || false) (Some (rule_for format_key))
        (cond (c || false) (Some (rule_for base_key)) None)
        ≡ option_map rule_for (if b then Some format_key else (if c then Some base_key else None))
    go true c = refl
    go false true = refl
    go false false = refl

our_key : (k : Key) → arg_by_id top.rules (name_of k) ≡ Some (rule_for k)
our_key format_key = refl
our_key base_key = refl

our_defaults : (rows : List Row) → fold with_default rows top.rules ≡ rows
our_defaults rows =
    ap (λ rs. with_default (with_default rs (rule_for base_key)) files_built)
    (no_default rows (rule_for format_key) refl)
    ∙ ap (λ rs. with_default rs files_built) (no_default rows (rule_for base_key) refl)
    ∙ no_default rows files_built refl

our_default_fault : (rows : List Row) → defaults_fault rows top.rules ≡ []
unfolding defaults_fault
our_default_fault rows =
    let first = with_default rows (rule_for format_key) in
    let second = with_default first (rule_for base_key) in
    ap₂ or_else (or_true (has_row (codes "format") rows) _)
    (ap₂ or_else (or_true (has_row (codes "base") first) _)
    (ap₂ or_else (or_true (has_row (codes "files") second) _) refl))

pub ours : IsOurs top
ours = record {
  again = refl;
  long = our_long;
  short = λ x. refl;
  key = our_key;
  files = refl;
  place = refl;
  defaults = our_defaults;
  no_default_fault = our_default_fault;
  no_check_fault = λ rows. refl;
}

-- ---- what a parse says of the words

past_below : (a b c d : Kinds) → or_else a (or_else b (or_else c d)) ≡ [] → or_else a c ≡ []
past_below a b c d e =
    let first = or_else_parts a (or_else b (or_else c d)) e in
    let below = or_else_parts b (or_else c d) first.1 in
    ap₂ or_else first.0 (or_else_parts c d below.1).0

quiet_walk : (words : List Text) → fault_of command_app words ≡ []
    → rest_fault top ours (before idle [] None) words ≡ []
quiet_walk words e =
    let end = end_of top ours (before idle [] None) words in
    past_below (walk_fault top [] (before idle [] None) words) (entered_fault (built command_app) end.stopped)
    (settle_fault top.rules false end.held)
    (or_else (defaults_fault (settled top.rules end.held).rows top.rules)
    (check_fault top (finished top.rules end.held) (is_some (entered (built command_app) end.stopped)))) e

quiet_parse : (seen : Seen) (words : List Text) → HasEnded top ours seen (before idle [] None) words
    → fault_of command_app words ≡ []
quiet_parse seen words h =
    let end = end_of top ours (before idle [] None) words in
    let parts = or_else_parts (walk_fault top [] (before idle [] None) words)
    (settle_fault top.rules false end.held) h.quiet in
    ap (λ o. or_else (walk_fault top [] (before idle [] None) words)
    (or_else (entered_fault (built command_app) o)
    (or_else (settle_fault top.rules false end.held)
    (or_else (defaults_fault (settled top.rules end.held).rows top.rules)
    (check_fault top (finished top.rules end.held)
    (is_some (entered (built command_app) o))))))) h.no_subcommand
    ∙ ap₂ or_else parts.0 (ap₂ or_else parts.1
    (ap₂ or_else (ours.no_default_fault (settled top.rules end.held).rows)
    (ours.no_check_fault (finished top.rules end.held))))

first_is : (o : Option Text)
    → option_and_then (λ values. slice_get values 0) (option_map (λ value. value ∷ []) o) ≡ o
first_is None = refl
first_is (Some value) = refl

has_seen : (found : Found) (seen : Seen) (rows : List Row) → rows_of found ≡ rows → Stands seen rows
    → HasSeen found seen
has_seen found seen rows is h = record {
  format = option (codes "format") format_key refl;
  base = option (codes "base") base_key refl;
  files = raw_values-rows found (codes "files") ∙ ap (all_of (codes "files")) is ∙ h.files;
}
  where
    option : (id : Text) (k : Key) → name_of k ≡ id → first_value found id ≡ value_of k seen
    option id k e =
        first_value-rows found id ∙ ap (first_of id) is ∙ first_of-all_of id rows
        ∙ ap (λ n. option_and_then (λ values. slice_get values 0) (all_of n rows)) (sym e)
        ∙ ap (option_and_then (λ values. slice_get values 0)) (h.options k) ∙ first_is (value_of k seen)

-- matches come only where the words have a reading, and hold it
pub read_at_ok : (words : List Text) (found : Found) → AreAllowed words → fault_of command_app words ≡ []
    → rows_of found ≡ matches_of command_app words
    → AreRead (Some found) (read_from nothing_seen words)
read_at_ok words found allowed quiet rows =
    go (read_from nothing_seen words) (reads_all top ours words allowed)
  where
    go : (r : Option Seen) → Ends top ours r (before idle [] None) words → AreRead (Some found) r
    go None h = absurd (h (quiet_walk words quiet))
    go (Some seen) h = has_seen found seen _ (rows ∙ our_defaults _) h.stands

-- and a refusal only where they have none
pub read_at_err : (words : List Text) (k : ErrorKind) → AreAllowed words
    → IsAmong k (fault_of command_app words) → AreRead None (read_from nothing_seen words)
read_at_err words k allowed among =
    go (read_from nothing_seen words) (reads_all top ours words allowed)
  where
    go : (r : Option Seen) → Ends top ours r (before idle [] None) words → AreRead None r
    go None h = tt
    go (Some seen) h = absurd (subst (IsAmong k) (quiet_parse seen words h) among)
