-- What the words said so far, as rows of matches, and the kinds of one more use.
use Rattle.std.proofs.Common.{◌≡◌, ◌∙◌, true, false, ◌&&◌, List, [], ◌∷◌, ◌++◌, Option, Some, None, codes}
use Rattle.std.proofs.Common.{is_some, option_map, unwrap_or, refl, sym, ap, subst, if◌then◌else◌}
use Rattle.clap.specs.Walk.{Row, Text, all_of, used, reading_by, with_values}
use Rattle.clap.specs.Kinds.{or_else}
use Rattle.clap.specs.Faults.{use_fault}
use Rattle.clap.specs.declared.error.kind.ErrorKind.TheVariants as kind
use Rattle.clap.specs.declared.parser.matches.ValueSource.TheVariants.{CommandLine}
use Rattle.command_words.specs.Words.{Seen, with_files}
use Rattle.command_words.specs.inner.Found.{some_files}
use Rattle.command_words.proofs.RowLemmas.{has_row-all_of, values_of_other, values_of_put, without_absent}
use Rattle.command_words.proofs.SortLemmas.{Key, base_key, format_key, name_of, with_key}
use Rattle.command_words.proofs.TurnLemmas.{files_built, rule_for}

abbrev pub value_of : Key → Seen → Option Text
value_of format_key seen = seen.format
value_of base_key seen = seen.base

abbrev pub put : Key → Text → Seen → Seen
put format_key value seen = record seen { format = Some value }
put base_key value seen = record seen { base = Some value }

pub put_first : (k : Key) (value : Text) (seen : Seen) → value_of k seen ≡ None
    → with_key k value seen ≡ Some (put k value seen)
put_first format_key value seen e =
    ap (λ (o : Option Text). if is_some o then None else Some (put format_key value seen)) e
put_first base_key value seen e =
    ap (λ (o : Option Text). if is_some o then None else Some (put base_key value seen)) e

pub put_again : (k : Key) (value old : Text) (seen : Seen) → value_of k seen ≡ Some old
    → with_key k value seen ≡ None
put_again format_key value old seen e =
    ap (λ (o : Option Text). if is_some o then None else Some (put format_key value seen)) e
put_again base_key value old seen e =
    ap (λ (o : Option Text). if is_some o then None else Some (put base_key value seen)) e

pub record Stands (seen : Seen) (rows : List Row) : Type 0 where
  pub options : (k : Key) → all_of (name_of k) rows ≡ option_map (λ value. value ∷ []) (value_of k seen)
  pub files : all_of (codes "files") rows ≡ some_files seen.files

option_added : (k j : Key) (value : Text) (seen : Seen) (rows : List Row) → Stands seen rows
    → value_of k seen ≡ None
    → all_of (name_of j) (with_values (name_of k) (reading_by (rule_for k)) CommandLine (value ∷ []) rows)
    ≡ option_map (λ v. v ∷ []) (value_of j (put k value seen))
option_added format_key format_key value seen rows h e =
    values_of_put (codes "format") _ CommandLine (value ∷ []) rows
    ∙ ap (λ o. Some (unwrap_or o [] ++ value ∷ [])) (h.options format_key ∙ ap (option_map (λ v. v ∷ [])) e)
option_added base_key base_key value seen rows h e =
    values_of_put (codes "base") _ CommandLine (value ∷ []) rows
    ∙ ap (λ o. Some (unwrap_or o [] ++ value ∷ [])) (h.options base_key ∙ ap (option_map (λ v. v ∷ [])) e)
option_added format_key base_key value seen rows h e =
    values_of_other (codes "format") _ CommandLine (value ∷ []) (codes "base") refl rows ∙ h.options base_key
option_added base_key format_key value seen rows h e =
    values_of_other (codes "base") _ CommandLine (value ∷ []) (codes "format") refl rows
    ∙ h.options format_key

files_stay : (k : Key) (value : Text) (seen : Seen) (rows : List Row) → Stands seen rows
    → all_of (codes "files") (with_values (name_of k) (reading_by (rule_for k)) CommandLine (value ∷ []) rows)
    ≡ some_files (put k value seen).files
files_stay format_key value seen rows h =
    values_of_other (codes "format") _ CommandLine (value ∷ []) (codes "files") refl rows ∙ h.files
files_stay base_key value seen rows h =
    values_of_other (codes "base") _ CommandLine (value ∷ []) (codes "files") refl rows ∙ h.files

pub option_stands : (k : Key) (value : Text) (seen : Seen) (rows : List Row) → Stands seen rows
    → value_of k seen ≡ None
    → Stands (put k value seen) (used (rule_for k) (value ∷ []) rows)
option_stands k value seen rows h e =
    let absent = without_absent (name_of k) rows (h.options k ∙ ap (option_map (λ v. v ∷ [])) e) in
    subst (λ rs. Stands (put k value seen)
    (with_values (name_of k) (reading_by (rule_for k)) CommandLine (value ∷ []) rs))
    (sym absent) (record {
      options = λ j. option_added k j value seen rows h e;
      files = files_stay k value seen rows h;
    })

file_added : (word : Text) (files : List Text)
    → Some (unwrap_or (some_files files) [] ++ word ∷ []) ≡ some_files (files ++ word ∷ [])
file_added word [] = refl
file_added word (f ∷ fs) = refl

options_stay : (k : Key) (word : Text) (seen : Seen) (rows : List Row) → Stands seen rows
    → all_of (name_of k) (used files_built (word ∷ []) rows)
    ≡ option_map (λ v. v ∷ []) (value_of k (with_files (word ∷ []) seen))
options_stay format_key word seen rows h =
    values_of_other (codes "files") _ CommandLine (word ∷ []) (codes "format") refl rows
    ∙ h.options format_key
options_stay base_key word seen rows h =
    values_of_other (codes "files") _ CommandLine (word ∷ []) (codes "base") refl rows ∙ h.options base_key

pub file_stands : (word : Text) (seen : Seen) (rows : List Row) → Stands seen rows
    → Stands (with_files (word ∷ []) seen) (used files_built (word ∷ []) rows)
file_stands word seen rows h = record {
  options = λ k. options_stay k word seen rows h;
  files = values_of_put (codes "files") _ CommandLine (word ∷ []) rows
      ∙ ap (λ o. Some (unwrap_or o [] ++ word ∷ [])) h.files ∙ file_added word seen.files;
}

-- ---- the kinds of a use

pub used_first : (k : Key) (value : Text) (seen : Seen) (rows : List Row) → Stands seen rows
    → value_of k seen ≡ None
    → use_fault false (rule_for k) (value ∷ []) rows ≡ []
used_first k value seen rows h e =
    ap (λ b. or_else (if b && true then kind.ArgumentConflict ∷ [] else []) [])
    (has_row-all_of (name_of k) rows ∙ ap is_some (h.options k ∙ ap (option_map (λ v. v ∷ [])) e))

pub used_again : (k : Key) (value old : Text) (seen : Seen) (rows : List Row) → Stands seen rows
    → value_of k seen ≡ Some old
    → use_fault false (rule_for k) (value ∷ []) rows ≡ kind.ArgumentConflict ∷ []
used_again k value old seen rows h e =
    ap (λ b. or_else (if b && true then kind.ArgumentConflict ∷ [] else []) [])
    (has_row-all_of (name_of k) rows ∙ ap is_some (h.options k ∙ ap (option_map (λ v. v ∷ [])) e))
