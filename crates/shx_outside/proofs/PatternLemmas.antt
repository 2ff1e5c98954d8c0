-- What `regex` says of a pattern that it built, or did not build, in the words of what its grammar reads.
use Rattle.std.specs.Prelude.{◌≡◌, ◌≢◌, ◌⊎◌, ℕ, ◌<◌, ◌≤◌, List, Option, Some, None, length, is_some}
use Rattle.std.specs.Prelude.{option_map, true, IfSome, IsSomeAnd, chars, get_or}
use Rattle.std.proofs.Common.{sym, ap, ◌∙◌, subst, inl, inr}
use Rattle.std.proofs.lemmas.Option.{none-some}
use Rattle.regex.specs.Names.{names_of}
use Rattle.regex.specs.Patterns.{Re, SameCaptures, Reads, Refuses, find_str}
use Rattle.regex.specs.Strings.{regex_pattern, regex_source, regex_config, IsReadFromSource}
use Rattle.regex.specs.declared.string.regex.Regex.{Regex}
use Rattle.regex.proofs.ForCallers.{is_match_alike}
use Rattle.regex_syntax.specs.Brackets.{Nested}
use Rattle.regex_syntax.specs.Grammar.{Names, group_count, read}
use Rattle.regex_syntax.specs.declared.Config.{Config}
use Rattle.regex_syntax.specs.declared.error.ErrorKind.{ErrorKind}
use Rattle.regex_syntax.specs.declared.error.ErrorKind.TheVariants.{OutOfMemory}
use Rattle.shx_outside.specs.declared.flags.Flags.{Flags}
use Rattle.shx_outside.specs.Patterns.{IsNoPattern, IsPattern, has_match, options_of}
use Rattle.shx_outside.specs.inner.Found.{FindsAs}

abbrev first : Option (Nested Re × Names) → Option (Nested Re)
first = option_map (λ (pattern, names). pattern)

-- the tree that was read
module _ (most : ℕ) (tree : Re) (names : Names) where
  abbrev IsReadAs : Option (Nested Re × Names) → Type 0
  IsReadAs read = IsSomeAnd read (λ (re, found).
      (re.depth ≤ most) × SameCaptures tree re.value × (names ≡ found) × (group_count tree ≤ length names))

  read_within : (read : Option (Nested Re × Names)) → IsReadAs read
      → IsSomeAnd (first read) (λ pattern. pattern.depth ≤ most)
  read_within None is = absurd is
  read_within (Some found) is = is.0

  read_finds : (read : Option (Nested Re × Names)) → IsReadAs read
      → (text : List ℕ) → ((k : ℕ) → get_or text k 0 < 256)
      → is_some (find_str tree text 0) ≡ has_match (first read) text
  read_finds None is text bytes = absurd is
  read_finds (Some found) is text bytes = is_match_alike is.1 text bytes true 0

module _ (regex : Regex) (flags : Flags) (options : regex_config regex ≡ options_of flags)
    (is_read : IsReadFromSource regex) where
  abbrev source : List ℕ
  source = regex_source regex

  abbrev names : Names
  names = names_of regex.pattern.names.items

  abbrev found : Config → Option (Nested Re × Names)
  found config = read config (chars source)

  pub regex_is_pattern : IsPattern source flags
  unfolding Reads
  regex_is_pattern =
      let most = (regex_config regex).nest_limit in
      subst (λ (c : Config). IsSomeAnd (first (found c)) (λ pattern. pattern.depth ≤ c.nest_limit)) options
      (read_within most (regex_pattern regex) names (found (regex_config regex)) is_read)

  pub regex_finds : FindsAs (regex_pattern regex) (record { text = source; flags = flags })
  unfolding Reads
  regex_finds value bytes =
      let most = (regex_config regex).nest_limit in
      read_finds most (regex_pattern regex) names (found (regex_config regex)) is_read value bytes
      ∙ ap (λ (c : Config). has_match (first (found c)) value) options

none_where : (most : ℕ) (read : Option (Nested Re × Names)) → (read ≡ None)
    ⊎ IfSome read (λ (re, _). most < re.depth) → IfSome (first read) (λ pattern. most < pattern.depth)
none_where most None is = tt
none_where most (Some found) (inl none) = absurd (none-some found (sym none))
none_where most (Some found) (inr deep) = deep

-- an error of the grammar is one of a text that is no pattern
pub refused_is_none : (config : Config) (flags : Flags) (text : List ℕ) (kind : ErrorKind)
    → config ≡ options_of flags → Refuses config text kind → kind ≢ OutOfMemory → IsNoPattern text flags
unfolding Refuses
refused_is_none config flags text kind same refuses memory =
    subst
    (λ (c : Config). IfSome (first (read c (chars text))) (λ pattern. c.nest_limit < pattern.depth)) same
    (elim refuses [
      | inl out ↦ absurd (memory out)
      | inr rest ↦ none_where config.nest_limit (read config (chars text)) (elim rest [
        | inl none ↦ inl none
        | inr deep ↦ inr deep.1
      ])
    ])
