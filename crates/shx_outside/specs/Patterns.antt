-- Patterns: what the grammar of `regex` reads in a text under flags, and where it has a match.
use Rattle.std.specs.Prelude.{◌≡◌, ℕ, ◌<◌, ◌≤◌, Bool, false, List, Option, Some, None, is_some, option_map}
use Rattle.std.specs.Prelude.{IfSome, IsSomeAnd, chars}
use Rattle.regex.specs.Patterns.{Config, Re, default_config, find_str}
use Rattle.regex_syntax.specs.Brackets.{Nested}
use Rattle.regex_syntax.specs.Grammar.{read}
use Rattle.shx_outside.specs.declared.flags.Flags.{Flags}

-- a pattern that was built: its text, and its flags
pub record BuiltPattern : Type 0 where
  pub text : List ℕ
  pub flags : Flags

-- the options of `regex`: its own, and the flags
abbrev pub options_of : Flags → Config
options_of flags =
    record default_config {
      flags = record default_config.flags {
        case_insensitive = flags.i;
        multi_line = flags.m;
        dot_matches_new_line = flags.s;
        ignore_whitespace = flags.x;
      };
    }

-- what the grammar of `regex` reads in the text, if it reads a pattern, and how deep that nests
abbrev pub pattern_read : List ℕ → Flags → Option (Nested Re)
pattern_read text flags = option_map (λ (pattern, names). pattern) (read (options_of flags) (chars text))

-- the text is a pattern: the grammar reads it, and it nests no deeper than `regex` allows
abbrev pub IsPattern : List ℕ → Flags → Type 0
IsPattern text flags =
    IsSomeAnd (pattern_read text flags) (λ pattern. pattern.depth ≤ (options_of flags).nest_limit)

-- the grammar does not read the text, or the pattern nests deeper than `regex` allows
abbrev pub IsNoPattern : List ℕ → Flags → Type 0
IsNoPattern text flags =
    IfSome (pattern_read text flags) (λ pattern. (options_of flags).nest_limit < pattern.depth)

-- whether what was read has a match in a text: `regex` finds one
abbrev pub has_match : Option (Nested Re) → List ℕ → Bool
has_match (Some pattern) text = is_some (find_str pattern.value text 0)
has_match None text = false

-- whether a text, as a pattern under these flags, has a match in another
abbrev pub is_matched : List ℕ → Flags → List ℕ → Bool
is_matched pattern flags text = has_match (pattern_read pattern flags) text

-- the pattern was built of this text, which is one, with these flags
pub record IsBuiltOf (text : List ℕ) (flags : Flags) (pattern : BuiltPattern) : Type 0 where
  pub text_is : pattern.text ≡ text
  pub flags_are : pattern.flags ≡ flags
  pub is_pattern : IsPattern text flags
