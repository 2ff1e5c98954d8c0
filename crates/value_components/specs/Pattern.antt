-- sh:pattern with sh:flags (SHACL, section 4.4.3).
use Rattle.std.specs.Prelude.{ℕ, Bool, List}
use Rattle.shx_term.specs.declared.term.Term.{Term}
use Rattle.graph_view.specs.Graph.{Graph}
use Rattle.shx_outside.specs.Patterns.{is_matched}
use Rattle.shx_outside.specs.declared.flags.Flags.{Flags}
use Rattle.comp_core.specs.declared.pair.At.{At}
use Rattle.comp_core.specs.declared.row.ResultRow.{ResultRow}
use Rattle.comp_core.specs.declared.kinds.TheConstants.{PATTERN}
use Rattle.value_components.specs.declared.pattern.Pattern.{Pattern}
use Rattle.comp_core.specs.Results.{each_unless}
use Rattle.comp_core.specs.TermTests.{is_so, is_so_at}
use Rattle.value_components.specs.Texts.{text_of}

-- the term has a text, in which the pattern has a match
abbrev pub has_match : List ℕ → Flags → Term → Bool
has_match pattern flags t = is_so (is_matched pattern flags) (text_of t)

-- a result for each value node that is blank or in whose text the pattern has no match
abbrev pub pattern_hits : Pattern → Graph → At → List ℕ → List ResultRow
pattern_hits c g at vs = each_unless (is_so_at (has_match c.built.text c.built.flags) g) PATTERN at vs
