-- Edits: what they state.
use Rattle.shx_term.specs.declared.edit.Edit.{Edit}
use Rattle.shx_term.specs.declared.edit.Edit.TheVariants.{Insert, Remove}
use Rattle.shx_term.specs.declared.triple.TermTriple.{TermTriple}
use Rattle.shx_term.specs.ValidTriples.{IsValidTermTriple}

-- the triple that is inserted or removed
abbrev pub stated_by : Edit → TermTriple
stated_by (Insert t) = t
stated_by (Remove t) = t

-- it is valid
abbrev pub IsValidEdit : Edit → Type 0
IsValidEdit edit = IsValidTermTriple (stated_by edit)
