-- The blank nodes that a shapes text may have: whoever knows nothing of that text knows their names.
use Rattle.std.specs.Prelude.{◌≡◌, ℕ, ◌<◌, ◌≤◌, ◌^◌, List, ◌++◌, codes, length}
use Rattle.shx_term.specs.declared.term.BlankName.{BlankName}
use Rattle.shx_term.specs.declared.term.LocalName.{LocalName}
use Rattle.shx_term.specs.declared.term.LocalName.TheVariants.{Labelled, Anonymous}
use Rattle.shx_term.specs.declared.term.Scope.TheVariants.{Shapes}
use Rattle.ttl_tokens.specs.declared.token.Token.{Token}
use Rattle.ttl_tokens.specs.declared.token.TokenKind.TheVariants.{BlankLabel}
use Rattle.ttl_tokens.specs.Tokens.{IsTokenAt}

-- behind `_:` it is the whole label of a blank node (Turtle 1.1, section 6.5)
pub record IsLabel (label : List ℕ) : Type 0 where
  pub token : Token
  pub begins : IsTokenAt (codes "_:" ++ label) 0 token
  pub kind : token.kind ≡ BlankLabel
  pub whole : token.end ≡ length (codes "_:" ++ label)

-- a label, or a number from 1
abbrev pub MayBeName : LocalName → Type 0
MayBeName (Labelled label) = IsLabel label
MayBeName (Anonymous number) = (1 ≤ number) × (number < 2 ^ 32)

abbrev pub MayBeOfShapes : BlankName → Type 0
MayBeOfShapes node = (node.scope ≡ Shapes) × MayBeName node.name
