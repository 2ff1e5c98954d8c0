-- The terms of a triple that are held, and the triple of their numbers.
use Rattle.std.specs.Prelude.{◌≡◌, true, List, Option}
use Rattle.std.specs.Option.{is_some}
use Rattle.shx_term.specs.declared.term.Term.{Term}
use Rattle.shx_term.specs.declared.triple.Triple.{Triple}
use Rattle.shx_term.specs.declared.triple.TermTriple.{TermTriple}
use Rattle.shx_term.specs.TripleTerms.{number_in, numbered, triple_of_numbers}
use Rattle.edit_engine.specs.declared.stated.HeldTerms.{HeldTerms}

-- what was found is the numbers of the triple's terms
pub record IsFound (terms : List Term) (t : TermTriple) (found : HeldTerms) : Type 0 where
  pub s : found.s ≡ number_in terms t.s
  pub p : found.p ≡ number_in terms t.p
  pub o : found.o ≡ number_in terms t.o

abbrev pub found_triple : HeldTerms → Option Triple
found_triple found = triple_of_numbers found.s found.p found.o

-- all terms of the triple are held
abbrev pub HasNumbers : List Term → TermTriple → Type 0
HasNumbers terms t = is_some (numbered terms t) ≡ true
