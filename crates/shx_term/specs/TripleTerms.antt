-- Triples of terms, when two are the same, and the same triples over the numbers of their terms.
use Rattle.std.specs.Prelude.{ℕ, Bool, ◌&&◌, List, [], ◌∷◌, flat_map, Option, Some, None, position}
use Rattle.std.specs.List.{filter_map}
use Rattle.shx_term.specs.declared.term.Term.{Term}
use Rattle.shx_term.specs.declared.triple.Triple.{Triple}
use Rattle.shx_term.specs.declared.triple.TermTriple.{TermTriple}
use Rattle.shx_term.specs.TermOrder.{same_term}

abbrev pub same_term_triple : TermTriple → TermTriple → Bool
same_term_triple t u = same_term t.s u.s && (same_term t.p u.p && same_term t.o u.o)

-- the terms that triples need, in their order
abbrev pub terms_of : List TermTriple → List Term
terms_of triples = flat_map (λ t. t.s ∷ (t.p ∷ (t.o ∷ []))) triples

-- the number of a term is its place; a term that is not held has none
abbrev pub number_in : List Term → Term → Option ℕ
number_in terms t = position (same_term t) terms

abbrev pub triple_of_numbers : Option ℕ → Option ℕ → Option ℕ → Option Triple
triple_of_numbers (Some s) (Some p) (Some o) = Some (record { s = s; p = p; o = o })
triple_of_numbers (Some s) (Some p) None = None
triple_of_numbers (Some s) None o = None
triple_of_numbers None p o = None

-- a triple over the numbers of its terms, where all three are held
abbrev pub numbered : List Term → TermTriple → Option Triple
numbered terms t = triple_of_numbers (number_in terms t.s) (number_in terms t.p) (number_in terms t.o)

-- those triples of a list whose terms are held, over their numbers
abbrev pub numbered_all : List Term → List TermTriple → List Triple
numbered_all terms triples = filter_map (numbered terms) triples
