-- Which form of a path a node has (SHACL, section 2.3.1), judged as if each node inside it were a path.
use Rattle.std.specs.Prelude.{ℕ, ◌==◌, List, [], ◌∷◌, Option, Some, None, slice_get, if◌then◌else◌}
use Rattle.shx_term.specs.declared.term.Term.{Term}
use Rattle.shx_term.specs.declared.term.Term.TheVariants.{Iri, Blank, Lit}
use Rattle.shx_term.specs.declared.triple.Triple.{Triple}
use Rattle.shx_term.specs.declared.vocabulary.TheConstants.{SH_ALTERNATIVE_PATH, SH_INVERSE_PATH}
use Rattle.shx_term.specs.declared.vocabulary.TheConstants.{SH_ZERO_OR_MORE_PATH, SH_ONE_OR_MORE_PATH}
use Rattle.shx_term.specs.declared.vocabulary.TheConstants.{SH_ZERO_OR_ONE_PATH}
use Rattle.graph_view.specs.Graph.{Graph, triples_of}
use Rattle.shape_decl.specs.Lists.{list_of}

pub data PathForm : Type 0 where
  -- an IRI
  Predicate : PathForm
  Sequence : List ℕ → PathForm
  Alternative : List ℕ → PathForm
  Inverse : ℕ → PathForm
  ZeroOrMore : ℕ → PathForm
  OneOrMore : ℕ → PathForm
  ZeroOrOne : ℕ → PathForm
  Formless : PathForm

-- the nodes inside it that stand in the place of a path
abbrev pub parts_in : PathForm → List ℕ
parts_in Predicate = []
parts_in (Sequence nodes) = nodes
parts_in (Alternative nodes) = nodes
parts_in (Inverse node) = node ∷ []
parts_in (ZeroOrMore node) = node ∷ []
parts_in (OneOrMore node) = node ∷ []
parts_in (ZeroOrOne node) = node ∷ []
parts_in Formless = []

-- a list of at least two members makes a form
abbrev pub several : (List ℕ → PathForm) → Option (List ℕ) → PathForm → PathForm
several form (Some (a ∷ b ∷ nodes)) other = form (a ∷ b ∷ nodes)
several form list other = other

-- the form that a blank node has by its only triple
abbrev pub form_by_triple : Graph → Triple → PathForm
form_by_triple g t =
    if t.p == SH_INVERSE_PATH then Inverse t.o
    else if t.p == SH_ALTERNATIVE_PATH then several Alternative (list_of g t.o) Formless
    else if t.p == SH_ZERO_OR_MORE_PATH then ZeroOrMore t.o
    else if t.p == SH_ONE_OR_MORE_PATH then OneOrMore t.o
    else if t.p == SH_ZERO_OR_ONE_PATH then ZeroOrOne t.o
    else Formless

abbrev pub form_by_triples : Graph → List Triple → PathForm
form_by_triples g (t ∷ []) = form_by_triple g t
form_by_triples g triples = Formless

abbrev pub form_of_term : Graph → ℕ → Option Term → PathForm
form_of_term g node (Some (Iri iri)) = Predicate
form_of_term g node (Some (Blank name)) =
    several Sequence (list_of g node) (form_by_triples g (triples_of g node))
form_of_term g node (Some (Lit literal)) = Formless
form_of_term g node None = Formless

unfoldable pub form_of : Graph → ℕ → PathForm
form_of g node = form_of_term g node (slice_get g.terms node)
