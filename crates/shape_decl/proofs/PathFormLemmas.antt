-- The form that is read of a node is the form that it has in the Recommendation's words.
use Rattle.std.specs.Prelude.{◌≡◌, ℕ, ◌≤◌, ◌==◌, Bool, true, false, List, [], ◌∷◌, length, if◌then◌else◌}
use Rattle.std.specs.Prelude.{Option, Some, None, Contains, slice_get}
use Rattle.std.proofs.Common.{refl, sym, ap, ◌∙◌, subst, arith}
use Rattle.std.proofs.lemmas.Bool.{eqb-false, eqb-true}
use Rattle.shx_term.specs.declared.term.Term.{Term}
use Rattle.shx_term.specs.declared.term.Term.TheVariants.{Iri, Blank, Lit}
use Rattle.shx_term.specs.declared.triple.Triple.{Triple}
use Rattle.shx_term.specs.declared.vocabulary.TheConstants.{RDF_FIRST}
use Rattle.shx_term.specs.declared.vocabulary.TheConstants.{SH_ALTERNATIVE_PATH, SH_INVERSE_PATH}
use Rattle.shx_term.specs.declared.vocabulary.TheConstants.{SH_ZERO_OR_MORE_PATH, SH_ONE_OR_MORE_PATH}
use Rattle.shx_term.specs.declared.vocabulary.TheConstants.{SH_ZERO_OR_ONE_PATH}
use Rattle.shx_term.specs.inner.TripleLaws.{triple_is}
use Rattle.shx_term.specs.TermKinds.{is_iri}
use Rattle.shx_term.proofs.MemberLemmas.{Contains-head, Contains-one}
use Rattle.graph_view.specs.Graph.{Graph, triples_of}
use Rattle.graph_view.proofs.LookUpLemmas.{Contains-triples_of}
use Rattle.shape_decl.specs.Lists.{list_of}
use Rattle.shape_decl.specs.PathForms.{PathForm, Predicate, Sequence, Alternative, Inverse, ZeroOrMore}
use Rattle.shape_decl.specs.PathForms.{OneOrMore, ZeroOrOne, Formless, several, form_by_triple}
use Rattle.shape_decl.specs.PathForms.{form_by_triples, form_of_term, form_of}
use Rattle.shape_decl.specs.PathReadings.{fault_of_form}
use Rattle.shape_decl.specs.Paths.{IsIri, IsBlank, StatesOnly, IsListOfSeveral}
use Rattle.shape_decl.proofs.ListLemmas.{first_stated, lists_read}

-- a node has the form, in the Recommendation's words
abbrev pub HasForm : Graph → ℕ → PathForm → Type 0
HasForm g node Predicate = IsIri g node
HasForm g node (Sequence nodes) = IsBlank g node × IsListOfSeveral g node nodes
HasForm g node (Alternative nodes) =
    (head : ℕ) × StatesOnly g node SH_ALTERNATIVE_PATH head × IsListOfSeveral g head nodes
HasForm g node (Inverse inside) = StatesOnly g node SH_INVERSE_PATH inside
HasForm g node (ZeroOrMore inside) = StatesOnly g node SH_ZERO_OR_MORE_PATH inside
HasForm g node (OneOrMore inside) = StatesOnly g node SH_ONE_OR_MORE_PATH inside
HasForm g node (ZeroOrOne inside) = StatesOnly g node SH_ZERO_OR_ONE_PATH inside
HasForm g node Formless = ⊥

-- so it is at no fault
pub form_sound : (g : Graph) (node : ℕ) (form : PathForm) → HasForm g node form → fault_of_form form ≡ None
form_sound g node Formless has = absurd has
form_sound g node form has = refl

module _ (g : Graph) (node : ℕ) where
  -- ---- what is read is so

  abbrev IsSound : PathForm → Type 0
  IsSound form = fault_of_form form ≡ None → HasForm g node form

  formless_sound : IsSound Formless
  formless_sound e = cc

  choice_sound : (b : Bool) (form other : PathForm) → (b ≡ true → IsSound form) → IsSound other
      → IsSound (if b then form else other)
  choice_sound true form other so apart = so refl
  choice_sound false form other so apart = apart

  several_sound : (make : List ℕ → PathForm) (head : ℕ) (other : PathForm)
      → ((members : List ℕ) → IsListOfSeveral g head members → HasForm g node (make members))
      → IsSound other → IsSound (several make (list_of g head) other)
  several_sound make head other so apart = at_list (list_of g head) refl
    where
      at_list : (list : Option (List ℕ)) → list_of g head ≡ list → IsSound (several make list other)
      at_list (Some (a ∷ b ∷ more)) e =
          λ _. so (a ∷ b ∷ more) ((lists_read g head (a ∷ b ∷ more)).0 e, omega arith)
      at_list list e = apart

  sound_by_triple : (t : Triple) → IsBlank g node → triples_of g node ≡ t ∷ []
      → IsSound (form_by_triple g t)
  sound_by_triple t blank only =
      let among = subst (λ ts. Contains ts t) (sym only) (Contains-head t []) in
      let subject : t.s ≡ node = ((Contains-triples_of g node t).0 among).1 in
      let states : (p : ℕ) → (t.p == p) ≡ true → StatesOnly g node p t.o =
      λ p e. (
        blank,
        only ∙ ap (λ u. u ∷ [])
            (triple_is t (record { s = node; p = p; o = t.o }) subject (eqb-true t.p p e) refl),
      ) in
      choice_sound (t.p == SH_INVERSE_PATH) (Inverse t.o) _ (λ e _. states SH_INVERSE_PATH e)
      (choice_sound (t.p == SH_ALTERNATIVE_PATH) (several Alternative (list_of g t.o) Formless) _
      (λ e. several_sound Alternative t.o Formless
      (λ members list. (t.o, states SH_ALTERNATIVE_PATH e, list)) formless_sound)
      (choice_sound (t.p == SH_ZERO_OR_MORE_PATH) (ZeroOrMore t.o) _ (λ e _. states SH_ZERO_OR_MORE_PATH e)
      (choice_sound (t.p == SH_ONE_OR_MORE_PATH) (OneOrMore t.o) _ (λ e _. states SH_ONE_OR_MORE_PATH e)
      (choice_sound (t.p == SH_ZERO_OR_ONE_PATH) (ZeroOrOne t.o) Formless
      (λ e _. states SH_ZERO_OR_ONE_PATH e) formless_sound))))

  sound_by_triples : (ts : List Triple) → IsBlank g node → triples_of g node ≡ ts
      → IsSound (form_by_triples g ts)
  sound_by_triples [] blank are = formless_sound
  sound_by_triples (t ∷ []) blank are = sound_by_triple t blank are
  sound_by_triples (t ∷ u ∷ ts) blank are = formless_sound

  sound_by_term : (term : Option Term) → slice_get g.terms node ≡ term → IsSound (form_of_term g node term)
  sound_by_term (Some (Iri iri)) e = λ _. ap is_iri e
  sound_by_term (Some (Blank name)) e =
      let blank : IsBlank g node = (name, e) in
      several_sound Sequence node (form_by_triples g (triples_of g node)) (λ members list. (blank, list))
      (sound_by_triples (triples_of g node) blank refl)
  sound_by_term (Some (Lit literal)) e = formless_sound
  sound_by_term None e = formless_sound

  pub form_in_words : fault_of_form (form_of g node) ≡ None → HasForm g node (form_of g node)
  unfolding form_of
  form_in_words sound = sound_by_term (slice_get g.terms node) refl sound

  -- ---- what is so is read

  iri_read : (term : Option Term) → is_iri term ≡ true → form_of_term g node term ≡ Predicate
  iri_read (Some (Iri iri)) e = refl
  iri_read term e = cc

  several_read : (make : List ℕ → PathForm) (head : ℕ) (members : List ℕ) (other : PathForm)
      → IsListOfSeveral g head members → several make (list_of g head) other ≡ make members
  several_read make head members other list =
      ap (λ l. several make l other) ((lists_read g head members).1 list.0) ∙ many members list.1
    where
      many : (ms : List ℕ) → 2 ≤ length ms → several make (Some ms) other ≡ make ms
      many [] few = absurd (omega arith)
      many (a ∷ []) few = absurd (omega arith)
      many (a ∷ b ∷ ms) few = refl

  -- a node whose only triple states another thing than a first member is no list of several
  no_several : (p o : ℕ) → StatesOnly g node p o → (RDF_FIRST == p) ≡ false → (other : PathForm)
      → several Sequence (list_of g node) other ≡ other
  no_several p o states apart other = at_list (list_of g node) refl
    where
      at_list : (list : Option (List ℕ)) → list_of g node ≡ list → several Sequence list other ≡ other
      at_list (Some (a ∷ b ∷ more)) e =
          let list = (lists_read g node (a ∷ b ∷ more)).0 e in
          let first : Triple = record { s = node; p = RDF_FIRST; o = a } in
          let found = (Contains-triples_of g node first).1 (first_stated g node a list.0 list.1, refl) in
          let only = (Contains-one _ first).0 (subst (λ ts. Contains ts first) states.1 found) in
          absurd (eqb-false RDF_FIRST p apart (ap (λ (t : Triple). t.p) only))
      at_list list e = refl

  stated_read : (p o : ℕ) → StatesOnly g node p o → (RDF_FIRST == p) ≡ false
      → form_of g node ≡ form_by_triple g (record { s = node; p = p; o = o })
  unfolding form_of
  stated_read p o states apart =
      ap (form_of_term g node) states.0.1
      ∙ no_several p o states apart (form_by_triples g (triples_of g node))
      ∙ ap (form_by_triples g) states.1

  pub form_from_words : (form : PathForm) → HasForm g node form → form_of g node ≡ form
  unfolding form_of
  form_from_words Predicate has = iri_read (slice_get g.terms node) has
  form_from_words (Sequence nodes) has =
      ap (form_of_term g node) has.0.1
      ∙ several_read Sequence node nodes (form_by_triples g (triples_of g node)) has.1
  form_from_words (Alternative nodes) has =
      stated_read SH_ALTERNATIVE_PATH has.0 has.1 refl
      ∙ several_read Alternative has.0 nodes Formless has.2
  form_from_words (Inverse inside) has = stated_read SH_INVERSE_PATH inside has refl
  form_from_words (ZeroOrMore inside) has = stated_read SH_ZERO_OR_MORE_PATH inside has refl
  form_from_words (OneOrMore inside) has = stated_read SH_ONE_OR_MORE_PATH inside has refl
  form_from_words (ZeroOrOne inside) has = stated_read SH_ZERO_OR_ONE_PATH inside has refl
  form_from_words Formless has = absurd has
