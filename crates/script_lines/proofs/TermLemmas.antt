-- The terms of a line, and the triple that they make.
use Rattle.std.proofs.Common.{◌≡◌, ◌≢◌, ℕ, true, false, List, Result, Ok, Err, Some, refl, ap, ◌∙◌, inl, inr}
use Rattle.std.proofs.Common.{Bool, codes}
use Rattle.shx_term.specs.declared.term.Term.{Term}
use Rattle.shx_term.specs.declared.term.Term.TheVariants.{Iri, Blank, Lit}
use Rattle.shx_term.specs.ValidTriples.{IsIri, IsNoLiteral, IsValidTermTriple}
use Rattle.shx_term.specs.Vocabulary.{rdf}
use Rattle.ttl_tokens.specs.declared.token.Token.{Token}
use Rattle.ttl_tokens.specs.declared.token.TokenKind.TheVariants.{BlankLabel, WordA}
use Rattle.ttl_meaning.specs.declared.document.Document.{Document}
use Rattle.ttl_read.specs.Grammar.{begins_verb, is_iri, is_kind}
use Rattle.ttl_read.specs.ReadTerm.{Found, A, No, IsFound}
use Rattle.ttl_read.proofs.KindLemmas.{kind_is}
use Rattle.ttl_read.proofs.TokenTermLemmas.{found_at_iri, found_at_label, found_not_wide}
use Rattle.script_lines.specs.declared.fault.LineFault.{LineFault}
use Rattle.script_lines.specs.declared.fault.LineFault.TheVariants.{Line, Memory}
use Rattle.script_lines.specs.declared.line_form.Terms.{Terms}
use Rattle.script_lines.specs.Forms.{IsTriple, is_subject}
use Rattle.script_lines.specs.Lines.{IsPredicateFound, IsTripleRead, BadSubject, BadPredicate, BadObject}
use Rattle.script_lines.specs.Lines.{ATriple, line_code, term_fault}
use Rattle.script_lines.specs.inner.Parts.{IsTermRead}

-- ---- the parts of two things that are found

pub found_or_not : (term : Term) (end code at : ℕ) → A term end ≡ No code at → ⊥
found_or_not term end code at e = cc

pub same_fault : (code at c a : ℕ) → No code at ≡ No c a → term_fault code at ≡ term_fault c a
same_fault code at c a e =
    let codes : code ≡ c = cc in let places : at ≡ a = cc in rw (codes, places) refl

pub same_term : (s t : Term) (end stop : ℕ) → A s end ≡ A t stop → s ≡ t
same_term s t end stop e = cc

-- ---- one term

pub term_refused : (Is : Found → Type 0) (code at told : ℕ) (fault : LineFault) → Is (No code at)
    → told ≡ line_code code → fault ≡ Line told (Some at) → IsTermRead Is (Err fault)
term_refused Is code at told fault is same made = λ other.
    (code, at, is, made ∙ ap (λ n. Line n (Some at)) same)

pub read_weaker : (Is Also : Found → Type 0) → ((found : Found) → Is found → Also found)
    → (r : Result Term LineFault) → IsTermRead Is r → IsTermRead Also r
read_weaker Is Also more (Ok term) h = (h.0, more (A term h.0) h.1)
read_weaker Is Also more (Err fault) h = λ other.
    let known = h other in (known.0, known.1, more (No known.0 known.1) known.2, known.3)

-- ---- the triple

module _ (line : List ℕ) (document : Document) (terms : Terms) where
  abbrev Subject : Found → Type 0
  Subject = IsFound line terms.subject document

  abbrev Predicate : Found → Type 0
  Predicate = IsPredicateFound line terms.predicate document

  abbrev Object : Found → Type 0
  Object = IsFound line terms.object document

  pub bad_subject : (fault : LineFault) → IsTermRead Subject (Err fault) → fault ≢ Memory
      → IsTripleRead line document terms (Err fault)
  bad_subject fault h other = let f = h other in BadSubject f.0 f.1 f.2 (ap Err f.3)

  module _ (s : Term) (subject : IsTermRead Subject (Ok s)) where
    pub bad_predicate : (fault : LineFault) → IsTermRead Predicate (Err fault) → fault ≢ Memory
        → IsTripleRead line document terms (Err fault)
    bad_predicate fault h other =
        let f = h other in BadPredicate s subject.0 subject.1 f.0 f.1 f.2 (ap Err f.3)

    module _ (p : Term) (predicate : IsTermRead Predicate (Ok p)) where
      pub bad_object : (fault : LineFault) → IsTermRead Object (Err fault) → fault ≢ Memory
          → IsTripleRead line document terms (Err fault)
      bad_object fault h other =
          let f = h other in
          BadObject s p subject.0 predicate.0 subject.1 predicate.1 f.0 f.1 f.2 (ap Err f.3)

      pub all_terms : (o : Term) → IsTermRead Object (Ok o)
          → IsTripleRead line document terms (Ok (record { s = s; p = p; o = o }))
      all_terms o object =
          ATriple s p o subject.0 predicate.0 object.0 subject.1 predicate.1 object.1 refl

-- ---- the triple is valid

no_literal_at_iri : (term : Term) → IsIri term → IsNoLiteral term
no_literal_at_iri (Iri iri) is = tt
no_literal_at_iri (Blank node) is = tt
no_literal_at_iri (Lit literal) is = is

subject_fits : (line : List ℕ) (token : Token) (document : Document) (term : Term) (end : ℕ)
    → is_subject token.kind ≡ true → IsFound line token document (A term end) → IsNoLiteral term
subject_fits line token document term end kind found = by (is_iri token.kind) refl
  where
    by : (b : Bool) → is_iri token.kind ≡ b → IsNoLiteral term
    by true iri = no_literal_at_iri term (found_at_iri line token document term end iri found)
    by false other =
        let label : is_kind BlankLabel token.kind ≡ true = rw other at kind in
        let node = found_at_label line token document term end (kind_is BlankLabel token.kind label) found in
        rw node.2 tt

predicate_fits : (line : List ℕ) (token : Token) (document : Document) (term : Term) (end : ℕ)
    → begins_verb token.kind ≡ true → IsPredicateFound line token document (A term end) → IsIri term
predicate_fits line token document term end kind (inl word) =
    let e = word.1 in let same : term ≡ rdf (codes "type") = cc in rw same tt
predicate_fits line token document term end kind (inr other) = by (is_iri token.kind) refl
  where
    by : (b : Bool) → is_iri token.kind ≡ b → IsIri term
    by true iri = found_at_iri line token document term end iri other.1
    by false none =
        let word : is_kind WordA token.kind ≡ true = rw none at kind in
        absurd (other.0 (kind_is WordA token.kind word))

pub valid_triple : (line : List ℕ) (document : Document) (terms : Terms) (at : ℕ) → IsTriple line at terms
    → (s p o : Term) → IsTermRead (IsFound line terms.subject document) (Ok s)
    → IsTermRead (IsPredicateFound line terms.predicate document) (Ok p)
    → IsTermRead (IsFound line terms.object document) (Ok o)
    → IsValidTermTriple (record { s = s; p = p; o = o })
valid_triple line document terms at t s p o subject predicate object = record {
  subject = subject_fits line terms.subject document s subject.0 t.subject.kind subject.1;
  predicate = predicate_fits line terms.predicate document p predicate.0 t.predicate.kind predicate.1;
  object = found_not_wide line terms.object document o object.0 object.1;
}
