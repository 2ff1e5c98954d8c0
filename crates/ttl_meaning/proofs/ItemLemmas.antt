-- From what is kept before an item to what is kept behind it.
use Rattle.std.proofs.Common.{◌≡◌, ℕ, false, List, [], Option, Some, None, Result, Ok, is_some, reverse}
use Rattle.std.proofs.Common.{refl, sym, ap, ◌∙◌, subst, string_bytes, bytes_eq, Vec, String, Global}
use Rattle.std.specs.BTreeMap.{BTreeMap, get_by_text}
use Rattle.std.specs.Map.{update}
use Rattle.shx_term.specs.Pool.{Pooled}
use Rattle.shx_term.specs.Vocabulary.{HasVocabulary}
use Rattle.shx_term.specs.declared.term.Term.TheVariants.{Iri}
use Rattle.shx_term.specs.declared.term.Literal.{Literal}
use Rattle.ttl_tokens.specs.declared.token.Token.{Token}
use Rattle.ttl_tokens.specs.declared.token.TokenKind.{TokenKind}
use Rattle.ttl_tokens.specs.declared.token.TokenKind.TheVariants.{IriRef}
use Rattle.ttl_meaning.specs.declared.context.Context.{Context as kept_context}
use Rattle.ttl_meaning.specs.declared.fault.NoTerm.{NoTerm}
use Rattle.ttl_meaning.specs.declared.fault.TermFaultKind.{TermFaultKind}
use Rattle.ttl_meaning.specs.declared.reader_state.ReaderState.{ReaderState}
use Rattle.ttl_meaning.specs.declared.placed.Placed.{Placed}
use Rattle.ttl_meaning.specs.State.{State, Subject, Context, subject_term}
use Rattle.ttl_meaning.specs.State.{unless_fault, put, begin_verb, enter}
use Rattle.ttl_meaning.specs.Items.{put_literal, end_string, used_or_blamed, set_base, bind}
use Rattle.ttl_meaning.specs.IsStated.{Bounds}
use Rattle.ttl_meaning.specs.inner.IsReading.{Keeps, IsReading, Does, DoesSound, KeepsOn}
use Rattle.ttl_meaning.specs.inner.Meant.{IsMeant}
use Rattle.ttl_meaning.specs.inner.Placed.{IsPlaced, IsContext, AreContexts}
use Rattle.ttl_meaning.specs.Terms.{in_namespace, iri_of_kind, local_of, namespace_of, prefix_of}
use Rattle.ttl_meaning.proofs.KeepsLemmas.{Keeps-moved}

none_by_test : {X : Type 0} (o : Option X) → false ≡ is_some o → o ≡ None
none_by_test None e = refl
none_by_test (Some x) e = absurd (cc)

-- what keeps on does the same where there is no fault
pub sound_where_kept : (act : State → State) (r : ReaderState) (p : Pooled) (r' : ReaderState) (p' : Pooled)
    → KeepsOn act r p r' p' → DoesSound act r p r' p'
sound_where_kept act r p r' p' on bounds s none keeps =
    let after = on bounds s keeps in
    record { fault = after.fault; keeps = λ _. after }

-- where there is no fault, an item does what it does there
pub item_sound : (act : State → State) (r : ReaderState) (p : Pooled) (r' : ReaderState) (p' : Pooled)
    → false ≡ is_some r.fault → DoesSound act r p r' p' → Does (unless_fault act) r p r' p'
item_sound act r p r' p' none sound bounds s reads =
    let same : false ≡ is_some s.fault = none ∙ ap is_some reads.fault in
    let empty : s.fault ≡ None = none_by_test s.fault same in
    rw (sym same) (sound bounds s empty (reads.keeps empty))

-- where there is no fault, an item keeps on
pub item_kept : (act : State → State) (r : ReaderState) (p : Pooled) (r' : ReaderState) (p' : Pooled)
    → false ≡ is_some r.fault → KeepsOn act r p r' p' → Does (unless_fault act) r p r' p'
item_kept act r p r' p' none on = item_sound act r p r' p' none (sound_where_kept act r p r' p' on)

-- ---- calls in turn

-- two calls that keep on
pub kept_in_turn : (f g : State → State) (r : ReaderState) (p : Pooled) (r' : ReaderState) (p' : Pooled)
    (r'' : ReaderState) (p'' : Pooled) → KeepsOn f r p r' p' → KeepsOn g r' p' r'' p''
    → KeepsOn (λ s. g (f s)) r p r'' p''
kept_in_turn f g r p r' p' r'' p'' first then bounds s keeps = then bounds (f s) (first bounds s keeps)

-- a verb is begun that has its number in the vocabulary
pub kept_verb : (verb : Placed) (iri : List ℕ) (r : ReaderState) (r' : ReaderState) (p : Pooled)
    → (HasVocabulary p.terms → IsPlaced p.terms verb (Iri iri))
    → ((q : Pooled) (i : List ℕ) → IsPlaced q.terms verb (Iri i) → KeepsOn (begin_verb i) r q r' q)
    → KeepsOn (begin_verb iri) r p r' p
kept_verb verb iri r r' p placed begins bounds s keeps = begins p iri (placed keeps.vocabulary) bounds s keeps

-- a node is put that has its number there
pub kept_node : (node : Placed) (n : Subject) (r : ReaderState) (p : Pooled) (r' : ReaderState) (p' : Pooled)
    → (HasVocabulary p.terms → IsPlaced p.terms node (subject_term n))
    → ((m : Subject) → IsPlaced p.terms node (subject_term m) → KeepsOn (put m) r p r' p')
    → KeepsOn (put n) r p r' p'
kept_node node n r p r' p' placed puts bounds s keeps = puts n (placed keeps.vocabulary) bounds s keeps

-- a context is entered that was made of what stood before
pub kept_entered : (f : State → State) (context : State → Context) (inner : kept_context) (r : ReaderState)
    (p : Pooled) (r' : ReaderState) (p' : Pooled) (r'' : ReaderState)
    → ((bounds : Bounds) (s : State) → Keeps bounds s r p → HasVocabulary p'.terms
    → IsContext p'.terms inner (context s))
    → KeepsOn f r p r' p'
    → ((q : Pooled) (c : Context) → IsContext q.terms inner c → KeepsOn (enter c) r' q r'' q)
    → KeepsOn (λ s. enter (context s) (f s)) r p r'' p'
kept_entered f context inner r p r' p' r'' same first then bounds s keeps =
    let after = first bounds s keeps in
    then p' (context s) (same bounds s keeps after.vocabulary) bounds (f s) after

-- ---- strings

-- a text is held
pub kept_held : (text : List ℕ) (held : String Global) (r : ReaderState) (p : Pooled)
    → string_bytes held ≡ text → KeepsOn (λ s. record s { held = text }) r p (record r { held = held }) p
kept_held text held r p said bounds s keeps = assumption (keeps, said)

-- and where it began
pub kept_said : (text : List ℕ) (at : ℕ) (held : String Global) (r : ReaderState) (p : Pooled)
    → string_bytes held ≡ text
    → KeepsOn (λ s. record s { held = text; held_at = at }) r p (record r { held = held; held_at = at }) p
kept_said text at held r p said bounds s keeps =
    let place : at ≡ at = refl in
    assumption (keeps, said, place)

-- the string that waited is taken, and its literal is put
pub string_ends : (literal : List ℕ → Literal) (held : List ℕ) (made : Literal) (at : ℕ) (r : ReaderState)
    (p : Pooled) (r' : ReaderState) (r'' : ReaderState) (p'' : Pooled) → held ≡ string_bytes r.held
    → at ≡ r.held_at
    → made ≡ literal held → KeepsOn (λ s. record s { held = [] }) r p r' p
    → DoesSound (put_literal at made) r' p r'' p''
    → DoesSound (λ s. end_string (literal s.held) s) r p r'' p''
string_ends literal held made at r p r' r'' p'' said begun is_made taken put bounds s none keeps =
    let text : held ≡ s.held = said ∙ keeps.held in
    let place : at ≡ s.held_at = begun ∙ keeps.held_at in
    let term : made ≡ literal s.held = is_made ∙ ap literal text in
    let after : State = record s { held = [] } in
    subst (λ (n : ℕ). IsReading bounds (put_literal n (literal s.held) after) r'' p'') place
    (subst (λ (l : Literal). IsReading bounds (put_literal at l after) r'' p'') term
    (put bounds after none (taken bounds s keeps)))

-- ---- IRIs

-- a token that is no reference stands for what it does by its prefix
pub prefixed_meant : (k : TokenKind) (text : List ℕ) (token : Token) (s : State)
    (r : Result (List ℕ) NoTerm) → (k ≡ IriRef → ⊥)
    → IsMeant (in_namespace (namespace_of (prefix_of text token) s.prefixes) (local_of k text token)) r
    → IsMeant (iri_of_kind k text token s) r
prefixed_meant IriRef text token s r other meant = absurd (other refl)
prefixed_meant k text token s r other meant = meant

-- the IRI that was found is used
pub kept_where_found : (meant : State → Result (List ℕ) TermFaultKind) (act : List ℕ → State → State) (at : ℕ)
    (iri : List ℕ) (r : ReaderState) (p : Pooled) (r' : ReaderState) (p' : Pooled)
    → ((bounds : Bounds) (s : State) (p : Pooled) → Keeps bounds s r p → meant s ≡ Ok iri)
    → KeepsOn (act iri) r p r' p' → KeepsOn (λ s. used_or_blamed act at (meant s) s) r p r' p'
kept_where_found meant act at iri r p r' p' found on bounds s keeps =
    subst (λ (v : Result (List ℕ) TermFaultKind). Keeps bounds (used_or_blamed act at v s) r' p')
    (sym (found bounds s p keeps)) (on bounds s keeps)

-- the base is set
pub kept_base : (iri base : List ℕ) (r : ReaderState) (p : Pooled) → base ≡ iri
    → KeepsOn (set_base iri) r p (record r { base = base }) p
kept_base iri base r p same bounds s keeps = record {
  fault = keeps.fault;
  scope = keeps.scope;
  base = same;
  prefixes = keeps.prefixes;
  labels = keeps.labels;
  next = keeps.next;
  contexts = keeps.contexts;
  held = keeps.held;
  held_at = keeps.held_at;
  stated = keeps.stated;
  valid = keeps.valid;
  vocabulary = keeps.vocabulary;
}

-- the namespace stands in the map under the name that was held
pub kept_bound : (iri : List ℕ) (name : String Global) (m : BTreeMap (String Global) (List ℕ))
    (r : ReaderState) (p : Pooled) (r' : ReaderState) → string_bytes name ≡ string_bytes r.held
    → ((cs : List ℕ) → get_by_text m cs
    ≡ update bytes_eq (get_by_text r'.prefixes) (string_bytes name) (Some iri) cs)
    → KeepsOn (λ s. record s { held = [] }) r p r' p → KeepsOn (bind iri) r p (record r' { prefixes = m }) p
kept_bound iri name m r p r' named updated taken bounds s keeps =
    let after = taken bounds s keeps in
    let key : string_bytes name ≡ s.held = named ∙ keeps.held in
    record {
      fault = after.fault;
      scope = after.scope;
      base = after.base;
      prefixes = λ cs. updated cs ∙ rw (key, after.prefixes cs) refl;
      labels = after.labels;
      next = after.next;
      contexts = after.contexts;
      held = after.held;
      held_at = after.held_at;
      stated = after.stated;
      valid = after.valid;
      vocabulary = after.vocabulary;
    }

-- ---- statements

-- the contexts are these
pub kept_contexts : (contexts : List Context) (v : Vec kept_context Global) (r : ReaderState) (p : Pooled)
    → AreContexts p.terms (reverse v.items) contexts
    → KeepsOn (λ s. record s { contexts = contexts }) r p (record r { contexts = v }) p
kept_contexts contexts v r p are bounds s keeps =
    Keeps-moved bounds s r p p v r.stated contexts s.triples keeps are keeps.stated keeps.valid
    keeps.vocabulary
