-- What is kept of a reading where a term is put into its place.
use Rattle.std.proofs.Common.{◌≡◌, ℕ, ◌+◌, true, false, cond, List, [], ◌∷◌, ◌++◌}
use Rattle.std.proofs.Common.{Ok, refl, sym, ap, ◌∙◌, subst, inl, inr, String, Vec, Global}
use Rattle.std.specs.Prelude.{reverse, Contains, ◌↔◌, All}
use Rattle.std.specs.BTreeSet.{BTreeSet, contains_text}
use Rattle.std.specs.Str.{bytes_eq}
use Rattle.std.proofs.lemmas.Bool.{false≢true}
use Rattle.std.proofs.lemmas.List.Elements.{All-append}
use Rattle.std.proofs.lemmas.Slice.Eq.{bytes_eq-Decides}
use Rattle.shx_term.specs.declared.term.Term.{Term}
use Rattle.shx_term.specs.declared.term.Term.TheVariants.{Blank}
use Rattle.shx_term.specs.declared.term.Literal.{Literal}
use Rattle.shx_term.specs.declared.triple.TermTriple.{TermTriple}
use Rattle.shx_term.specs.Pool.{Pooled}
use Rattle.shx_term.specs.ValidTriples.{IsNotWide, IsValidTermTriple}
use Rattle.shx_term.specs.Vocabulary.{HasVocabulary}
use Rattle.shx_term.proofs.MemberLemmas.{Contains-head, Contains-tail, Contains-cases}
use Rattle.ttl_meaning.specs.declared.context.Context.{Context as kept_context}
use Rattle.ttl_meaning.specs.declared.placed.Placed.TheVariants.{Term as AsTerm}
use Rattle.ttl_meaning.specs.declared.reader_state.ReaderState.{ReaderState}
use Rattle.ttl_meaning.specs.declared.stated.Stated.{Stated}
use Rattle.ttl_meaning.specs.KeepsTerms.{KeepsTerms}
use Rattle.ttl_meaning.specs.inner.IsReading.{Keeps, IsReading, DoesSound, KeepsOn}
use Rattle.ttl_meaning.specs.inner.Placed.{IsPlaced, IsContext, AreContexts}
use Rattle.ttl_meaning.specs.IsStated.{Bounds, IsStated}
use Rattle.ttl_meaning.specs.Items.{put_judged, put_label, put_literal, put_new}
use Rattle.ttl_meaning.specs.State.{State, Subject, ABlank, Context, subject_term, triple_in, behind_node}
use Rattle.ttl_meaning.specs.State.{put, put_in, put_object, put_object_in}
use Rattle.ttl_meaning.specs.Terms.{anonymous, judged, labelled}
use Rattle.ttl_meaning.proofs.ContextLemmas.{HasInnermost, HasInnermost-last, AreContexts-pushed}
use Rattle.ttl_meaning.proofs.ContextLemmas.{subject_is_not_wide, triple_in-valid}
use Rattle.ttl_meaning.proofs.PlacedLemmas.{AreContexts-kept}

-- a reading keeps on with other contexts and triples, over a pool that begins with the vocabulary
pub Keeps-moved : (bounds : Bounds) (s : State) (r : ReaderState) (p p' : Pooled)
    (kept : Vec kept_context Global) (stated : Stated) (contexts : List Context) (triples : List TermTriple)
    → Keeps bounds s r p → AreContexts p'.terms (reverse kept.items) contexts
    → IsStated bounds triples stated p' → All IsValidTermTriple triples → HasVocabulary p'.terms
    → Keeps bounds (record s { contexts = contexts; triples = triples })
    (record r { contexts = kept; stated = stated }) p'
Keeps-moved bounds s r p p' kept stated contexts triples keeps are is valid begins = record {
  fault = keeps.fault;
  scope = keeps.scope;
  base = keeps.base;
  prefixes = keeps.prefixes;
  labels = keeps.labels;
  next = keeps.next;
  contexts = are;
  held = keeps.held;
  held_at = keeps.held_at;
  stated = is;
  valid = valid;
  vocabulary = begins;
}

-- ---- a term is put into the innermost context, which is another one behind it

module _ (r : ReaderState) (p p' : Pooled) (last new : kept_context) (left : List kept_context)
    (kept : Vec kept_context Global) (stated : Stated) (popped : r.contexts.items ≡ left ++ last ∷ [])
    (pushed : kept.items ≡ left ++ new ∷ []) (gains : KeepsTerms p p') (begins : HasVocabulary p'.terms) where
  abbrev after : ReaderState
  after = record r { contexts = kept; stated = stated }

  -- what is innermost in a state
  abbrev Innermost : State → Type 0
  Innermost s = HasInnermost p.terms last left s.contexts

  Keeps-behind : (bounds : Bounds) (s : State) (keeps : Keeps bounds s r p) (has : Innermost s) (t : Term)
      (behind : Context) → IsNotWide t → IsContext p'.terms new behind
      → IsStated bounds (s.triples ++ triple_in t has.context) stated p'
      → Keeps bounds
      (record s { contexts = behind ∷ has.outer; triples = s.triples ++ triple_in t has.context }) after p'
  Keeps-behind bounds s keeps has t behind narrow is states =
      Keeps-moved bounds s r p p' kept stated (behind ∷ has.outer) (s.triples ++ triple_in t has.context)
      keeps
      (AreContexts-pushed p'.terms kept.items left new pushed behind has.outer is
      (AreContexts-kept p p' gains (reverse left) has.outer has.others))
      states
      (All-append IsValidTermTriple s.triples (triple_in t has.context) keeps.valid
      (triple_in-valid t has.context narrow))
      begins

  innermost : (bounds : Bounds) (s : State) → Keeps bounds s r p → Innermost s
  innermost bounds s keeps =
      HasInnermost-last p.terms r.contexts.items left last popped s.contexts keeps.contexts

  pub KeepsOn-put : (n : Subject)
      → ((c : Context) → IsContext p.terms last c → IsContext p'.terms new (behind_node n c))
      → ((c : Context) (bounds : Bounds) (triples : List TermTriple) → IsContext p.terms last c
      → IsStated bounds triples r.stated p
      → IsStated bounds (triples ++ triple_in (subject_term n) c) stated p')
      → KeepsOn (put n) r p after p'
  KeepsOn-put n behind states bounds s keeps =
      let has = innermost bounds s keeps in
      subst (λ cs. Keeps bounds (put_in n cs (record s { contexts = cs })) after p') (sym has.is)
      (Keeps-behind bounds s keeps has (subject_term n) (behind_node n has.context) (subject_is_not_wide n)
      (behind has.context has.innermost)
      (states has.context bounds s.triples has.innermost keeps.stated))

  pub KeepsOn-put_object : (t : Term) → IsNotWide t
      → ((c : Context) → IsContext p.terms last c → IsContext p'.terms new c)
      → ((c : Context) (bounds : Bounds) (triples : List TermTriple) → IsContext p.terms last c
      → IsStated bounds triples r.stated p → IsStated bounds (triples ++ triple_in t c) stated p')
      → KeepsOn (put_object t) r p after p'
  KeepsOn-put_object t narrow behind states bounds s keeps =
      let has = innermost bounds s keeps in
      subst (λ cs. Keeps bounds (put_object_in t cs (record s { contexts = cs })) after p') (sym has.is)
      (Keeps-behind bounds s keeps has t has.context narrow (behind has.context has.innermost)
      (states has.context bounds s.triples has.innermost keeps.stated))

-- ---- new nodes and labels

-- what a node that is put does
abbrev pub PutsNode : Term → ReaderState → Pooled → ReaderState → Pooled → Type 0
PutsNode node r p r' p' =
    (n : Subject) → IsPlaced p.terms (AsTerm node) (subject_term n) → KeepsOn (put n) r p r' p'

-- a node with the number that comes next is put, and the number is counted up
pub KeepsOn-put_new : (r r' : ReaderState) (p p' : Pooled) (node : Term) (next : ℕ)
    → node ≡ Blank (anonymous r.scope r.next) → next ≡ r.next + 1
    → PutsNode node (record r { next = next }) p r' p' → KeepsOn put_new r p r' p'
KeepsOn-put_new r r' p p' node next is follows puts bounds s keeps =
    let more : State = record s { next = s.next + 1 } in
    let at : next ≡ s.next + 1 = follows ∙ ap (λ n. n + 1) keeps.next in
    puts (ABlank (anonymous s.scope s.next)) (is ∙ (λ i. Blank (anonymous (keeps.scope i) (keeps.next i))))
    bounds more (assumption (keeps, at))

-- a set of texts has one more
abbrev pub HasAlso : BTreeSet (String Global) → List ℕ → BTreeSet (String Global) → Type 0
HasAlso old text new =
    (other : List ℕ) → contains_text new other ≡ cond (bytes_eq text other) true (contains_text old other)

-- with a text that it has a set stays as it is
pub HasAlso-itself : (texts : BTreeSet (String Global)) (text : List ℕ) → contains_text texts text ≡ true
    → HasAlso texts text texts
HasAlso-itself texts text held other =
    elim (bytes_eq text other) as
    (λ b. bytes_eq text other ≡ b → contains_text texts other ≡ cond b true (contains_text texts other)) [
      | true ↦ λ tied. ap (contains_text texts) (sym ((bytes_eq-Decides text other).0 tied)) ∙ held
      | false ↦ λ _. refl
    ] refl

-- what a set with one more has is what a list with one more contains
has_more : (old new : BTreeSet (String Global)) (text : List ℕ) (texts : List (List ℕ)) → HasAlso old text new
    → ((other : List ℕ) → (contains_text old other ≡ true) ↔ Contains texts other)
    → (other : List ℕ) → (contains_text new other ≡ true) ↔ Contains (text ∷ texts) other
has_more old new text texts also same other =
    let same_text = bytes_eq-Decides text other in
    elim (bytes_eq text other) as
    (λ b. bytes_eq text other ≡ b → contains_text new other ≡ cond b true (contains_text old other)
    → (contains_text new other ≡ true) ↔ Contains (text ∷ texts) other) [
      | true ↦ λ tied has. (
        λ _. subst (Contains (text ∷ texts)) (same_text.0 tied) (Contains-head text texts),
        λ _. has,
      )
      | false ↦ λ apart has. (
        λ e. Contains-tail text other texts ((same other).0 (sym has ∙ e)),
        λ c. elim (Contains-cases text other texts c) [
          | inl e ↦ absurd (false≢true (sym apart ∙ same_text.1 (sym e)))
          | inr d ↦ has ∙ (same other).1 d
        ],
      )
    ] refl (also other)

-- a reading, with a label more
pub record KnowsLabel (label : List ℕ) (r mid : ReaderState) : Type 0 where
  pub labels : BTreeSet (String Global)
  pub same : mid ≡ record r { labels = labels }
  pub also : HasAlso r.labels label labels

-- a node with a label is put, once the label is known
pub KeepsOn-put_label : (r mid r' : ReaderState) (p p' : Pooled) (node : Term) (label : List ℕ)
    → KnowsLabel label r mid → node ≡ Blank (labelled mid.scope label)
    → PutsNode node mid p r' p' → KeepsOn (put_label label) r p r' p'
KeepsOn-put_label r mid r' p p' node label knows is puts bounds s keeps =
    let more : State = record s { labels = label ∷ s.labels } in
    let labels = has_more r.labels knows.labels label s.labels knows.also keeps.labels in
    let kept : Keeps bounds more (record r { labels = knows.labels }) p = assumption (keeps, labels) in
    let now : Keeps bounds more mid p = subst (λ x. Keeps bounds more x p) (sym knows.same) kept in
    puts (ABlank (labelled s.scope label)) (is ∙ ap (λ scope. Blank (labelled scope label)) now.scope)
    bounds more now

-- ---- literals

-- a literal without a fault is put
pub DoesSound-put_literal : (r r' : ReaderState) (p p' : Pooled) (at : ℕ) (literal : Literal) (term : Term)
    → Ok term ≡ judged literal → KeepsOn (put_object term) r p r' p'
    → DoesSound (put_literal at literal) r p r' p'
DoesSound-put_literal r r' p p' at literal term good puts bounds s none keeps =
    let after = puts bounds s keeps in
    subst (λ j. IsReading bounds (put_judged at j s) r' p') good
    (record { fault = after.fault; keeps = λ _. after })
