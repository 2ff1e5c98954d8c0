-- Agreement of graphs: in turn, on fewer keys, and after a term is entered or a triple inserted or removed.
use Rattle.std.specs.Prelude.{◌≡◌, ℕ, ◌+◌, ◌<◌, List, [], ◌++◌, flat_map, length, slice_get, Contains, ◌↔◌}
use Rattle.std.proofs.Common.{sym, ap, ◌∙◌, subst, inl, inr, append-nil}
use Rattle.std.proofs.Common.{arith, length-append}
use Rattle.std.proofs.lemmas.List.Elements.{Contains-append_left, Contains-append_right}
use Rattle.std.proofs.lemmas.List.Elements.{Contains-append_cases}
use Rattle.shx_term.specs.declared.term.Term.{Term}
use Rattle.shx_term.specs.declared.triple.Triple.{Triple}
use Rattle.shx_term.specs.Pool.{with_term}
use Rattle.shx_term.proofs.HeldLemmas.{with_term_grows}
use Rattle.shx_term.proofs.IdOrderLemmas.{slice_get-append}
use Rattle.shx_term.proofs.MemberLemmas.{Contains-flat_map}
use Rattle.graph_view.specs.declared.key.Key.{Key}
use Rattle.graph_view.specs.Agree.{AgreeOn, Agree, IsAnyKey, IsUntouched}
use Rattle.graph_view.specs.Graph.{Graph, HasTerms, HasAlso, IsWithout}
use Rattle.graph_view.specs.Key.{Touches}
use Rattle.shx_term.specs.Members.{SameMembers}
use Rattle.graph_view.proofs.KeyLemmas.{Contains-look}
use Rattle.shx_term.proofs.SetLemmas.{SameMembers-itself}

module _ {K : Key → Type 0} where
  -- a triple that touches one of the keys is held by both or by none
  pub AgreeOn-at : {g h : List Triple} → AgreeOn g h K → (key : Key) → K key → (t : Triple) → Touches t key
      → Contains g t ↔ Contains h t
  AgreeOn-at {g} {h} agree key k t touches =
      let same = (agree.each key k).each t in (
        λ c. ((Contains-look h key t).0 (same.0 ((Contains-look g key t).1 (c, touches)))).0,
        λ c. ((Contains-look g key t).0 (same.1 ((Contains-look h key t).1 (c, touches)))).0,
      )

  pub AgreeOn-from : {g h : List Triple}
      → ((key : Key) → K key → (t : Triple) → Touches t key → Contains g t ↔ Contains h t) → AgreeOn g h K
  AgreeOn-from {g} {h} at = record {
    each = λ key k. record {
      each = λ t. (
        λ c.
            let held = (Contains-look g key t).0 c in
            (Contains-look h key t).1 ((at key k t held.1).0 held.0, held.1),
        λ c.
            let held = (Contains-look h key t).0 c in
            (Contains-look g key t).1 ((at key k t held.1).1 held.0, held.1),
      );
    };
  }

  -- on fewer keys
  pub AgreeOn-fewer : {g h : List Triple} (L : Key → Type 0) → ((key : Key) → L key → K key)
      → AgreeOn g h K → AgreeOn g h L
  AgreeOn-fewer L fewer agree = record { each = λ key l. agree.each key (fewer key l) }

  -- graphs that hold the same triples agree on all keys
  pub AgreeOn-same : {g h : List Triple} → SameMembers g h → AgreeOn g h K
  AgreeOn-same same = AgreeOn-from (λ key k t touches. same.each t)

  pub Agree-fewer : {g h : Graph} (L : Key → Type 0) → ((key : Key) → L key → K key)
      → Agree g h K → Agree g h L
  Agree-fewer L fewer agree = record {
    more = agree.more;
    terms = agree.terms;
    triples = AgreeOn-fewer L fewer agree.triples;
  }

  -- the same triples over the same terms
  pub Agree-on_terms : {g h : Graph} → h.terms ≡ g.terms → AgreeOn g.triples h.triples K → Agree g h K
  Agree-on_terms {g} terms triples = record {
    more = [];
    terms = terms ∙ sym (append-nil g.terms);
    triples = triples;
  }

-- on a part of a list of keys
module _ {g h : List Triple} where
  pub AgreeOn-left : (xs ys : List Key) → AgreeOn g h (Contains (xs ++ ys)) → AgreeOn g h (Contains xs)
  AgreeOn-left xs ys agree = AgreeOn-fewer (Contains xs) (λ key c. Contains-append_left xs ys key c) agree

  pub AgreeOn-right : (xs ys : List Key) → AgreeOn g h (Contains (xs ++ ys)) → AgreeOn g h (Contains ys)
  AgreeOn-right xs ys agree = AgreeOn-fewer (Contains ys) (λ key c. Contains-append_right xs ys key c) agree

  pub AgreeOn-part : {X : Type 0} (f : X → List Key) (xs : List X) (x : X) → Contains xs x
      → AgreeOn g h (Contains (flat_map f xs)) → AgreeOn g h (Contains (f x))
  AgreeOn-part f xs x c agree =
      AgreeOn-fewer (Contains (f x)) (λ key d. Contains-flat_map f xs x key c d) agree

-- on the part of a list of keys that is made of one element
pub Agree-part : {X : Type 0} (g h : Graph) (f : X → List Key) (xs : List X) (x : X) → Contains xs x
    → Agree g h (Contains (flat_map f xs)) → Agree g h (Contains (f x))
Agree-part g h f xs x c agree =
    Agree-fewer (Contains (f x)) (λ key d. Contains-flat_map f xs x key c d) agree

-- on two lists of keys
pub Agree-both : (g h : Graph) (ks ls : List Key) → Agree g h (Contains (ks ++ ls))
    ↔ (Agree g h (Contains ks) × Agree g h (Contains ls))
Agree-both g h ks ls = (
  λ agree. (
    Agree-fewer (Contains ks) (λ key c. Contains-append_left ks ls key c) agree,
    Agree-fewer (Contains ls) (λ key c. Contains-append_right ks ls key c) agree,
  ),
  λ both. record {
    more = both.0.more;
    terms = both.0.terms;
    triples = record {
      each = λ key c. elim (Contains-append_cases ks ls key c) [
        | inl d ↦ both.0.triples.each key d
        | inr d ↦ both.1.triples.each key d
      ];
    };
  },
)

-- a number that has a term keeps it
pub Agree-term : {K : Key → Type 0} (g h : Graph) (id : ℕ) → Agree g h K → id < length g.terms
    → slice_get g.terms id ≡ slice_get h.terms id
Agree-term g h id agree inside =
    sym (slice_get-append g.terms agree.more id inside)
    ∙ ap (λ terms. slice_get terms id) (sym agree.terms)

pub Agree-known : {K : Key → Type 0} (g h : Graph) (ids : List ℕ) → Agree g h K → HasTerms g ids
    → HasTerms h ids
Agree-known g h ids agree known =
    let longer = length-append g.terms agree.more in
    let all : length h.terms ≡ length g.terms + length agree.more = ap length agree.terms ∙ longer in
    λ k d inside. let within = known k d inside in omega (arith, all, within)

-- after a term is entered all keys agree
pub Agree-entered : {g h : Graph} (t : Term) → h.terms ≡ with_term g.terms t → h.triples ≡ g.triples
    → Agree g h IsAnyKey
Agree-entered {g} {h} t terms triples =
    let grown = with_term_grows g.terms t in
    record {
      more = grown.0;
      terms = terms ∙ grown.1;
      triples = AgreeOn-same (subst (SameMembers g.triples) (sym triples) (SameMembers-itself g.triples));
    }

touching_other : (t u : Triple) (key : Key) → IsUntouched t key → Touches u key → u ≡ t → ⊥
touching_other t u key untouched touches e = untouched (subst (λ v. Touches v key) e touches)

pub AgreeOn-also : {g h : List Triple} (t : Triple) → HasAlso g h t → AgreeOn g h (IsUntouched t)
AgreeOn-also t also = AgreeOn-from (λ key untouched u touches. (
  λ c. (also.each u).1 (inl c),
  λ c. elim ((also.each u).0 c) [
    | inl held ↦ held
    | inr e ↦ absurd (touching_other t u key untouched touches e)
  ],
))

pub AgreeOn-without : {g h : List Triple} (t : Triple) → IsWithout g h t → AgreeOn g h (IsUntouched t)
AgreeOn-without t without = AgreeOn-from (λ key untouched u touches. (
  λ c. (without.each u).1 (c, touching_other t u key untouched touches),
  λ c. ((without.each u).0 c).0,
))

pub Agree-inserted : {g h : Graph} (t : Triple) → h.terms ≡ g.terms → HasAlso g.triples h.triples t
    → Agree g h (IsUntouched t)
Agree-inserted t terms also = Agree-on_terms terms (AgreeOn-also t also)

pub Agree-removed : {g h : Graph} (t : Triple) → h.terms ≡ g.terms → IsWithout g.triples h.triples t
    → Agree g h (IsUntouched t)
Agree-removed t terms without = Agree-on_terms terms (AgreeOn-without t without)
