-- What one triple more does to what is stated, and how it is stored.
use Rattle.std.proofs.Common.{◌≡◌, ◌<◌, ◌+◌, true, false, List, [], ◌∷◌, ◌++◌, length}
use Rattle.std.proofs.Common.{Option, Some, None, refl, sym, ap, ◌∙◌, arith, length-append, Vec, Global}
use Rattle.std.specs.Prelude.{is_some}
use Rattle.std.specs.List.{list_all}
use Rattle.std.proofs.lemmas.Bool.{and_parts}
use Rattle.std.proofs.lemmas.List.Concat.{flat_map-append}
use Rattle.std.proofs.lemmas.List.Elements.{filter_map-append}
use Rattle.shx_term.specs.declared.term.Term.{Term}
use Rattle.shx_term.specs.declared.triple.Triple.{Triple}
use Rattle.shx_term.specs.declared.triple.TermTriple.{TermTriple}
use Rattle.shx_term.specs.Pool.{Pooled, IsFullFor, is_held, with_term, with_terms}
use Rattle.shx_term.specs.TripleTerms.{terms_of, numbered, numbered_all}
use Rattle.shx_term.proofs.HeldLemmas.{with_terms-append, with_terms_grow, length-le-with_terms}
use Rattle.shx_term.proofs.HeldLemmas.{all_held}
use Rattle.shx_term.proofs.NumberedLemmas.{numbered-append}
use Rattle.ttl_meaning.specs.declared.stated.Stated.{Stated}
use Rattle.ttl_meaning.specs.declared.stated.Excess.{Excess}
use Rattle.ttl_meaning.specs.declared.stated.Excess.TheVariants.{Triples, Terms}
use Rattle.ttl_meaning.specs.IsStated.{Bounds, IsStated, IsWithin, terms_with}

-- triples whose terms are held keep their numbers where more terms are held behind them
numbers_stay : (terms more : List Term) (ts : List TermTriple) → list_all (is_held terms) (terms_of ts) ≡ true
    → numbered_all (terms ++ more) ts ≡ numbered_all terms ts
numbers_stay terms more [] e = refl
numbers_stay terms more (t ∷ ts) e =
    let s = and_parts (is_held terms t.s) _ e in
    let p = and_parts (is_held terms t.p) _ s.1 in
    let o = and_parts (is_held terms t.o) _ p.1 in
    let first = numbered-append terms more t (record { s = s.0; p = p.0; o = o.0 }) in
    rw (first, numbers_stay terms more ts o.1) refl

-- the terms of one triple more are entered behind those of the others
terms_with-push : (bounds : Bounds) (ts : List TermTriple) (t : TermTriple)
    → terms_with bounds (ts ++ t ∷ []) ≡ with_terms (terms_with bounds ts) (terms_of (t ∷ []))
terms_with-push bounds ts t =
    ap (with_terms bounds.held) (flat_map-append (λ (u : TermTriple). u.s ∷ (u.p ∷ (u.o ∷ []))) ts (t ∷ []))
    ∙ with_terms-append bounds.held (terms_of ts) (terms_of (t ∷ []))

-- and so its numbers stand behind those of the others, which stay
numbered_all-push : (bounds : Bounds) (terms next : List Term) (ts : List TermTriple) (t : TermTriple)
    (u : Triple)
    → terms ≡ terms_with bounds ts → next ≡ with_terms terms (terms_of (t ∷ []))
    → numbered next t ≡ Some u
    → numbered_all next (ts ++ t ∷ []) ≡ numbered_all terms ts ++ u ∷ []
numbered_all-push bounds terms next ts t u before entered number =
    let grown = with_terms_grow terms (terms_of (t ∷ [])) in
    let all : list_all (is_held terms) (terms_of ts) ≡ true =
    rw before (all_held bounds.held (terms_of ts)) in
    let last : numbered_all next (t ∷ []) ≡ u ∷ [] = rw number refl in
    filter_map-append (numbered next) ts (t ∷ [])
    ∙ ap (λ xs. numbered_all next ts ++ xs) last
    ∙ ap (λ xs. xs ++ u ∷ [])
    (ap (λ xs. numbered_all xs ts) (entered ∙ grown.1) ∙ numbers_stay terms grown.0 ts all)

-- with a term for which a pool is full its limit is passed
pub past_limit : (pool : Pooled) (t : Term) → IsFullFor pool t → pool.limit < length (with_term pool.terms t)
past_limit pool t full = rw full.absent (omega (arith, full.at_limit, length-append pool.terms (t ∷ [])))

module _ (bounds : Bounds) (triples : List TermTriple) (t : TermTriple) (stated : Stated)
    (pool : Pooled) where
  -- behind a limit of terms, also one triple more passes it
  counted_within : (excess : Option Excess) → is_some excess ≡ true → stated.count < bounds.triples
      → IsWithin excess bounds triples stated pool
      → IsWithin excess bounds (triples ++ t ∷ []) (record stated { count = stated.count + 1 }) pool
  counted_within None some few within = absurd (cc)
  counted_within (Some Triples) some few within = absurd (omega (arith, within.0))
  counted_within (Some Terms) some few within =
      let more = length-append triples (t ∷ []) in
      let grows = length-le-with_terms (terms_with bounds triples) (terms_of (t ∷ [])) in (
        omega (arith, within.0, more),
        omega (arith, within.0, more),
        omega (arith, within.2, grows, ap length (terms_with-push bounds triples t)),
      )

  -- where a limit was passed before, the triple is only counted
  pub IsStated-counted : is_some stated.excess ≡ true → stated.count < stated.most
      → IsStated bounds triples stated pool
      → IsStated bounds (triples ++ t ∷ []) (record stated { count = stated.count + 1 }) pool
  IsStated-counted some few is = record {
    most = is.most;
    limit = is.limit;
    within = counted_within stated.excess some (omega (arith, is.most, few)) is.within;
  }

  -- the triple is stored, with the numbers of its terms
  module _ (u : Triple) (more : Vec Triple Global) (next : Pooled) (few : stated.count < stated.most)
      (stored : more.items ≡ stated.triples.items ++ u ∷ []) (limit : next.limit ≡ pool.limit)
      (entered : next.terms ≡ with_terms pool.terms (terms_of (t ∷ [])))
      (number : numbered next.terms t ≡ Some u)
      (is : IsStated bounds triples stated pool) where
    abbrev after : Stated
    after = record stated { triples = more; count = stated.count + 1 }

    stored_within : (excess : Option Excess) → is_some excess ≡ false
        → IsWithin excess bounds triples stated pool
        → IsWithin excess bounds (triples ++ t ∷ []) after next
    stored_within (Some excess) none within = absurd (cc)
    stored_within None none within =
        let one_more = length-append triples (t ∷ []) in (
          omega (arith, within.0, one_more),
          omega (arith, within.0, one_more, few, is.most),
          entered ∙ ap (λ xs. with_terms xs (terms_of (t ∷ []))) within.2
              ∙ sym (terms_with-push bounds triples t),
          stored ∙ ap (λ xs. xs ++ u ∷ []) within.3
              ∙ sym (numbered_all-push bounds pool.terms next.terms triples t u within.2 entered number),
        )

    pub IsStated-stored : is_some stated.excess ≡ false → IsStated bounds (triples ++ t ∷ []) after next
    IsStated-stored none = record {
      most = is.most;
      limit = limit ∙ is.limit;
      within = stored_within stated.excess none is.within;
    }

  -- the limit of terms is passed with those of the triple
  module _ (next : Pooled) (few : stated.count < stated.most) (limit : next.limit ≡ pool.limit)
      (past : pool.limit < length (with_terms pool.terms (terms_of (t ∷ []))))
      (is : IsStated bounds triples stated pool) where
    abbrev full : Stated
    full = record stated { count = stated.count + 1; excess = Some Terms }

    full_within : (excess : Option Excess) → is_some excess ≡ false
        → IsWithin excess bounds triples stated pool
        → IsWithin (Some Terms) bounds (triples ++ t ∷ []) full next
    full_within (Some excess) none within = absurd (cc)
    full_within None none within =
        let one_more = length-append triples (t ∷ []) in
        let terms : with_terms pool.terms (terms_of (t ∷ [])) ≡ terms_with bounds (triples ++ t ∷ []) =
        ap (λ xs. with_terms xs (terms_of (t ∷ []))) within.2 ∙ sym (terms_with-push bounds triples t) in (
          omega (arith, within.0, one_more),
          omega (arith, within.0, one_more, few, is.most),
          omega (arith, past, is.limit, ap length terms),
        )

    pub IsStated-full : is_some stated.excess ≡ false → IsStated bounds (triples ++ t ∷ []) full next
    IsStated-full none = record {
      most = is.most;
      limit = limit ∙ is.limit;
      within = full_within stated.excess none is.within;
    }
