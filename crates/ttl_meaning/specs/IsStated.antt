-- How the triples so far are stored: numbered, unless a limit was passed.
use Rattle.std.specs.Prelude.{◌≡◌, ℕ, ◌<◌, ◌≤◌, List, length, Option, Some, None}
use Rattle.shx_term.specs.declared.term.Term.{Term}
use Rattle.shx_term.specs.declared.triple.TermTriple.{TermTriple}
use Rattle.shx_term.specs.Pool.{Pooled, with_terms}
use Rattle.shx_term.specs.TripleTerms.{terms_of, numbered_all}
use Rattle.ttl_meaning.specs.declared.stated.Stated.{Stated}
use Rattle.ttl_meaning.specs.declared.stated.Excess.{Excess}
use Rattle.ttl_meaning.specs.declared.stated.Excess.TheVariants.{Triples, Terms}

-- what a text is read within: the limits of triples and of terms, and the terms that are held before it
pub record Bounds : Type 0 where
  pub triples : ℕ
  pub terms : ℕ
  pub held : List Term

abbrev pub triple_of : Term → Term → Term → TermTriple
triple_of s p o = record { s = s; p = p; o = o }

-- the terms that are held with those of the triples
abbrev pub terms_with : Bounds → List TermTriple → List Term
terms_with bounds triples = with_terms bounds.held (terms_of triples)

abbrev pub IsWithin : Option Excess → Bounds → List TermTriple → Stated → Pooled → Type 0
IsWithin None bounds triples stated pool =
    (stated.count ≡ length triples) × (length triples ≤ bounds.triples)
    × (pool.terms ≡ terms_with bounds triples)
    × (stated.triples.items ≡ numbered_all pool.terms triples)
IsWithin (Some Terms) bounds triples stated pool =
    (stated.count ≡ length triples) × (length triples ≤ bounds.triples)
    × (bounds.terms < length (terms_with bounds triples))
IsWithin (Some Triples) bounds triples stated pool =
    (stated.count ≡ bounds.triples) × (bounds.triples < length triples)

pub record IsStated (bounds : Bounds) (triples : List TermTriple) (stated : Stated) (pool : Pooled)
    : Type 0 where
  pub most : stated.most ≡ bounds.triples
  pub limit : pool.limit ≡ bounds.terms
  pub within : IsWithin stated.excess bounds triples stated pool
