-- How contexts are kept: with terms, or with the numbers that these have in a pool.
use Rattle.std.specs.Prelude.{◌≡◌, List, [], ◌∷◌, Some, slice_get}
use Rattle.shx_term.specs.declared.term.Term.{Term as term}
use Rattle.shx_term.specs.declared.term.Term.TheVariants.{Iri}
use Rattle.ttl_meaning.specs.declared.placed.Placed.{Placed}
use Rattle.ttl_meaning.specs.declared.placed.Placed.TheVariants.{Term, Id}
use Rattle.ttl_meaning.specs.declared.context.Context.{Context as kept_context}
use Rattle.ttl_meaning.specs.declared.context.Context.TheVariants.{Open as AnOpen, About as AnAbout}
use Rattle.ttl_meaning.specs.declared.context.Context.TheVariants.{Of as AnOf}
use Rattle.ttl_meaning.specs.State.{Context, Open, About, Of, subject_term}

-- a term stands as itself, or by its number
abbrev pub IsPlaced : List term → Placed → term → Type 0
IsPlaced terms (Term u) t = u ≡ t
IsPlaced terms (Id id) t = slice_get terms id ≡ Some t

abbrev pub IsContext : List term → kept_context → Context → Type 0
IsContext terms AnOpen Open = Unit
IsContext terms (AnAbout subject) (About s) = IsPlaced terms subject (subject_term s)
IsContext terms (AnOf subject verb) (Of s iri) =
    IsPlaced terms subject (subject_term s) × IsPlaced terms verb (Iri iri)
IsContext terms kept context = ⊥

-- one by one
abbrev pub AreContexts : List term → List kept_context → List Context → Type 0
AreContexts terms [] [] = Unit
AreContexts terms (kept ∷ outer) (context ∷ others) =
    IsContext terms kept context × AreContexts terms outer others
AreContexts terms outer others = ⊥
