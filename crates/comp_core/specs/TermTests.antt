-- Tests of numbers, and of the terms that they have. Nothing is so of a number that has no term.
use Rattle.std.specs.Prelude.{ℕ, Bool, false, ◌==◌, List, Option, Some, None, slice_get}
use Rattle.std.specs.List.{list_any}
use Rattle.shx_term.specs.declared.term.Term.{Term}
use Rattle.graph_view.specs.Graph.{Graph}

-- the same term, since distinct terms have distinct numbers
abbrev pub is_among : ℕ → List ℕ → Bool
is_among id ids = list_any (λ other. other == id) ids

abbrev pub is_so : {X : Type 0} → (X → Bool) → Option X → Bool
is_so test None = false
is_so test (Some x) = test x

abbrev pub are_so : (Term → Term → Bool) → Option Term → Option Term → Bool
are_so test None u = false
are_so test (Some t) u = is_so (test t) u

abbrev pub is_so_at : (Term → Bool) → Graph → ℕ → Bool
is_so_at test g id = is_so test (slice_get g.terms id)

-- of the terms of two numbers
abbrev pub are_so_at : (Term → Term → Bool) → Graph → ℕ → ℕ → Bool
are_so_at test g a b = are_so test (slice_get g.terms a) (slice_get g.terms b)
