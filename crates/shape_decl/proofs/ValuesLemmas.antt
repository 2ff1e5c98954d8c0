-- The values of a node, predicate after predicate.
use Rattle.std.specs.Prelude.{◌≡◌, ℕ, zero, suc, ◌+◌, List, [], ◌∷◌, ◌++◌, flat_map}
use Rattle.std.specs.List.{range_with_len}
use Rattle.std.proofs.Common.{ap, ◌∙◌, arith}
use Rattle.std.proofs.lemmas.List.{append-nil}
use Rattle.std.proofs.lemmas.List.Concat.{flat_map-append}
use Rattle.shx_term.specs.declared.vocabulary.TheConstants.{VOCABULARY_LEN}
use Rattle.graph_view.specs.Graph.{Graph, objects_of}
use Rattle.shape_decl.specs.Declarations.{Values, predicates, unless_empty, values_of}

-- the values of the first n predicates
abbrev pub values_below : Graph → ℕ → ℕ → List Values
values_below g node n = flat_map (λ p. unless_empty p (objects_of g node p)) (range_with_len 0 n)

range_more : (first n p : ℕ) → first + n ≡ p → range_with_len first (suc n) ≡ range_with_len first n ++ p ∷ []
range_more first zero p e = ap (λ q. q ∷ []) (omega (arith, e))
range_more first (suc n) p e = ap (λ rest. first ∷ rest) (range_more (first + 1) n p (omega (arith, e)))

pub values_more : (g : Graph) (node n : ℕ)
    → values_below g node (n + 1) ≡ values_below g node n ++ unless_empty n (objects_of g node n)
values_more g node n =
    let values = λ (p : ℕ). unless_empty p (objects_of g node p) in
    let next : n + 1 ≡ suc n = omega arith in
    ap (λ m. flat_map values (range_with_len 0 m)) next
    ∙ ap (flat_map values) (range_more 0 n n (omega arith))
    ∙ flat_map-append values (range_with_len 0 n) (n ∷ [])
    ∙ ap (λ more. values_below g node n ++ more) (append-nil (values n))

-- those of all of the vocabulary
pub values_all : (g : Graph) (node n : ℕ) → n ≡ VOCABULARY_LEN → values_below g node n ≡ values_of g node
unfolding values_of predicates
values_all g node n e = ap (values_below g node) e
