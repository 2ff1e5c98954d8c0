-- Lists of distinct triples as sets: a test for a triple, and what an insertion and a removal leave.
use Rattle.std.specs.Prelude.{◌≡◌, Bool, true, false, List, [], ◌∷◌, ◌++◌, if◌then◌else◌, Contains, ◌↔◌}
use Rattle.std.specs.List.{list_any}
use Rattle.std.proofs.Common.{sym, ◌∙◌, subst, inl, inr}
use Rattle.shx_term.specs.declared.triple.Triple.{Triple}
use Rattle.shx_term.specs.Triple.{same_triple}
use Rattle.shx_term.specs.inner.TripleLaws.{same_triple_equiv, same_triple_exact}
use Rattle.shx_term.proofs.MemberLemmas.{Contains-test, Contains-insert, Contains-remove}
use Rattle.graph_view.specs.Graph.{HasAlso, IsWithout}

-- an answer of the test decides whether the triple is held
pub triple_held : (triples : List Triple) (t : Triple) (answer : Bool)
    → answer ≡ list_any (same_triple t) triples → (answer ≡ true) ↔ Contains triples t
triple_held triples t answer e =
    let decided = Contains-test same_triple same_triple_equiv same_triple_exact triples t in
    (λ h. decided.0 (sym e ∙ h), λ c. e ∙ decided.1 c)

-- a triple that is held adds nothing
pub HasAlso-held : (triples : List Triple) (t : Triple) → Contains triples t → HasAlso triples triples t
HasAlso-held triples t held = record {
  each = λ u. (λ c. inl c, λ h. elim h [ inl c ↦ c | inr e ↦ subst (Contains triples) (sym e) held ]);
}

pub HasAlso-insert : (triples : List Triple) (t : Triple)
    → HasAlso triples (if list_any (same_triple t) triples then triples else triples ++ t ∷ []) t
HasAlso-insert triples t = record {
  each = Contains-insert same_triple same_triple_equiv same_triple_exact triples t;
}

pub IsWithout-remove : (triples left : List Triple) (t : Triple)
    → ((u : Triple) → list_any (same_triple u) left
    ≡ (if same_triple t u then false else list_any (same_triple u) triples))
    → IsWithout triples left t
IsWithout-remove triples left t removed = record {
  each = Contains-remove same_triple same_triple_equiv same_triple_exact triples left t removed;
}
