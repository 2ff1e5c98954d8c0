-- What a constraint asks is of the shapes that it names, and of value nodes.
use Rattle.std.specs.Prelude.{ℕ, List, [], ◌∷◌, Contains}
use Rattle.std.proofs.Common.{subst, sym}
use Rattle.shx_term.proofs.MemberLemmas.{Contains-from_flat_map, Contains-from_map, none_in_empty}
use Rattle.comp_core.specs.declared.pair.Pair.{Pair}
use Rattle.comp_core.specs.Asking.{pair_of, pairs_asked, pairs_at}
use Rattle.shape_eval.specs.declared.constraint.Constraint.{Constraint}
use Rattle.shape_eval.specs.declared.constraint.Constraint.TheVariants as any
use Rattle.shape_eval.specs.Constraint.{constraint_asks, shapes_named}

of_shapes : (shapes vs : List ℕ) (d : Pair) → Contains (pairs_asked shapes vs) d → Contains shapes d.shape
of_shapes shapes vs d asked =
    let at = Contains-from_flat_map (pairs_at shapes) vs d asked in
    let named = Contains-from_map (pair_of at.0) shapes d at.2 in
    subst (λ (e : Pair). Contains shapes e.shape) (sym named.2) named.1

pub asked_is_named : (c : Constraint) (vs : List ℕ) (d : Pair) → Contains (constraint_asks c vs) d
    → Contains (shapes_named c) d.shape
asked_is_named (any.Class c) vs d asked = absurd (none_in_empty d asked)
asked_is_named (any.Datatype c) vs d asked = absurd (none_in_empty d asked)
asked_is_named (any.NodeKind c) vs d asked = absurd (none_in_empty d asked)
asked_is_named (any.MinCount c) vs d asked = absurd (none_in_empty d asked)
asked_is_named (any.MaxCount c) vs d asked = absurd (none_in_empty d asked)
asked_is_named (any.MinExclusive c) vs d asked = absurd (none_in_empty d asked)
asked_is_named (any.MinInclusive c) vs d asked = absurd (none_in_empty d asked)
asked_is_named (any.MaxExclusive c) vs d asked = absurd (none_in_empty d asked)
asked_is_named (any.MaxInclusive c) vs d asked = absurd (none_in_empty d asked)
asked_is_named (any.MinLength c) vs d asked = absurd (none_in_empty d asked)
asked_is_named (any.MaxLength c) vs d asked = absurd (none_in_empty d asked)
asked_is_named (any.Pattern c) vs d asked = absurd (none_in_empty d asked)
asked_is_named (any.LanguageIn c) vs d asked = absurd (none_in_empty d asked)
asked_is_named (any.UniqueLang c) vs d asked = absurd (none_in_empty d asked)
asked_is_named (any.Equals c) vs d asked = absurd (none_in_empty d asked)
asked_is_named (any.Disjoint c) vs d asked = absurd (none_in_empty d asked)
asked_is_named (any.LessThan c) vs d asked = absurd (none_in_empty d asked)
asked_is_named (any.LessThanOrEquals c) vs d asked = absurd (none_in_empty d asked)
asked_is_named (any.Not c) vs d asked = of_shapes (c.shape ∷ []) vs d asked
asked_is_named (any.And c) vs d asked = of_shapes c.shapes.items vs d asked
asked_is_named (any.Or c) vs d asked = of_shapes c.shapes.items vs d asked
asked_is_named (any.Xone c) vs d asked = of_shapes c.shapes.items vs d asked
asked_is_named (any.Node c) vs d asked = of_shapes (c.shape ∷ []) vs d asked
asked_is_named (any.Property c) vs d asked = of_shapes (c.shape ∷ []) vs d asked
asked_is_named (any.QualifiedMinCount c) vs d asked = of_shapes (c.shape ∷ c.siblings.items) vs d asked
asked_is_named (any.QualifiedMaxCount c) vs d asked = of_shapes (c.shape ∷ c.siblings.items) vs d asked
asked_is_named (any.Closed c) vs d asked = absurd (none_in_empty d asked)
asked_is_named (any.HasValue c) vs d asked = absurd (none_in_empty d asked)
asked_is_named (any.In c) vs d asked = absurd (none_in_empty d asked)
