-- Constraints of one demand find the same, but for the numbers of shapes, and read the same.
use Rattle.std.specs.Prelude.{◌≡◌, ◌==◌, ℕ, Bool, not, List, [], ◌∷◌, flat_map}
use Rattle.std.specs.Prelude.{Some, if◌then◌else◌}
use Rattle.std.proofs.Common.{refl, sym, ap, ◌∙◌}
use Rattle.graph_view.specs.declared.key.Key.{Key}
use Rattle.graph_view.specs.declared.key.Key.TheVariants.{Out}
use Rattle.graph_view.specs.Graph.{Graph, objects_of, triples_of}
use Rattle.value_space.specs.Counts.{is_fewer, is_more}
use Rattle.comp_core.specs.declared.kinds.TheConstants.{CLASS, UNIQUE_LANG, EQUALS, NOT, AND, OR, XONE, NODE}
use Rattle.comp_core.specs.declared.kinds.TheConstants.{PROPERTY, QUALIFIED_MIN_COUNT, QUALIFIED_MAX_COUNT}
use Rattle.comp_core.specs.declared.kinds.TheConstants.{CLOSED, LESS_THAN_OR_EQUALS}
use Rattle.comp_core.specs.declared.pair.At.{At}
use Rattle.comp_core.specs.declared.pair.Pair.{Pair}
use Rattle.comp_core.specs.declared.row.ResultRow.{ResultRow}
use Rattle.comp_core.specs.Asking.{conforming_of, conforms, pair_of}
use Rattle.comp_core.specs.Results.{resting_on, unless}
use Rattle.comp_core.specs.Rows.{plain_row}
use Rattle.comp_core.specs.TermTests.{is_among, is_so_at}
use Rattle.value_components.specs.Class.{class_reads}
use Rattle.pair_components.specs.Equals.{each_missing}
use Rattle.pair_components.specs.PairResults.{each_beside, each_pair_unless}
use Rattle.qualified_shapes.specs.Closed.{closed_at, closed_hit, closed_reads, is_allowed}
use Rattle.shape_eval.specs.declared.constraint.Constraint.{Constraint}
use Rattle.shape_eval.specs.Constraint.{constraint_hits, constraint_reads, shapes_named}
use Rattle.shape_eval.specs.Content.{Demand, demand_of}
use Rattle.plan_swap.specs.Renumbered.{rows_renumbered}
use Rattle.plan_swap.proofs.AskedLemmas.{AllAnswerAlike, AnswersAlike, all_conform_alike, any_conforms_alike}
use Rattle.plan_swap.proofs.AskedLemmas.{asked_keys_alike, conforming_alike, conforms_alike, qualified_alike}
use Rattle.plan_swap.proofs.DemandLemmas.{by_first, count_test, fewer_hits, found_by, hits_by}
use Rattle.plan_swap.proofs.DemandLemmas.{ignored_in, is_between, is_counted, is_ordered, more_hits}
use Rattle.plan_swap.proofs.DemandLemmas.{negated_hits, node_hits, order_test, passed_on, permitted_in}
use Rattle.plan_swap.proofs.DemandLemmas.{read_by, reads_by, value_of, value_test}
use Rattle.plan_swap.proofs.RenumberLemmas.{at_renumbered, both_renumber, each_unless_renumbers}
use Rattle.plan_swap.proofs.RenumberLemmas.{either_renumbers, once_if_renumbers, parts_renumber}
use Rattle.plan_swap.proofs.RenumberLemmas.{replicate_renumbers, resting_renumbers, unless_renumbers}

-- ---- the forms of pair_components and of sh:closed

module _ (f : ℕ → ℕ) where
  pairs_renumber : (is_fine : ℕ → ℕ → Bool) (kind : ℕ) (at : At) (others vs : List ℕ)
      → each_pair_unless is_fine kind (at_renumbered f at) others vs
      ≡ rows_renumbered f (each_pair_unless is_fine kind at others vs)
  pairs_renumber is_fine kind at others vs =
      parts_renumber f (each_beside is_fine kind at others)
      (each_beside is_fine kind (at_renumbered f at) others) vs (λ v.
      parts_renumber f (λ w. unless (is_fine v w) kind at v)
      (λ w. unless (is_fine v w) kind (at_renumbered f at) v) others
      (λ w. unless_renumbers f (is_fine v w) (is_fine v w) kind at v refl))

  missing_renumber : (at : At) (others nodes : List ℕ)
      → each_missing (at_renumbered f at) others nodes ≡ rows_renumbered f (each_missing at others nodes)
  missing_renumber at others nodes =
      each_unless_renumbers f (λ v. is_among v others) (λ v. is_among v others) EQUALS at nodes (λ v. refl)

  closed_renumbers : (permitted ignored : List ℕ) (g : Graph) (at : At) (vs : List ℕ)
      → closed_at permitted ignored g (at_renumbered f at) vs
      ≡ rows_renumbered f (closed_at permitted ignored g at vs)
  closed_renumbers permitted ignored g at vs =
      parts_renumber f (λ v. flat_map (closed_hit permitted ignored at) (triples_of g v))
      (λ v. flat_map (closed_hit permitted ignored (at_renumbered f at)) (triples_of g v)) vs (λ v.
      parts_renumber f (closed_hit permitted ignored at) (closed_hit permitted ignored (at_renumbered f at))
      (triples_of g v) (λ t.
      either_renumbers f (is_allowed permitted ignored t.p) [] _ []
      (plain_row at.focus (Some t.o) (Some t.p) at.shape CLOSED ∷ []) refl refl))

-- ---- constraints of one demand

module _ (f : ℕ → ℕ) (m n : Pair → List ResultRow) (r q : Pair → List Key) where
  by_first_renumbers : (new old : ℕ → List ℕ → List ResultRow) (is js : List ℕ)
      → AllAnswerAlike f m n r q is js
      → ((i j : ℕ) (others others' : List ℕ) → AnswersAlike f m n r q i j
      → AllAnswerAlike f m n r q others others' → new j others' ≡ rows_renumbered f (old i others))
      → by_first new js ≡ rows_renumbered f (by_first old is)
  by_first_renumbers new old [] [] alike each = refl
  by_first_renumbers new old [] (j ∷ js) alike each = absurd alike
  by_first_renumbers new old (i ∷ is) [] alike each = absurd alike
  by_first_renumbers new old (i ∷ is) (j ∷ js) alike each = each i j is js alike.0 alike.1

  module _ (d : Demand) (g : Graph) (is js : List ℕ) (alike : AllAnswerAlike f m n r q is js) (at : At)
      (vs : List ℕ) where
    abbrev later : At
    later = at_renumbered f at

    negated : by_first (negated_hits d g n later vs) js
        ≡ rows_renumbered f (by_first (negated_hits d g m at vs) is)
    negated = by_first_renumbers _ _ is js alike (λ i j others others' first rest.
        each_unless_renumbers f (λ v. not (conforms n v j)) (λ v. not (conforms m v i)) d.kind at vs
        (λ v. ap not (conforms_alike f m n r q i j first v)))

    at_node : by_first (node_hits d g n later vs) js ≡ rows_renumbered f (by_first (node_hits d g m at vs) is)
    at_node = by_first_renumbers _ _ is js alike (λ i j others others' first rest.
        parts_renumber f (λ v. resting_on (m (pair_of v i)) d.kind at v)
        (λ v. resting_on (n (pair_of v j)) d.kind later v) vs
        (λ v. resting_renumbers f (n (pair_of v j)) (m (pair_of v i)) d.kind at v (first.rows v)))

    handed_on : by_first (passed_on d g n later vs) js
        ≡ rows_renumbered f (by_first (passed_on d g m at vs) is)
    handed_on = by_first_renumbers _ _ is js alike (λ i j others others' first rest.
        parts_renumber f (λ v. m (pair_of v i)) (λ v. n (pair_of v j)) vs first.rows)

    fewer : by_first (fewer_hits d g n later vs) js ≡ rows_renumbered f (by_first (fewer_hits d g m at vs) is)
    fewer = by_first_renumbers _ _ is js alike (λ i j others others' first rest.
        once_if_renumbers f _ _ d.kind at (ap (λ count. is_so_at (is_fewer count) g (value_of d))
        (qualified_alike f m n r q i j first others others' rest vs)))

    more : by_first (more_hits d g n later vs) js ≡ rows_renumbered f (by_first (more_hits d g m at vs) is)
    more = by_first_renumbers _ _ is js alike (λ i j others others' first rest.
        once_if_renumbers f _ _ d.kind at (ap (λ count. is_so_at (is_more count) g (value_of d))
        (qualified_alike f m n r q i j first others others' rest vs)))

    hits_renumber : hits_by d js g n later vs ≡ rows_renumbered f (hits_by d is g m at vs)
    hits_renumber =
        let objects = objects_of g at.focus (value_of d) in
        either_renumbers f (is_counted d.kind) _ _ _ _
        (once_if_renumbers f (count_test d g vs) (count_test d g vs) d.kind at refl)
        (either_renumbers f (d.kind == UNIQUE_LANG) _ _ _ _ (replicate_renumbers f _ _)
        (either_renumbers f (d.kind == EQUALS) _ _ _ _
        (both_renumber f _ _ _ _ (missing_renumber f at objects vs) (missing_renumber f at vs objects))
        (either_renumbers f (is_ordered d.kind) _ _ _ _
        (pairs_renumber f (order_test d g) d.kind at objects vs)
        (either_renumbers f (d.kind == NOT) _ _ _ _ negated
        (either_renumbers f (d.kind == AND) _ _ _ _
        (each_unless_renumbers f _ _ d.kind at vs (all_conform_alike f m n r q is js alike))
        (either_renumbers f (d.kind == OR) _ _ _ _
        (each_unless_renumbers f _ _ d.kind at vs (any_conforms_alike f m n r q is js alike))
        (either_renumbers f (d.kind == XONE) _ _ _ _
        (each_unless_renumbers f (λ v. conforming_of n js v == 1) (λ v. conforming_of m is v == 1) d.kind at
        vs
        (λ v. ap (λ count. count == 1) (conforming_alike f m n r q is js alike v)))
        (either_renumbers f (d.kind == NODE) _ _ _ _ at_node
        (either_renumbers f (d.kind == PROPERTY) _ _ _ _ handed_on
        (either_renumbers f (d.kind == QUALIFIED_MIN_COUNT) _ _ _ _ fewer
        (either_renumbers f (d.kind == QUALIFIED_MAX_COUNT) _ _ _ _ more
        (either_renumbers f (d.kind == CLOSED) _ _ _ _
        (closed_renumbers f (permitted_in d.content) (ignored_in d.content) g at vs)
        (each_unless_renumbers f (value_test d g at.focus) (value_test d g at.focus) d.kind at vs
        (λ v. refl))))))))))))))

    keys_same : reads_by d js g q at.focus vs ≡ reads_by d is g r at.focus vs
    keys_same =
        ap (λ asked.
        if d.kind == CLASS then class_reads g vs
        else if is_between EQUALS LESS_THAN_OR_EQUALS d.kind then Out at.focus (value_of d) ∷ []
        else if is_between NOT QUALIFIED_MAX_COUNT d.kind then asked
        else if d.kind == CLOSED then closed_reads vs
        else [])
        (asked_keys_alike f m n r q is js alike vs)

  module _ (old new : List ℕ) (c d : Constraint) (same : demand_of old c ≡ demand_of new d)
      (alike : AllAnswerAlike f m n r q (shapes_named c) (shapes_named d)) (g : Graph) (at : At) (vs : List ℕ)
    where
      pub constraint_renumbers : constraint_hits d g n (at_renumbered f at) vs
          ≡ rows_renumbered f (constraint_hits c g m at vs)
      constraint_renumbers =
          found_by new d g n (at_renumbered f at) vs
          ∙ ap (λ e. hits_by e (shapes_named d) g n (at_renumbered f at) vs) (sym same)
          ∙ hits_renumber (demand_of old c) g (shapes_named c) (shapes_named d) alike at vs
          ∙ ap (rows_renumbered f) (sym (found_by old c g m at vs))

      pub constraint_reads_same : constraint_reads d g q (at_renumbered f at) vs
          ≡ constraint_reads c g r at vs
      constraint_reads_same =
          read_by new d g q (at_renumbered f at) vs
          ∙ ap (λ e. reads_by e (shapes_named d) g q at.focus vs) (sym same)
          ∙ keys_same (demand_of old c) g (shapes_named c) (shapes_named d) alike at vs
          ∙ sym (read_by old c g r at vs)
