-- A shape without constraints is a plan by itself.
use Rattle.std.specs.Prelude.{◌≡◌, ℕ, zero, suc, ◌<◌, ◌≤◌, nat_eq, List, [], ◌∷◌, Some}
use Rattle.std.specs.Prelude.{Contains, flat_map, length}
use Rattle.std.specs.List.{IsDistinct}
use Rattle.std.specs.List.Sorted.{IsStrictlySortedBy}
use Rattle.std.specs.declared.cmp.Ordering.{Ordering}
use Rattle.std.proofs.Common.{refl, ap, subst, arith}
use Rattle.std.proofs.lemmas.List.Elements.{All-cons, All-nil}
use Rattle.shx_term.specs.declared.term.Term.{Term}
use Rattle.shx_term.specs.IdOrder.{id_cmp}
use Rattle.shx_term.proofs.MemberLemmas.{none_in_empty}
use Rattle.path_eval.specs.declared.path.Path.TheVariants.{Pred}
use Rattle.shape_eval.specs.declared.shape.PlanShape.{PlanShape}
use Rattle.shape_eval.specs.Constraint.{IsReadOf, shapes_named}
use Rattle.shape_eval.specs.Plan.{AreInOrder, HasTermsOf, IsOrderly, IsPlan, nodes_of, references}
use Rattle.report_rows.specs.Bare.{IsBare}

none_in_order : (terms : List Term) → AreInOrder terms []
none_in_order terms = record { each = λ i j c d less at_i at_j. absurd cc }

one_sorted : (cmp : ℕ → ℕ → Ordering) (id : ℕ) → IsStrictlySortedBy cmp (id ∷ [])
unfolding IsStrictlySortedBy
one_sorted cmp id = (tt, tt)

-- within so many terms, with one message, a path of one predicate, and nothing else
pub bare_shape : (terms : List Term) (sh : PlanShape) (id : ℕ) → 62 ≤ length terms → sh.node < 62
    → sh.severity < 62 → sh.path ≡ Some (Pred 1) → sh.messages.items ≡ id ∷ [] → id < 62
    → sh.targets.items ≡ [] → sh.constraints.items ≡ [] → IsBare terms sh
bare_shape terms sh id many node severity path messages inside targets bare =
    let P = λ (one : ℕ). one < length terms in
    record {
      known = record {
        node = omega (arith, node, many);
        severity = omega (arith, severity, many);
        messages = rw messages (All-cons P id [] (omega (arith, inside, many)) (All-nil P));
        path = rw path (All-cons P 1 [] (omega (arith, many)) (All-nil P));
        targets = rw targets (All-nil P);
        constraints = rw bare (All-nil P);
        read = rw bare (All-nil (λ c. IsReadOf c terms));
      };
      orderly = record {
        messages = rw messages (one_sorted (id_cmp terms) id);
        constraints = rw bare (none_in_order terms);
        path = rw path (omega arith);
      };
      bare = bare;
    }

module _ (terms : List Term) (sh : PlanShape) (is : IsBare terms sh) where
  abbrev pub alone : List PlanShape
  alone = sh ∷ []

  refers_to_none : (i : ℕ) → references alone i ≡ []
  refers_to_none zero = ap (flat_map shapes_named) is.bare
  refers_to_none (suc i) = refl

  in_none : (i j : ℕ) → Contains (references alone i) j → ⊥
  in_none i j held = none_in_empty j (subst (λ names. Contains names j) (refers_to_none i) held)

  distinct_node : IsDistinct nat_eq (nodes_of alone)
  unfolding IsDistinct
  distinct_node = (tt, tt)

  pub plan_of_one : IsPlan terms alone
  plan_of_one = record {
    few = omega arith;
    distinct = distinct_node;
    refers = record { lower = λ i j held. absurd (in_none i j held) };
    shallow = λ i steps. in_none i steps.0 steps.1;
    known = record { each = All-cons (HasTermsOf terms) sh [] is.known (All-nil (HasTermsOf terms)) };
    orderly = All-cons (IsOrderly terms) sh [] is.orderly (All-nil (IsOrderly terms));
  }
