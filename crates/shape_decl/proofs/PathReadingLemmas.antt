-- The nodes of a path with their depth, and with the levels that are left: the same count, or the same fault.
use Rattle.std.specs.Prelude.{◌≡◌, ℕ, ◌+◌, zero, suc, Bool, ◌==◌, nat_lt, ◌||◌, List, [], ◌∷◌, ◌++◌, flat_map}
use Rattle.std.specs.Prelude.{Some, Result, if◌then◌else◌, ⊤}
use Rattle.std.proofs.Common.{refl, sym, ap, ◌∙◌, subst, arith}
use Rattle.std.proofs.lemmas.Bool.Decides.{nat_tests}
use Rattle.shx_term.specs.declared.limits.Limits.{Limits}
use Rattle.graph_view.specs.Graph.{Graph}
use Rattle.shape_decl.specs.declared.path_fault.PathFault.{PathFault}
use Rattle.shape_decl.specs.declared.path_fault.PathFault.TheVariants as fault
use Rattle.shape_decl.specs.PathForms.{form_of, parts_in}
use Rattle.shape_decl.specs.PathReadings.{Met, unfolded, fault_of, fault_of_form, unless_fault}
use Rattle.shape_decl.specs.PathReadings.{parts_or_fault, route_at, read_unless, path_reading}
use Rattle.shape_decl.specs.inner.Visits.{Visit, visits, visit_fault, counted}

module _ (limits : Limits) (g : Graph) where
  -- the same nodes, each as deep as the levels that are left for it say
  abbrev AreSame : List Met → List Visit → Type 0
  AreSame [] [] = ⊤
  AreSame (met ∷ mets) (visit ∷ more) =
      (met.node ≡ visit.node) × (met.depth + visit.left ≡ limits.path_depth + 1) × AreSame mets more
  AreSame mets more = ⊥

  same_fault : (before : ℕ) (met : Met) (visit : Visit) → met.node ≡ visit.node
      → met.depth + visit.left ≡ limits.path_depth + 1
      → fault_of limits g before met ≡ visit_fault g limits.path_parts before visit
  same_fault before met visit node depth =
      let many = nat_lt limits.path_parts (before + 1) in
      let deep : nat_lt limits.path_depth met.depth ≡ (visit.left == 0) = grind (arith, nat_tests) in
      ap (λ (b : Bool). if b || many then Some fault.TooDeep else fault_of_form (form_of g met.node)) deep
      ∙ ap (λ n. if (visit.left == 0) || many then Some fault.TooDeep else fault_of_form (form_of g n)) node

  same_count : (before : ℕ) (mets : List Met) (more : List Visit) → AreSame mets more
      → parts_or_fault limits g before mets ≡ counted g limits.path_parts before more
  same_count before [] [] same = refl
  same_count before [] (visit ∷ more) same = absurd same
  same_count before (met ∷ mets) [] same = absurd same
  same_count before (met ∷ mets) (visit ∷ more) same =
      ap (λ f. unless_fault f (parts_or_fault limits g (before + 1) mets))
      (same_fault before met visit same.0 same.1)
      ∙ ap (unless_fault (visit_fault g limits.path_parts before visit))
      (same_count (before + 1) mets more same.2)

  same_append : (mets more : List Met) (front rest : List Visit) → AreSame mets front → AreSame more rest
      → AreSame (mets ++ more) (front ++ rest)
  same_append [] more [] rest a b = b
  same_append [] more (visit ∷ front) rest a b = absurd a
  same_append (met ∷ mets) more [] rest a b = absurd a
  same_append (met ∷ mets) more (visit ∷ front) rest a b =
      (a.0, a.1, same_append mets more front rest a.2 b)

  nothing_below : (depth : ℕ) (nodes : List ℕ) → flat_map (unfolded g zero depth) nodes ≡ []
  nothing_below depth [] = refl
  nothing_below depth (node ∷ nodes) = nothing_below depth nodes

  same_row : (levels depth left : ℕ)
      → ((node : ℕ) → AreSame (unfolded g levels depth node) (visits g left node))
      → (nodes : List ℕ) → AreSame (flat_map (unfolded g levels depth) nodes) (flat_map (visits g left) nodes)
  same_row levels depth left each [] = tt
  same_row levels depth left each (node ∷ nodes) =
      same_append (unfolded g levels depth node) (flat_map (unfolded g levels depth) nodes)
      (visits g left node) (flat_map (visits g left) nodes) (each node)
      (same_row levels depth left each nodes)

  same_nodes : (left depth node : ℕ) → depth + left ≡ limits.path_depth + 1
      → AreSame (unfolded g (suc left) depth node) (visits g left node)
  unfolding visits
  same_nodes zero depth node e =
      let none = nothing_below (depth + 1) (parts_in (form_of g node)) in
      (refl, e, subst (λ mets. AreSame mets []) (sym none) tt)
  same_nodes (suc left) depth node e =
      let inside = parts_in (form_of g node) in
      let below : depth + 1 + left ≡ limits.path_depth + 1 = omega arith in
      (refl, e, same_row (suc left) (depth + 1) left (λ n. same_nodes left (depth + 1) n below) inside)

  -- the reading of a path is what the count of its nodes makes of it
  pub counted_reading : (head : ℕ) (outcome : Result ℕ PathFault)
      → counted g limits.path_parts 0 (visits g limits.path_depth head) ≡ outcome
      → path_reading limits g head ≡ read_unless (route_at g limits.path_depth head) outcome
  counted_reading head outcome is =
      let levels = limits.path_depth in
      let same = same_nodes levels 1 head (omega arith) in
      ap (read_unless (route_at g levels head))
      (same_count 0 (unfolded g (suc levels) 1 head) (visits g levels head) same ∙ is)
