-- What is read as a path is a path in the Recommendation's words, within the limits.
use Rattle.std.specs.Prelude.{◌≡◌, ℕ, ◌+◌, ◌-◌, ◌<◌, ◌≤◌, zero, suc, ◌==◌, nat_lt, ◌||◌, Bool, true, false}
use Rattle.std.specs.Prelude.{List, [], ◌∷◌, map, Option, Some, None, Result, Ok, Err, if◌then◌else◌}
use Rattle.std.proofs.Common.{refl, sym, ap, ◌∙◌, subst, arith}
use Rattle.std.proofs.lemmas.Bool.Decides.{nat_tests}
use Rattle.graph_view.specs.Graph.{Graph}
use Rattle.path_eval.specs.Route.{Route}
use Rattle.shape_decl.specs.declared.path_fault.PathFault.{PathFault}
use Rattle.shape_decl.specs.declared.path_fault.PathFault.TheVariants as fault
use Rattle.shape_decl.specs.inner.Visits.{Visit, visits, row_visits, counted}
use Rattle.shape_decl.specs.PathForms.{PathForm, Predicate, Sequence, Alternative, Inverse, ZeroOrMore}
use Rattle.shape_decl.specs.PathForms.{OneOrMore, ZeroOrOne, Formless, form_of, parts_in}
use Rattle.shape_decl.specs.PathReadings.{Read, fault_of_form, unless_fault, read_unless, route_at, route_by}
use Rattle.shape_decl.specs.Paths.{ArePaths, IsPathBy, PredicatePath, SequencePath, AlternativePath}
use Rattle.shape_decl.specs.Paths.{InversePath, ZeroOrMorePath, OneOrMorePath, ZeroOrOnePath, IsPath}
use Rattle.shape_decl.specs.Paths.{PathsAreRead}
use Rattle.shape_decl.proofs.NestingLemmas.{same_route}
use Rattle.shape_decl.proofs.PathFormLemmas.{HasForm, form_from_words, form_in_words, form_sound}
use Rattle.shape_decl.proofs.PathReadingLemmas.{counted_reading}
use Rattle.shape_decl.proofs.VisitLemmas.{counted_after, counted_in_turn, node_meets}

-- ---- nodes of which all are counted

-- a node that is counted is neither past a limit nor at fault
no_fault : (past : Bool) (f : Option PathFault) (more : Result ℕ PathFault) (after : ℕ)
    → unless_fault (if past then Some fault.TooDeep else f) more ≡ Ok after
    → (past ≡ false) × (f ≡ None) × (more ≡ Ok after)
no_fault true f more after h = cc
no_fault false None more after h = (refl, refl, h)
no_fault false (Some e) more after h = cc

module _ (g : Graph) (limit : ℕ) where
  within_limit : (before : ℕ) (xs : List Visit) (after : ℕ) → before ≤ limit
      → counted g limit before xs ≡ Ok after → after ≤ limit
  within_limit before [] after few h =
      let same : before ≡ after = cc in
      omega (arith, few, same)
  within_limit before (x ∷ xs) after few h =
      let met = no_fault ((x.left == 0) || nat_lt limit (before + 1)) (fault_of_form (form_of g x.node))
      (counted g limit (before + 1) xs) after h in
      let past : (x.left == 0) || nat_lt limit (before + 1) ≡ false = met.0 in
      within_limit (before + 1) xs after (grind (arith, nat_tests)) met.2

-- ---- what is counted is a path

-- a node with a form, whose parts are paths, is a path
path_by_form : (g : Graph) (IsInside : ℕ → Route → ℕ → Type 0) (inner : ℕ → Route) (node : ℕ)
    (form : PathForm) (n : ℕ) → HasForm g node form
    → ArePaths IsInside (parts_in form) (map inner (parts_in form)) n
    → IsPathBy g IsInside node (route_by inner node form) (n + 1)
path_by_form g IsInside inner node Predicate n has inside = PredicatePath has refl (omega (arith, inside))
path_by_form g IsInside inner node (Sequence nodes) n has inside =
    SequencePath has.0 nodes has.1 (map inner nodes) n inside refl refl
path_by_form g IsInside inner node (Alternative nodes) n has inside =
    AlternativePath has.0 has.1 nodes has.2 (map inner nodes) n inside refl refl
path_by_form g IsInside inner node (Inverse part) n has inside =
    InversePath part has (inner part) inside.0 inside.2 refl (omega (arith, inside.3, inside.4))
path_by_form g IsInside inner node (ZeroOrMore part) n has inside =
    ZeroOrMorePath part has (inner part) inside.0 inside.2 refl (omega (arith, inside.3, inside.4))
path_by_form g IsInside inner node (OneOrMore part) n has inside =
    OneOrMorePath part has (inner part) inside.0 inside.2 refl (omega (arith, inside.3, inside.4))
path_by_form g IsInside inner node (ZeroOrOne part) n has inside =
    ZeroOrOnePath part has (inner part) inside.0 inside.2 refl (omega (arith, inside.3, inside.4))
path_by_form g IsInside inner node Formless n has inside = absurd has

module _ (g : Graph) (limit : ℕ) where
  -- the node is a path, by which the count grew
  abbrev IsPathFrom : ℕ → ℕ → ℕ → ℕ → Type 0
  IsPathFrom left node before after =
      (parts : ℕ) × IsPath g left node (route_at g left node) parts × (after ≡ before + parts)

  paths_of_row : (left : ℕ)
      → ((node before after : ℕ) → counted g limit before (visits g left node) ≡ Ok after
      → IsPathFrom left node before after)
      → (nodes : List ℕ) (before after : ℕ) → counted g limit before (row_visits g left nodes) ≡ Ok after
      → (n : ℕ) × ArePaths (IsPath g left) nodes (map (route_at g left) nodes) n × (after ≡ before + n)
  paths_of_row left each [] before after h =
      let same : before ≡ after = cc in
      (0, refl, omega (arith, same))
  paths_of_row left each (node ∷ nodes) before after h =
      let turn = counted_in_turn g limit before (visits g left node) (row_visits g left nodes) after h in
      let one = each node before turn.0 turn.1 in
      let rest = paths_of_row left each nodes turn.0 after turn.2 in
      (one.0 + rest.0, (one.0, rest.0, one.1, rest.1, refl), omega (arith, one.2, rest.2))

  path_of_count : (left node before after : ℕ) → counted g limit before (visits g left node) ≡ Ok after
      → IsPathFrom left node before after
  unfolding visits
  path_of_count zero node before after h = cc
  path_of_count (suc left) node before after h =
      let form = form_of g node in
      let met = no_fault ((suc left == 0) || nat_lt limit (before + 1)) (fault_of_form form)
      (counted g limit (before + 1) (row_visits g left (parts_in form))) after h in
      let inside = paths_of_row left (path_of_count left) (parts_in form) (before + 1) after met.2 in
      let path = path_by_form g (IsPath g left) (route_at g left) node form inside.0
      (form_in_words g node met.1) inside.1 in
      (inside.0 + 1, path, omega (arith, inside.2))

-- ---- a path is counted

-- the node is read as this route, and so many parts are counted, where there is room for them
abbrev IsCounted : Graph → ℕ → ℕ → ℕ → Route → ℕ → Type 0
IsCounted g limit left node route parts =
    (before : ℕ) → before + parts ≤ limit
    → (counted g limit before (visits g left node) ≡ Ok (before + parts)) × (route_at g left node ≡ route)

abbrev AreCounted : Graph → ℕ → ℕ → List ℕ → List Route → ℕ → Type 0
AreCounted g limit left nodes routes n =
    (before : ℕ) → before + n ≤ limit
    → (counted g limit before (row_visits g left nodes) ≡ Ok (before + n))
    × (map (route_at g left) nodes ≡ routes)

module _ (g : Graph) (limit left : ℕ)
    (each : (node : ℕ) (route : Route) (parts : ℕ) → IsPath g left node route parts
    → IsCounted g limit left node route parts) where
  row_counted : (nodes : List ℕ) (routes : List Route) (n : ℕ) → ArePaths (IsPath g left) nodes routes n
      → AreCounted g limit left nodes routes n
  row_counted [] [] n are before few = (ap Ok (omega (arith, are)), refl)
  row_counted [] (route ∷ routes) n are before few = absurd are
  row_counted (node ∷ nodes) [] n are before few = absurd are
  row_counted (node ∷ nodes) (route ∷ routes) n are before few =
      let one = each node route are.0 are.2 before (omega (arith, are.4)) in
      let mid = before + are.0 in
      let rest = row_counted nodes routes are.1 are.3 mid (omega (arith, are.4)) in
      let whole : mid + are.1 ≡ before + n = omega (arith, are.4) in (
        counted_after g limit before (visits g left node) (row_visits g left nodes) mid one.0
            ∙ rest.0 ∙ ap Ok whole,
        ap (λ r. r ∷ map (route_at g left) nodes) one.1 ∙ ap (λ rs. route ∷ rs) rest.1,
      )

  -- a path that stands inside alone
  alone : (inner : ℕ) (r : Route) (n : ℕ) → IsPath g left inner r n
      → ArePaths (IsPath g left) (inner ∷ []) (r ∷ []) n
  alone inner r n inside = (n, 0, inside, refl, omega arith)

  module _ (node : ℕ) (route : Route) (parts : ℕ) where
    form_counted : (form : PathForm) (routes : List Route) (n : ℕ) → HasForm g node form
        → ArePaths (IsPath g left) (parts_in form) routes n
        → (map (route_at g left) (parts_in form) ≡ routes → route_by (route_at g left) node form ≡ route)
        → parts ≡ n + 1 → IsCounted g limit (suc left) node route parts
    form_counted form routes n has inside made sum before few =
        let is = form_from_words g node form has in
        let room : before < limit = omega (arith, sum) in
        let met = node_meets g limit before (suc left) node form (omega arith) room (sym is) in
        let row = row_counted (parts_in form) routes n inside (before + 1) (omega (arith, sum)) in
        let more = λ (k : ℕ). counted g limit (before + 1) (row_visits g k (parts_in form)) in
        let down : suc left - 1 ≡ left = omega arith in
        let whole : before + 1 + n ≡ before + parts = omega (arith, sum) in (
          met.parts ∙ ap (λ f. unless_fault f (more (suc left - 1))) (form_sound g node form has)
              ∙ ap more down ∙ row.0 ∙ ap Ok whole,
          ap (route_by (route_at g left) node) is ∙ made row.1,
        )

    by_form : IsPathBy g (IsPath g left) node route parts → IsCounted g limit (suc left) node route parts
    by_form (PredicatePath iri is sum) = form_counted Predicate [] 0 iri refl (λ same. sym is) sum
    by_form (SequencePath blank members list routes n inside is sum) =
        form_counted (Sequence members) routes n (blank, list) inside (λ same. cc) sum
    by_form (AlternativePath head states members list routes n inside is sum) =
        form_counted (Alternative members) routes n (head, states, list) inside (λ same. cc) sum
    by_form (InversePath inner states r n inside is sum) =
        form_counted (Inverse inner) (r ∷ []) n states (alone inner r n inside) (λ same. cc) sum
    by_form (ZeroOrMorePath inner states r n inside is sum) =
        form_counted (ZeroOrMore inner) (r ∷ []) n states (alone inner r n inside) (λ same. cc) sum
    by_form (OneOrMorePath inner states r n inside is sum) =
        form_counted (OneOrMore inner) (r ∷ []) n states (alone inner r n inside) (λ same. cc) sum
    by_form (ZeroOrOnePath inner states r n inside is sum) =
        form_counted (ZeroOrOne inner) (r ∷ []) n states (alone inner r n inside) (λ same. cc) sum

path_counted : (g : Graph) (limit left node : ℕ) (route : Route) (parts : ℕ)
    → IsPath g left node route parts → IsCounted g limit left node route parts
path_counted g limit zero node route parts path = absurd path
path_counted g limit (suc left) node route parts path =
    by_form g limit left (path_counted g limit left) node route parts path

-- ---- what is read

count_of_read : (made route : Route) (outcome : Result ℕ PathFault) → read_unless made outcome ≡ Read route
    → (parts : ℕ) × (outcome ≡ Ok parts)
count_of_read made route (Ok parts) e = (parts, refl)
count_of_read made route (Err fault.Broken) e = cc
count_of_read made route (Err fault.TooDeep) e = cc
count_of_read made route (Err fault.Memory) e = cc

pub paths_read : PathsAreRead
paths_read limits g head route =
    let limit = limits.path_parts in
    let levels = limits.path_depth in
    let visited = visits g levels head in
    let outcome = counted g limit 0 visited in
    let made = route_at g levels head in (
      λ read.
          let is = sym (counted_reading limits g head outcome refl) ∙ read in
          let count = count_of_read made route outcome is in
          let path = path_of_count g limit levels head 0 count.0 count.1 in
          let few = within_limit g limit 0 visited count.0 (omega arith) count.1 in (
            path.0,
            subst (λ r. IsPath g levels head r path.0) (same_route made route outcome is) path.1,
            omega (arith, path.2, few),
          ),
      λ path.
          let count = path_counted g limit levels head route path.0 path.1 0 (omega (arith, path.2)) in
          counted_reading limits g head (Ok (0 + path.0)) count.0 ∙ ap Read count.1,
    )
