-- The nodes of a path as they are read: how they are counted, one after the other.
use Rattle.std.specs.Prelude.{◌≡◌, ℕ, ◌+◌, ◌-◌, ◌<◌, ◌≤◌, zero, suc, List, [], ◌∷◌, ◌++◌, map}
use Rattle.std.specs.Prelude.{Bool, true, false, ◌==◌, nat_lt, ◌||◌, if◌then◌else◌, length}
use Rattle.std.specs.Prelude.{Option, Some, None, Result, Ok, Err}
use Rattle.std.proofs.Common.{refl, sym, ap, ◌∙◌, arith, get_or, take, drop}
use Rattle.std.proofs.lemmas.Bool.Decides.{nat_tests}
use Rattle.std.proofs.lemmas.Grind.{flat_map-append}
use Rattle.std.proofs.lemmas.List.{append-nil, drop_more, map-append, take-append-drop, take_more}
use Rattle.graph_view.specs.Graph.{Graph}
use Rattle.shape_decl.specs.declared.path_fault.PathFault.{PathFault}
use Rattle.shape_decl.specs.declared.path_fault.PathFault.TheVariants as fault
use Rattle.shape_decl.specs.PathForms.{PathForm, form_of, parts_in}
use Rattle.shape_decl.specs.PathReadings.{fault_of_form, unless_fault, route_at, route_by}
use Rattle.shape_decl.specs.inner.Visits.{Visit, visits, row_visits, visit_fault, counted, Meets}

-- what is counted from a node on, where a test says that it is one too deep or too many, and its form is this
abbrev from_node : Bool → PathForm → Result ℕ PathFault → Result ℕ PathFault
from_node past form more = unless_fault (if past then Some fault.TooDeep else fault_of_form form) more

-- ---- a node that is met

pub no_level : (g : Graph) (limit before left node : ℕ) → left ≡ 0
    → counted g limit before (visits g left node) ≡ Err fault.TooDeep
unfolding visits
no_level g limit before zero node none = refl
no_level g limit before (suc left) node none = absurd (omega arith)

pub too_many : (g : Graph) (limit before left node : ℕ) → limit ≤ before
    → counted g limit before (visits g left node) ≡ Err fault.TooDeep
unfolding visits
too_many g limit before zero node many = refl
too_many g limit before (suc left) node many =
    let past : (suc left == 0) || nat_lt limit (before + 1) ≡ true = grind (arith, nat_tests) in
    let form = form_of g node in
    ap (λ b. from_node b form (counted g limit (before + 1) (row_visits g left (parts_in form)))) past

pub node_meets : (g : Graph) (limit before left node : ℕ) (form : PathForm) → 0 < left → before < limit
    → form ≡ form_of g node → Meets g limit before (before + 1) left node form
unfolding visits
node_meets g limit before zero node form level few is = absurd (omega arith)
node_meets g limit before (suc left) node form level few is =
    let fine : (suc left == 0) || nat_lt limit (before + 1) ≡ false = grind (arith, nat_tests) in
    let down : suc left - 1 ≡ left = omega arith in
    let inside = λ (f : PathForm) (n : ℕ). counted g limit (before + 1) (row_visits g n (parts_in f)) in
    record {
      parts = ap (λ b. from_node b (form_of g node) (inside (form_of g node) left)) fine
          ∙ ap (λ f. unless_fault (fault_of_form f) (inside f left)) (sym is)
          ∙ ap (λ n. unless_fault (fault_of_form form) (inside form n)) (sym down);
      route = ap (λ f. route_by (route_at g left) node f) (sym is)
          ∙ ap (λ n. route_by (route_at g n) node form) (sym down);
    }

-- ---- nodes one after the other

-- past what is at no fault
passed : (f : Option PathFault) (a b whole : Result ℕ PathFault) (after : ℕ) → unless_fault f a ≡ Ok after
    → (a ≡ Ok after → b ≡ whole) → unless_fault f b ≡ whole
passed None a b whole after h later = later h
passed (Some e) a b whole after h later = cc

stopped : (f : Option PathFault) (a b : Result ℕ PathFault) (e : PathFault) → unless_fault f a ≡ Err e
    → (a ≡ Err e → b ≡ Err e) → unless_fault f b ≡ Err e
stopped None a b e h later = later h
stopped (Some d) a b e h later = h

module _ (g : Graph) (limit : ℕ) where
  pub counted_after : (before : ℕ) (xs ys : List Visit) (after : ℕ) → counted g limit before xs ≡ Ok after
      → counted g limit before (xs ++ ys) ≡ counted g limit after ys
  counted_after before [] ys after h =
      let same : before ≡ after = cc in
      ap (λ n. counted g limit n ys) same
  counted_after before (x ∷ xs) ys after h =
      passed (visit_fault g limit before x) (counted g limit (before + 1) xs)
      (counted g limit (before + 1) (xs ++ ys)) (counted g limit after ys) after h
      (counted_after (before + 1) xs ys after)

  -- this comes to a count, and from there the nodes come to that one
  abbrev pub InTurn : Result ℕ PathFault → List Visit → ℕ → Type 0
  InTurn first ys after = (mid : ℕ) × (first ≡ Ok mid) × (counted g limit mid ys ≡ Ok after)

  pub counted_in_turn : (before : ℕ) (xs ys : List Visit) (after : ℕ)
      → counted g limit before (xs ++ ys) ≡ Ok after → InTurn (counted g limit before xs) ys after
  counted_in_turn before [] ys after h = (before, refl, h)
  counted_in_turn before (x ∷ xs) ys after h =
      past (visit_fault g limit before x) h (counted_in_turn (before + 1) xs ys after)
    where
      past : (f : Option PathFault) → unless_fault f (counted g limit (before + 1) (xs ++ ys)) ≡ Ok after
          → (counted g limit (before + 1) (xs ++ ys) ≡ Ok after
          → InTurn (counted g limit (before + 1) xs) ys after)
          → InTurn (unless_fault f (counted g limit (before + 1) xs)) ys after
      past None met later = later met
      past (Some e) met later = cc

  fault_stays : (before : ℕ) (xs ys : List Visit) (e : PathFault) → counted g limit before xs ≡ Err e
      → counted g limit before (xs ++ ys) ≡ Err e
  fault_stays before [] ys e h = cc
  fault_stays before (x ∷ xs) ys e h =
      stopped (visit_fault g limit before x) (counted g limit (before + 1) xs)
      (counted g limit (before + 1) (xs ++ ys)) e h (fault_stays (before + 1) xs ys e)

  -- one node alone
  pub row_one : (before left node : ℕ)
      → counted g limit before (row_visits g left (node ∷ [])) ≡ counted g limit before (visits g left node)
  row_one before left node = ap (counted g limit before) (append-nil (visits g left node))

  -- the nodes up to one more, of a list
  pub row_more : (left before mid after : ℕ) (nodes : List ℕ) (i : ℕ) → i < length nodes
      → counted g limit before (row_visits g left (take i nodes)) ≡ Ok mid
      → counted g limit mid (visits g left (get_or nodes i 0)) ≡ Ok after
      → counted g limit before (row_visits g left (take (i + 1) nodes)) ≡ Ok after
  row_more left before mid after nodes i within row one =
      let node = get_or nodes i 0 in
      ap (λ ns. counted g limit before (row_visits g left ns)) (take_more nodes i 0 within)
      ∙ ap (counted g limit before) (flat_map-append (visits g left) (take i nodes) (node ∷ []))
      ∙ counted_after before (row_visits g left (take i nodes)) (row_visits g left (node ∷ [])) mid row
      ∙ row_one mid left node ∙ one

  -- the fault of one of them is that of all
  pub row_fault : (left before mid : ℕ) (nodes : List ℕ) (i : ℕ) (e : PathFault) → i < length nodes
      → counted g limit before (row_visits g left (take i nodes)) ≡ Ok mid
      → counted g limit mid (visits g left (get_or nodes i 0)) ≡ Err e
      → counted g limit before (row_visits g left nodes) ≡ Err e
  row_fault left before mid nodes i e within row one =
      let front = take i nodes in
      let rest = drop i nodes in
      let node = get_or nodes i 0 in
      ap (λ ns. counted g limit before (row_visits g left ns)) (sym (take-append-drop i nodes))
      ∙ ap (counted g limit before) (flat_map-append (visits g left) front rest)
      ∙ counted_after before (row_visits g left front) (row_visits g left rest) mid row
      ∙ ap (λ ns. counted g limit mid (row_visits g left ns)) (drop_more nodes i 0 within)
      ∙ fault_stays mid (visits g left node) (row_visits g left (drop (i + 1) nodes)) e one

-- the routes of the paths up to one more
pub routes_more : {A B : Type 0} (f : A → B) (h : ℕ → B) (paths pushed : List A) (path : A) (nodes : List ℕ)
    (i : ℕ) → i < length nodes → pushed ≡ paths ++ path ∷ [] → map f paths ≡ map h (take i nodes)
    → f path ≡ h (get_or nodes i 0) → map f pushed ≡ map h (take (i + 1) nodes)
routes_more f h paths pushed path nodes i within push done one =
    let node = get_or nodes i 0 in
    ap (map f) push
    ∙ map-append f paths (path ∷ [])
    ∙ ap (λ rs. rs ++ f path ∷ []) done
    ∙ ap (λ r. map h (take i nodes) ++ r ∷ []) one
    ∙ sym (map-append h (take i nodes) (node ∷ []))
    ∙ ap (map h) (sym (take_more nodes i 0 within))
