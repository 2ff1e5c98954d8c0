-- A list that is followed from cell to cell, with a set of those that were seen.
use Rattle.std.specs.Prelude.{◌≡◌, ℕ, ◌<◌, ◌≤◌, ◌+◌, ◌-◌, nat_eq, Bool, true, false, not, List, [], ◌∷◌, ◌++◌}
use Rattle.std.specs.Prelude.{if◌then◌else◌, length, None, Some, Contains}
use Rattle.std.specs.Cmp.{nat_eq_equiv}
use Rattle.std.specs.List.{IsDistinct, list_any}
use Rattle.std.proofs.Common.{refl, sym, ap, ◌∙◌, subst, inl, inr, arith, length-append}
use Rattle.std.proofs.lemmas.Bool.{eqb-true}
use Rattle.std.proofs.lemmas.List.{append-nil}
use Rattle.std.proofs.lemmas.List.Elements.{Contains-push_cases}
use Rattle.std.proofs.lemmas.Map.Keys.{IsDistinct-push}
use Rattle.shx_term.proofs.MemberLemmas.{Contains-test}
use Rattle.graph_view.specs.Graph.{Graph}
use Rattle.shape_decl.specs.declared.cell.Cell.{Cell}
use Rattle.shape_decl.specs.declared.cell.Cell.TheVariants.{End, Link, Neither}
use Rattle.shape_decl.specs.Lists.{cell_at, IsListOf, list_of}
use Rattle.shape_decl.proofs.ListLemmas.{IsLinked, few_cells, lists_read, members_are_one}
use Rattle.shape_decl.proofs.ListLemmas.{no_list_read}

-- cells lead from one node to another, past these members
abbrev pub Leads : (ℕ → Cell) → ℕ → List ℕ → ℕ → Type 0
Leads cell node [] to = node ≡ to
Leads cell node (member ∷ members) to =
    (rest : ℕ) × (cell node ≡ Link member rest) × Leads cell rest members to

-- cells lead from the head here, and from each that was seen
pub record Follows (cell : ℕ → Cell) (head : ℕ) (members seen : List ℕ) (at : ℕ) : Type 0 where
  pub path : Leads cell head members at
  pub back : (x : ℕ) → Contains seen x → (m : ℕ) × (ms : List ℕ) × Leads cell x (m ∷ ms) at
  pub cells : (x : ℕ) → Contains seen x → IsLinked cell x
  pub distinct : IsDistinct nat_eq seen

module _ (cell : ℕ → Cell) where
  leads_more : (ms : List ℕ) (node at member rest : ℕ) → Leads cell node ms at → cell at ≡ Link member rest
      → Leads cell node (ms ++ member ∷ []) rest
  leads_more [] node at member rest leads is = (rest, ap cell leads ∙ is, refl)
  leads_more (m ∷ ms) node at member rest leads is =
      (leads.0, leads.1, leads_more ms leads.0 at member rest leads.2 is)

  -- what cells lead to is a list where they come from one, of the members that are left
  list_left : (ms ns : List ℕ) (node at : ℕ) → Leads cell node ms at → IsListOf cell node ns
      → (left : List ℕ) × (ns ≡ ms ++ left) × IsListOf cell at left
  list_left [] ns node at leads list = (ns, refl, subst (λ x. IsListOf cell x ns) leads list)
  list_left (m ∷ ms) [] node at leads list = absurd (cc)
  list_left (m ∷ ms) (n ∷ ns) node at leads list =
      let same : list.0 ≡ leads.0 = cc in
      let found =
      list_left ms ns leads.0 at leads.2 (subst (λ x. IsListOf cell x ns) same list.2) in
      let whole : ns ≡ ms ++ found.0 = found.1 in
      (found.0, cc, found.2)

  list_behind : (ms ns : List ℕ) (node at : ℕ) → Leads cell node ms at → IsListOf cell at ns
      → IsListOf cell node (ms ++ ns)
  list_behind [] ns node at leads list = subst (λ x. IsListOf cell x ns) (sym leads) list
  list_behind (m ∷ ms) ns node at leads list =
      (leads.0, leads.1, list_behind ms ns leads.0 at leads.2 list)

  pub follows_on : {head : ℕ} {members seen : List ℕ} {at : ℕ} → Follows cell head members seen at
      → (member rest : ℕ) → cell at ≡ Link member rest → list_any (nat_eq at) seen ≡ false
      → Follows cell head (members ++ member ∷ []) (seen ++ at ∷ []) rest
  follows_on {head} {members} {seen} {at} follows member rest is new = record {
    path = leads_more members head at member rest follows.path is;
    back = λ x c. elim (Contains-push_cases seen at x c) [
      | inl d ↦
          let way = follows.back x d in
          (way.0, way.1 ++ member ∷ [], leads_more (way.0 ∷ way.1) x at member rest way.2 is)
      | inr e ↦ (member, [], (rest, ap cell (sym e) ∙ is, refl))
    ];
    cells = λ x c. elim (Contains-push_cases seen at x c) [
      | inl d ↦ follows.cells x d
      | inr e ↦ (member, rest, ap cell (sym e) ∙ is)
    ];
    distinct = IsDistinct-push nat_eq_equiv seen at follows.distinct new;
  }

  -- where a cell was seen before there is no list
  follows_cycle : {head : ℕ} {members seen : List ℕ} {at : ℕ} → Follows cell head members seen at
      → Contains seen at → (ns : List ℕ) → IsListOf cell head ns → ⊥
  follows_cycle {head} {members} {seen} {at} follows c ns list =
      let here = list_left members ns head at follows.path list in
      let way = follows.back at c in
      let again = list_left (way.0 ∷ way.1) here.0 at at way.2 here.2 in
      let one = members_are_one cell here.0 again.0 at here.2 again.2 in
      omega (arith, ap length again.1, ap length one, length-append way.1 again.0)

  follows_neither : {head : ℕ} {members seen : List ℕ} {at : ℕ} → Follows cell head members seen at
      → cell at ≡ Neither → (ns : List ℕ) → IsListOf cell head ns → ⊥
  follows_neither {head} {members} {seen} {at} follows is ns list =
      let here = list_left members ns head at follows.path list in
      no_list_at here.0 here.2
    where
      no_list_at : (left : List ℕ) → IsListOf cell at left → ⊥
      no_list_at [] ends = cc
      no_list_at (m ∷ ms) ends = cc

module _ (g : Graph) {head : ℕ} {members seen : List ℕ} {at : ℕ}
    (follows : Follows (cell_at g) head members seen at) where
  pub read_to_end : cell_at g at ≡ End → list_of g head ≡ Some members
  read_to_end is =
      let list = list_behind (cell_at g) members [] head at follows.path is in
      (lists_read g head members).1 (subst (λ ms. IsListOf (cell_at g) head ms) (append-nil members) list)

  pub read_cycle : list_any (nat_eq at) seen ≡ true → list_of g head ≡ None
  read_cycle held =
      let c = (Contains-test nat_eq nat_eq_equiv (λ a b. eqb-true a b) seen at).0 held in
      no_list_read g head (follows_cycle (cell_at g) follows c)

  pub read_neither : cell_at g at ≡ Neither → list_of g head ≡ None
  read_neither is = no_list_read g head (follows_neither (cell_at g) follows is)

  pub few_seen : length seen ≤ length g.triples
  few_seen = few_cells g seen follows.distinct follows.cells

-- what an insertion into a set tells of the set before
pub held_before : (new held : Bool) → new ≡ not held → new ≡ false → held ≡ true
held_before new true e f = refl
held_before new false e f = cc

pub new_before : (new held : Bool) → new ≡ not held → new ≡ true → held ≡ false
new_before new true e f = cc
new_before new false e f = refl

-- a cell is passed: its member is pushed, and it is inserted into the set
module _ (g : Graph) {head : ℕ} {members seen : List ℕ} {at : ℕ}
    (follows : Follows (cell_at g) head members seen at) (member rest : ℕ)
    (is : cell_at g at ≡ Link member rest) (new : list_any (nat_eq at) seen ≡ false)
    (pushed inserted : List ℕ) (push : pushed ≡ members ++ member ∷ [])
    (insert : inserted ≡ (if list_any (nat_eq at) seen then seen else seen ++ at ∷ [])) where
  one_more : inserted ≡ seen ++ at ∷ []
  one_more = insert ∙ ap (λ (held : Bool). if held then seen else seen ++ at ∷ []) new

  pub cell_passed : Follows (cell_at g) head pushed inserted rest
  cell_passed =
      subst (λ ms. Follows (cell_at g) head ms inserted rest) (sym push)
      (subst (λ xs. Follows (cell_at g) head (members ++ member ∷ []) xs rest) (sym one_more)
      (follows_on (cell_at g) follows member rest is new))

  pub fewer_left : length g.triples - length inserted < length g.triples - length seen
  fewer_left =
      let few : length inserted ≤ length g.triples = few_seen g cell_passed in
      let more : length inserted ≡ length seen + 1 = ap length one_more ∙ length-append seen (at ∷ []) in
      omega arith
