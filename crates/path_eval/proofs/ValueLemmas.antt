-- What a search over the places of a path gives is what the path gives.
use Rattle.std.specs.Prelude.{◌≡◌, ◌<◌, ℕ, List, map, length, All}
use Rattle.std.proofs.Common.{sym, ap, ◌∙◌, subst}
use Rattle.shx_term.specs.declared.term.Term.{Term}
use Rattle.shx_term.specs.IdOrder.{in_term_order}
use Rattle.shx_term.specs.Members.{SameMembers}
use Rattle.shx_term.proofs.IdOrderLemmas.{in_term_order_lists, in_term_order_same}
use Rattle.shx_term.proofs.MemberLemmas.{All_of_each}
use Rattle.graph_view.specs.declared.key.Key.{Key}
use Rattle.graph_view.specs.declared.key.Key.TheVariants.{Out, In}
use Rattle.graph_view.specs.Key.{look}
use Rattle.graph_view.specs.Graph.{Graph, AllKnown}
use Rattle.graph_view.specs.Notes.{IsNoting}
use Rattle.path_eval.specs.declared.direction.Direction.{Direction}
use Rattle.path_eval.specs.declared.direction.Direction.TheVariants.{Forward, Backward}
use Rattle.path_eval.specs.Route.{Route, along}
use Rattle.path_eval.specs.Values.{nodes_reached, path_reads}
use Rattle.path_eval.specs.Way.{way, step_to}
use Rattle.path_eval.specs.declared.edge.Edge.{Edge}
use Rattle.path_eval.specs.inner.Course.{whole}
use Rattle.path_eval.specs.inner.Reached.{HasThose, NotesThose}
use Rattle.path_eval.specs.inner.States.{IsLookedUp, IsReached, next_states, state_at}
use Rattle.path_eval.proofs.MeetsLemmas.{path_known}
use Rattle.path_eval.proofs.StateLemmas.{states_nodes, states_keys}

ordered_again : (terms : List Term) (xs : List ℕ)
    → in_term_order terms xs ≡ in_term_order terms (in_term_order terms xs)
ordered_again terms xs =
    in_term_order_same terms xs (in_term_order terms xs) (λ y.
    let told = (in_term_order_lists terms xs).each y in
    (told.1, told.0))

module _ (g : Graph) (known : AllKnown g) (d : Direction) (route : Route) (x : ℕ) (edges : List Edge)
    (end : ℕ) (same : edges ≡ (whole d route).edges) (last : end ≡ (whole d route).end) where
  pub reached_nodes : (nodes : List ℕ)
      → HasThose nodes (λ y. IsReached (next_states g edges) (state_at 0 x) (state_at end y))
      → SameMembers nodes (nodes_reached g d route x)
  reached_nodes nodes has =
      let those : HasThose nodes
      (λ y. IsReached (next_states g (whole d route).edges) (state_at 0 x) (state_at (whole d route).end y)) =
      subst (λ q. HasThose nodes (λ y. IsReached (next_states g (whole d route).edges) (state_at 0 x)
      (state_at q y))) last
      (subst (λ es. HasThose nodes (λ y. IsReached (next_states g es) (state_at 0 x) (state_at end y))) same
      has) in
      record {
        each = λ y.
            let told = states_nodes g known d route x y in
            let ordered = (in_term_order_lists g.terms ((way g d route).to x)).each y in (
              λ c. ordered.1 (told.0 ((those.each y).0 c)),
              λ c. (those.each y).1 (told.1 (ordered.0 c)),
            );
      }

  pub found_reads : {N : Type 0} {notes : N → N → List Key → Type 0} → IsNoting notes → (a b : N)
      → NotesThose notes a b (IsLookedUp g edges (state_at 0 x)) → notes a b (path_reads g d route x)
  found_reads {N} {notes} laws a b noted =
      let those : NotesThose notes a b (IsLookedUp g (whole d route).edges (state_at 0 x)) =
      subst (λ es. NotesThose notes a b (IsLookedUp g es (state_at 0 x))) same noted in
      laws.same those.keys (path_reads g d route x) (record {
        each = λ k.
            let told = states_keys g known d route x k in
            (λ c. told.0 ((those.each k).0 c), λ h. (those.each k).1 (told.1 h));
      }) those.noted

-- nodes that are reached, put in order
pub ordered_nodes : (g : Graph) (d : Direction) (route : Route) (x : ℕ) (nodes : List ℕ)
    → SameMembers nodes (nodes_reached g d route x) → (held : List Term) (answer : List ℕ) → held ≡ g.terms
    → answer ≡ in_term_order held nodes → answer ≡ nodes_reached g d route x
ordered_nodes g d route x nodes same held answer terms e =
    e ∙ ap (λ ts. in_term_order ts nodes) terms
    ∙ in_term_order_same g.terms nodes (nodes_reached g d route x) same.each
    ∙ sym (ordered_again g.terms ((way g d route).to x))

-- what is given has terms, where the start has one
pub found_known : (g : Graph) → AllKnown g → (d : Direction) (route : Route) (x : ℕ) (answer : List ℕ)
    → SameMembers answer (nodes_reached g d route x) → x < length g.terms
    → All (λ id. id < length g.terms) answer
found_known g known d route x answer same inside =
    All_of_each (λ id. id < length g.terms) answer (λ y c.
    path_known g known d route x y inside
    (((in_term_order_lists g.terms ((way g d route).to x)).each y).0 ((same.each y).0 c)))

-- one step is in term order as it is found
pub step_nodes : (g : Graph) (d : Direction) (p x : ℕ) → step_to g d p x ≡ nodes_reached g d (along p) x
step_nodes g Forward p x = ordered_again g.terms (map (λ t. t.o) (look g.triples (Out x p)))
step_nodes g Backward p x = ordered_again g.terms (map (λ t. t.s) (look g.triples (In p x)))
