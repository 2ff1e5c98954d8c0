-- What a change makes of an engine: what comes of it, and that this is done.
use Rattle.std.specs.Prelude.{◌≡◌, ℕ, ◌<◌, ◌≤◌, ◌==◌, Bool, true, false, nat_le, List, ◌++◌, length}
use Rattle.std.proofs.Common.{refl, sym, ap, ◌∙◌, subst}
use Rattle.std.proofs.Math.Bool.{and-false}
use Rattle.std.proofs.lemmas.Bool.{le-ltb, leb-true}
use Rattle.shx_term.specs.declared.term.Term.{Term}
use Rattle.shx_term.specs.declared.triple.Triple.{Triple}
use Rattle.shx_term.specs.Pool.{Pooled, with_terms}
use Rattle.shx_term.specs.TripleTerms.{terms_of}
use Rattle.edit_history.specs.declared.net.Net.{Net}
use Rattle.graph_view.specs.Graph.{Graph}
use Rattle.graph_view.specs.Patched.{patched}
use Rattle.graph_view.specs.SameGraph.{SameGraph}
use Rattle.comp_core.specs.declared.pair.Pair.{Pair}
use Rattle.shape_eval.specs.Recalled.{IsRecalled}
use Rattle.edit_engine.specs.declared.edit.Change.{Change}
use Rattle.edit_engine.specs.Applied.{Applies, IsChanged, applied_as, outcome_of}
use Rattle.edit_engine.specs.EngineState.{EngineState}
use Rattle.edit_engine.specs.Nets.{Effect, count_after, is_no_change}
use Rattle.edit_engine.specs.Nets.{changed_by, graph_after, terms_after}
use Rattle.edit_engine.specs.Remembered.{BringsFresh, answer_of}
use Rattle.edit_engine.specs.Touched.{touched_pairs}
use Rattle.edit_engine.proofs.AlikeLemmas.{AreAlike, brings_alike, touched_alike}
use Rattle.edit_engine.proofs.PatchLemmas.{IsAtHand, changed_is, patched_is}

-- ---- what comes of a change

pub adds_some : (net : Net) → (length net.added == 0) ≡ false → is_no_change net ≡ false
adds_some net some = rw some refl

pub removes_some : (net : Net) → (length net.removed == 0) ≡ false → is_no_change net ≡ false
removes_some net some = rw some (and-false (length net.added == 0))

-- what a test of the room for triples says
pub few_where_fits : (old now : EngineState) → old ≡ now → (net : Net) (fits : Bool)
    → fits ≡ nat_le (count_after now.graph net) now.triple_limit → fits ≡ true
    → count_after old.graph net ≤ old.triple_limit
few_where_fits old now same net fits test so =
    subst (λ (state : EngineState). count_after state.graph net ≤ state.triple_limit) (sym same)
    (leb-true (count_after now.graph net) now.triple_limit (sym test ∙ so))

-- what a test of the pool says of the room for the terms of what is added
pub room_where_fits : (g : Graph) (limit : ℕ) (pool : Pooled) (net : Net) (fits : Bool)
    → pool.terms ≡ g.terms → pool.limit ≡ limit
    → fits ≡ nat_le (length (with_terms pool.terms (terms_of net.added))) pool.limit → fits ≡ true
    → length (terms_after g net) ≤ limit
room_where_fits g limit pool net fits terms most test so =
    let within = leb-true (length (with_terms pool.terms (terms_of net.added))) pool.limit (sym test ∙ so) in
    subst (λ (xs : List Term). length (with_terms xs (terms_of net.added)) ≤ limit) terms
    (subst (λ n. length (with_terms pool.terms (terms_of net.added)) ≤ n) most within)

pub effect : (state : EngineState) (net : Net) → is_no_change net ≡ false
    → count_after state.graph net ≤ state.triple_limit
    → length (terms_after state.graph net) ≤ state.term_limit
    → outcome_of state net ≡ Effect
effect state net changes few room =
    let within = le-ltb state.triple_limit (count_after state.graph net) few in
    let fits = le-ltb state.term_limit (length (terms_after state.graph net)) room in
    rw (changes, within, fits) refl

-- ---- what is done

-- what was made over the terms entered is made of the graph before
module _ (old now new : EngineState) (same : old ≡ now) (net : Net) (n before after : ℕ) where
  abbrev change : Change
  change = record { changed = true; evaluated = n }

  pub Applies-changed : {h : Graph} {added gone : List Triple} → IsAtHand old.graph h net added gone
      → AreAlike old.plan old.graph h → outcome_of old net ≡ Effect
      → SameGraph (patched h added gone) new.graph
      → n ≡ length (touched_pairs old.plan h (patched h added gone) (added ++ gone))
      → ((p : Pair) → IsRecalled (answer_of old.remembered) p → p.node < length old.graph.terms)
      → BringsFresh old.plan h (patched h added gone) (added ++ gone) (answer_of old.remembered)
      (answer_of new.remembered) before after
      → Applies now net change new before after
  Applies-changed {h} {added} {gone} at alike effect graph count inside brings =
      let g = old.graph in
      let made : patched h added gone ≡ graph_after g net = patched_is at in
      let by : added ++ gone ≡ changed_by g net = changed_is at in
      let touched = touched_alike old.plan g h alike (added ++ gone) (patched h added gone) in
      let fresh = brings_alike old.plan g h alike (patched h added gone) (added ++ gone)
      (answer_of old.remembered) (answer_of new.remembered) before after inside brings in
      let is : IsChanged old net change new before after = record {
        changed = refl;
        graph = subst (λ k. SameGraph k new.graph) made graph;
        evaluated = count
            ∙ sym (ap length touched)
            ∙ (λ i. length (touched_pairs old.plan g (made i) (by i)));
        nested = subst (λ k. BringsFresh old.plan g k (changed_by g net) (answer_of old.remembered)
            (answer_of new.remembered) before after) made
            (subst (λ ts. BringsFresh old.plan g (patched h added gone) ts (answer_of old.remembered)
            (answer_of new.remembered) before after) by fresh);
      } in
      subst (λ state. Applies state net change new before after) same
      (subst (applied_as old net change new before after) (sym effect) is)
