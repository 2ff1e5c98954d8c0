-- The edges from a place do what all edges do.
use Rattle.std.specs.Prelude.{◌≡◌, ℕ, ◌==◌, ◌<◌, ◌+◌, true, false, List, [], ◌∷◌, ◌++◌, Vec}
use Rattle.std.specs.Prelude.{map, flat_map, if◌then◌else◌, take, length, ◌≢◌, ◌≤◌}
use Rattle.std.specs.declared.alloc.Global.{Global}
use Rattle.std.proofs.Common.{refl, sym, ap, ◌∙◌, subst, get_or, true≢false, append-nil, set}
use Rattle.std.proofs.Common.{eq-eqb, arith, get_or-set_other}
use Rattle.std.proofs.lemmas.Bool.{eqb-true}
use Rattle.std.proofs.lemmas.Grind.{get_or-set_at}
use Rattle.std.proofs.lemmas.List.{length-set, take_more}
use Rattle.std.proofs.lemmas.List.Elements.{filter-append}
use Rattle.path_eval.specs.declared.edge.Edge.{Edge}
use Rattle.path_eval.specs.inner.Laid.{label_way}
use Rattle.path_eval.specs.inner.Rows.{DoesAll, Enters, IsByPlace, edges_from}
use Rattle.path_eval.specs.inner.States.{state_at}

-- lists that are given at a place alone are given by the edges from there
module _ {X : Type 0} (there : Edge → List X) (place : ℕ) where
  given : Edge → List X
  given edge = if edge.from == place then there edge else []

  pub given_from : (edges : List Edge)
      → flat_map (λ (edge : Edge). if edge.from == place then there edge else []) (edges_from place edges)
      ≡ flat_map (λ (edge : Edge). if edge.from == place then there edge else []) edges
  given_from [] = refl
  given_from (edge ∷ edges) =
      let give = λ (one : Edge). if one.from == place then there one else [] in
      elim (edge.from == place) as
      (λ b. (edge.from == place) ≡ b
      → flat_map give (if b then edge ∷ edges_from place edges else edges_from place edges)
      ≡ give edge ++ flat_map give edges) [
        | true ↦ λ h. ap (λ rest. give edge ++ rest) (given_from edges)
        | false ↦ λ h. given_from edges
            ∙ ap (λ (xs : List X). xs ++ flat_map give edges)
            (sym (ap (λ b. if b then there edge else []) h))
      ] refl

-- so a row serves for all edges
pub DoesAll-row : (rows : List (Vec Edge Global)) (edges some : List Edge) (place : ℕ) (row : Vec Edge Global)
    → IsByPlace rows edges → place < length rows → row ≡ get_or rows place row → some ≡ row.items
    → DoesAll some edges place
DoesAll-row rows edges some place row by inside is same =
    let e : some ≡ edges_from place edges = same ∙ by.each place row inside is in
    record {
      states = λ g t at.
          let give = λ (q : ℕ). λ (edge : Edge).
          if edge.from == q then map (state_at edge.to) ((label_way g edge.label).to t.node) else [] in
          subst (λ q. flat_map (give q) some ≡ flat_map (give q) edges) (sym at)
          (ap (flat_map (give place)) e
          ∙ given_from (λ edge. map (state_at edge.to) ((label_way g edge.label).to t.node)) place edges);
      keys = λ g t at.
          let give = λ (q : ℕ). λ (edge : Edge).
          if edge.from == q then (label_way g edge.label).reads t.node else [] in
          subst (λ q. flat_map (give q) some ≡ flat_map (give q) edges) (sym at)
          (ap (flat_map (give place)) e
          ∙ given_from (λ edge. (label_way g edge.label).reads t.node) place edges);
    }

edges_from_more : (place : ℕ) (edges : List Edge) (edge : Edge)
    → edges_from place (edges ++ edge ∷ [])
    ≡ edges_from place edges ++ (if edge.from == place then edge ∷ [] else [])
edges_from_more place edges edge = filter-append (λ (one : Edge). one.from == place) edges (edge ∷ [])

pub Enters-row : (old : List (Vec Edge Global)) (edge : Edge) (was row : Vec Edge Global)
    → edge.from < length old → was ≡ get_or old edge.from was → row.items ≡ was.items ++ edge ∷ []
    → Enters edge old (set old edge.from row)
Enters-row old edge was row inside is items = record {
  each = λ edges by. record {
    each = λ place one within here.
        (elim (edge.from == place) as
        (λ b. (edge.from == place) ≡ b
        → one.items ≡ edges_from place edges ++ (if b then edge ∷ [] else [])) [
          | true ↦ λ h.
              let same : place ≡ edge.from = sym (eqb-true edge.from place h) in
              ap (λ (v : Vec Edge Global). v.items)
              (here ∙ get_or-set_at old edge.from place row one same inside)
              ∙ items
              ∙ ap (λ xs. xs ++ edge ∷ []) (by.each edge.from was inside is
              ∙ ap (λ q. edges_from q edges) (sym same))
          | false ↦ λ h.
              let other : place ≢ edge.from =
              λ e. true≢false (sym (eq-eqb edge.from place (sym e)) ∙ h) in
              by.each place one (subst (λ n. place < n) (length-set old edge.from row) within)
              (here ∙ get_or-set_other old edge.from place row one other)
              ∙ sym (append-nil (edges_from place edges))
        ] refl)
        ∙ sym (edges_from_more place edges edge);
  };
}

-- no row is as far as the place
pub Enters-none : (old : List (Vec Edge Global)) (edge : Edge) → length old ≤ edge.from → Enters edge old old
Enters-none old edge past = record {
  each = λ edges by. record {
    each = λ place one within here.
        (elim (edge.from == place) as
        (λ b. (edge.from == place) ≡ b
        → one.items ≡ edges_from place edges ++ (if b then edge ∷ [] else [])) [
          | true ↦ λ h.
              let same = eqb-true edge.from place h in
              absurd (omega (arith, same, within, past))
          | false ↦ λ h. by.each place one within here ∙ sym (append-nil (edges_from place edges))
        ] refl)
        ∙ sym (edges_from_more place edges edge);
  };
}

pub Enters-next : (old new : List (Vec Edge Global)) (edges : List Edge) (i : ℕ) (d : Edge) → i < length edges
    → IsByPlace old (take i edges) → Enters (get_or edges i d) old new → IsByPlace new (take (i + 1) edges)
Enters-next old new edges i d inside by enters =
    subst (IsByPlace new) (sym (take_more edges i d inside)) (enters.each (take i edges) by)
