-- Triples that are entered one after the other, each once, and laid over a graph without any.
use Rattle.std.specs.Prelude.{◌≡◌, ℕ, ◌+◌, ◌<◌, Bool, ◌||◌, true, false, not, List, [], ◌∷◌, ◌++◌}
use Rattle.std.specs.Prelude.{filter, get_or, length, take, if◌then◌else◌, All, Contains}
use Rattle.std.specs.List.{list_any}
use Rattle.std.proofs.Common.{refl, sym, ap, ◌∙◌, append-nil}
use Rattle.std.proofs.lemmas.List.{take_more}
use Rattle.std.proofs.lemmas.List.Elements.{All-nil, filter-append}
use Rattle.indexmap.specs.IndexSet.{insert_key}
use Rattle.shx_term.specs.declared.term.Term.{Term}
use Rattle.shx_term.specs.declared.triple.Triple.{Triple}
use Rattle.shx_term.specs.Triple.{same_triple}
use Rattle.shx_term.specs.inner.TripleLaws.{same_triple_equiv, same_triple_exact}
use Rattle.shx_term.proofs.MemberLemmas.{All_of_each, each_of_All, none_in_empty}
use Rattle.graph_view.specs.Graph.{IsKnownTriple, first_places}
use Rattle.graph_view.specs.Patched.{IsPatch}
use Rattle.graph_view.proofs.SameGraphLemmas.{first_places-distinct, first_places_same}
use Rattle.shape_decl.proofs.ListLemmas.{IsDistinct-empty}
use Rattle.shape_text.proofs.ReadingLemmas.{graph}

-- ---- triples that are entered in turn

module _ (x t : Triple) where
  -- leaving x out hides no other triple
  still_found : same_triple t x ≡ false → (us : List Triple)
      → list_any (same_triple t) (filter (λ u. not (same_triple x u)) us) ≡ list_any (same_triple t) us
  still_found apart [] = refl
  still_found apart (u ∷ us) =
      let others = λ (v : Triple). not (same_triple x v) in
      let found = list_any (same_triple t) us in
      elim (same_triple x u) as (λ b. same_triple x u ≡ b →
      list_any (same_triple t) (if not b then u ∷ filter others us else filter others us)
      ≡ (same_triple t u || found)) [
        | true ↦ λ same.
            let differs = ap (same_triple t) (sym (same_triple_exact x u same)) ∙ apart in
            still_found apart us ∙ sym (ap (λ b. b || found) differs)
        | false ↦ λ _. ap (λ b. same_triple t u || b) (still_found apart us)
      ] refl

  -- entering t before x is left out, or after
  entered_behind : (ts : List Triple) → x ∷ filter (λ u. not (same_triple x u)) (insert_key same_triple ts t)
      ≡ insert_key same_triple (x ∷ filter (λ u. not (same_triple x u)) ts) t
  entered_behind ts =
      let others = λ (u : Triple). not (same_triple x u) in
      let kept = filter others ts in
      let entered = λ (b : Bool). x ∷ filter others (if b then ts else ts ++ t ∷ []) in
      let pushed = filter-append others ts (t ∷ []) in
      let turned = same_triple_equiv.symm x t in
      let last = λ (b : Bool). if not b then t ∷ [] else [] in
      elim (same_triple t x) as (λ b. same_triple t x ≡ b → entered (list_any (same_triple t) ts)
      ≡ (if b || list_any (same_triple t) kept then x ∷ kept else x ∷ kept ++ t ∷ [])) [
        | true ↦ λ same. elim (list_any (same_triple t) ts) as (λ b. entered b ≡ x ∷ kept) [
          | true ↦ refl
          | false ↦
              ap (λ us. x ∷ us)
              (pushed ∙ ap (λ us. kept ++ us) (ap last (turned ∙ same)) ∙ append-nil kept)
        ]
        | false ↦ λ apart.
            elim (list_any (same_triple t) ts) as (λ b. entered b
            ≡ (if b then x ∷ kept else x ∷ kept ++ t ∷ [])) [
              | true ↦ refl
              | false ↦ ap (λ us. x ∷ us) (pushed ∙ ap (λ us. kept ++ us) (ap last (turned ∙ apart)))
            ] ∙ ap (λ b. if b then x ∷ kept else x ∷ kept ++ t ∷ []) (sym (still_found apart ts))
      ] refl

first_more : (ts : List Triple) (t : Triple)
    → first_places (ts ++ t ∷ []) ≡ insert_key same_triple (first_places ts) t
first_more [] t = refl
first_more (x ∷ xs) t =
    ap (λ us. x ∷ filter (λ u. not (same_triple x u)) us) (first_more xs t)
    ∙ entered_behind x t (first_places xs)

-- a step of a loop that enters one triple after the other
pub entered_next : (ts : List Triple) (i : ℕ) (d : Triple) → i < length ts → (old new : List Triple)
    → old ≡ first_places (take i ts) → new ≡ insert_key same_triple old (get_or ts i d)
    → new ≡ first_places (take (i + 1) ts)
entered_next ts i d inside old new before entered =
    entered ∙ ap (λ keys. insert_key same_triple keys (get_or ts i d)) before
    ∙ sym (first_more (take i ts) (get_or ts i d)) ∙ ap first_places (sym (take_more ts i d inside))

-- ---- triples that are laid over a graph without any

pub IsPatch-stated : (terms : List Term) (triples : List Triple) → All (IsKnownTriple terms) triples
    → IsPatch (graph terms []) (first_places triples) []
IsPatch-stated terms triples known =
    let stated = first_places triples in
    record {
      added_once = first_places-distinct triples;
      added_absent = All_of_each (λ t. Contains [] t → ⊥) stated (λ t c held. none_in_empty t held);
      added_known = All_of_each (IsKnownTriple terms) stated (λ t c.
          each_of_All (IsKnownTriple terms) triples known t (((first_places_same triples).each t).0 c));
      removed_once = IsDistinct-empty same_triple;
      removed_held = All-nil (Contains []);
    }
