-- Edits that have an effect together: each turns its triple, and no two are of the same triple.
use Rattle.std.specs.Prelude.{◌≡◌, Bool, true, false, not, All, Contains, List, [], ◌∷◌, ◌++◌, filter, fold}
use Rattle.std.specs.Prelude.{Some, if◌then◌else◌}
use Rattle.std.specs.Cmp.{IsEquivalence, on_equiv}
use Rattle.std.specs.List.{IsDistinct, filter_map, list_any}
use Rattle.std.proofs.Common.{refl, sym, ap, ◌∙◌, subst}
use Rattle.std.proofs.lemmas.Bool.{not-true}
use Rattle.std.proofs.lemmas.List.Elements.{All-filter, All-head, All-nil, All-push, All-tail}
use Rattle.std.proofs.lemmas.Map.Keys.{IsDistinct-push}
use Rattle.shx_term.specs.declared.edit.Edit.{Edit}
use Rattle.shx_term.specs.declared.edit.Edit.TheVariants.{Insert, Remove}
use Rattle.shx_term.specs.declared.triple.TermTriple.{TermTriple}
use Rattle.shx_term.specs.Edit.{IsValidEdit, stated_by}
use Rattle.shx_term.specs.TripleTerms.{same_term_triple}
use Rattle.shx_term.specs.ValidTriples.{IsValidTermTriple}
use Rattle.shx_term.specs.inner.TripleLaws.{same_term_triple_equiv, same_term_triple_exact}
use Rattle.shx_term.proofs.MemberLemmas.{All_of_each, each_of_All}
use Rattle.graph_view.specs.Graph.{Graph}
use Rattle.graph_view.proofs.SameGraphLemmas.{IsDistinct-filter}
use Rattle.edit_engine.specs.Edits.{effects_of, inserted_by, is_of, is_stated, net_of, removed_by, turns}
use Rattle.edit_engine.specs.Edits.{with_effect}
use Rattle.edit_engine.specs.Nets.{IsNetOn}
use Rattle.edit_engine.proofs.ImageLemmas.{Contains-from_filter_map, IsDistinct-filter_map}

-- edits of the same triple
abbrev pub same_stated : Edit → Edit → Bool
same_stated e f = same_term_triple (stated_by e) (stated_by f)

pub same_stated_equiv : IsEquivalence same_stated
same_stated_equiv = on_equiv stated_by same_term_triple_equiv

pub record AreEffects (g : Graph) (effects : List Edit) : Type 0 where
  pub valid : All IsValidEdit effects
  pub turn : All (λ e. turns g e ≡ true) effects
  pub once : IsDistinct same_stated effects

AreEffects-none : (g : Graph) → AreEffects g []
unfolding IsDistinct
AreEffects-none g = record {
  valid = All-nil IsValidEdit;
  turn = All-nil (λ e. turns g e ≡ true);
  once = tt;
}

AreEffects-push : (g : Graph) (effects : List Edit) (edit : Edit) → AreEffects g effects → IsValidEdit edit
    → turns g edit ≡ true → list_any (is_of (stated_by edit)) effects ≡ false
    → AreEffects g (effects ++ edit ∷ [])
AreEffects-push g effects edit are fit turned absent =
    let other : list_any (same_stated edit) effects ≡ false =
    subst (λ (p : Edit → Bool). list_any p effects ≡ false)
    (λ i e. same_term_triple_equiv.symm (stated_by e) (stated_by edit) i) absent in
    record {
      valid = All-push IsValidEdit effects edit are.valid fit;
      turn = All-push (λ e. turns g e ≡ true) effects edit are.turn turned;
      once = IsDistinct-push same_stated_equiv effects edit are.once other;
    }

AreEffects-filter : (g : Graph) (effects : List Edit) (p : Edit → Bool) → AreEffects g effects
    → AreEffects g (filter p effects)
AreEffects-filter g effects p are = record {
  valid = All-filter p IsValidEdit effects are.valid;
  turn = All-filter p (λ e. turns g e ≡ true) effects are.turn;
  once = IsDistinct-filter p same_stated effects are.once;
}

-- one edit more
pub AreEffects-with : (g : Graph) (effects : List Edit) (edit : Edit) → AreEffects g effects
    → IsValidEdit edit → AreEffects g (with_effect g effects edit)
AreEffects-with g effects edit are fit = by (turns g edit) refl
  where
    more : turns g edit ≡ true → (b : Bool) → list_any (is_of (stated_by edit)) effects ≡ b
        → AreEffects g (if b then effects else effects ++ edit ∷ [])
    more turned true held = are
    more turned false absent = AreEffects-push g effects edit are fit turned absent

    by : (b : Bool) → turns g edit ≡ b → AreEffects g (if b then
        (if list_any (is_of (stated_by edit)) effects then effects else effects ++ edit ∷ [])
        else filter (λ e. not (is_of (stated_by edit) e)) effects)
    by true turned = more turned (list_any (is_of (stated_by edit)) effects) refl
    by false stays = AreEffects-filter g effects (λ e. not (is_of (stated_by edit) e)) are

AreEffects-fold : (g : Graph) (effects edits : List Edit) → AreEffects g effects → All IsValidEdit edits
    → AreEffects g (fold (with_effect g) effects edits)
AreEffects-fold g effects [] are fit = are
AreEffects-fold g effects (edit ∷ edits) are fit =
    let one = AreEffects-with g effects edit are (All-head IsValidEdit edit edits fit) in
    AreEffects-fold g (with_effect g effects edit) edits one (All-tail IsValidEdit edit edits fit)

pub AreEffects-of : (g : Graph) (edits : List Edit) → All IsValidEdit edits
    → AreEffects g (effects_of g edits)
AreEffects-of g edits fit = AreEffects-fold g [] edits (AreEffects-none g) fit

-- ---- the triples that they insert and remove

pub inserted_is : (e : Edit) (t : TermTriple) → inserted_by e ≡ Some t → e ≡ Insert t
inserted_is (Insert u) t is = let same : u ≡ t = cc in ap Insert same
inserted_is (Remove u) t is = absurd (cc)

pub removed_is : (e : Edit) (t : TermTriple) → removed_by e ≡ Some t → e ≡ Remove t
removed_is (Insert u) t is = absurd (cc)
removed_is (Remove u) t is = let same : u ≡ t = cc in ap Remove same

module _ (g : Graph) (effects : List Edit) (are : AreEffects g effects) where
  valid_at : (e : Edit) → Contains effects e → IsValidEdit e
  valid_at = each_of_All IsValidEdit effects are.valid

  turned_at : (e : Edit) → Contains effects e → turns g e ≡ true
  turned_at = each_of_All (λ e. turns g e ≡ true) effects are.turn

  pub IsNetOn-effects : IsNetOn g (record {
    added = filter_map inserted_by effects;
    removed = filter_map removed_by effects;
  })
  IsNetOn-effects = record {
    added_valid = All_of_each IsValidTermTriple (filter_map inserted_by effects) (λ t c.
        let from = Contains-from_filter_map inserted_by effects t c in
        subst IsValidEdit (inserted_is from.0 t from.2) (valid_at from.0 from.1));
    added_absent = All_of_each (λ t. is_stated g t ≡ false) (filter_map inserted_by effects) (λ t c.
        let from = Contains-from_filter_map inserted_by effects t c in
        let turned = subst (λ e. turns g e ≡ true) (inserted_is from.0 t from.2) (turned_at from.0 from.1) in
        not-true (is_stated g t) turned);
    added_once =
        IsDistinct-filter_map inserted_by same_stated same_stated_equiv same_term_triple
        same_term_triple_exact
        (λ d e t is too. inserted_is d t is ∙ sym (inserted_is e t too)) effects are.once;
    removed_held = All_of_each (λ t. is_stated g t ≡ true) (filter_map removed_by effects) (λ t c.
        let from = Contains-from_filter_map removed_by effects t c in
        subst (λ e. turns g e ≡ true) (removed_is from.0 t from.2) (turned_at from.0 from.1));
    removed_once =
        IsDistinct-filter_map removed_by same_stated same_stated_equiv same_term_triple
        same_term_triple_exact
        (λ d e t is too. removed_is d t is ∙ sym (removed_is e t too)) effects are.once;
  }

pub IsNetOn-edits : (g : Graph) (edits : List Edit) → All IsValidEdit edits → IsNetOn g (net_of g edits)
IsNetOn-edits g edits fit = IsNetOn-effects g (effects_of g edits) (AreEffects-of g edits fit)
