-- What is left for each role, told from the places, and how a read changes it.
use Rattle.std.proofs.Common.{◌≡◌, ℕ, List, ◌++◌, Option, Some, take, drop, ap, refl, sym, ◌∙◌}
use Rattle.std.proofs.lemmas.List.{take-append-drop, drop-drop}
use Rattle.std.proofs.lemmas.Option.{same_Some}
use Rattle.shx_outside.specs.declared.named_text.NamedText.{NamedText}
use Rattle.shx_outside.specs.declared.open_counts.OpenCounts.{OpenCounts}
use Rattle.shx_outside.specs.declared.places.Place.{Place}
use Rattle.shx_outside.specs.declared.places.Places.{Places}
use Rattle.shx_outside.specs.declared.role.Role.{Role}
use Rattle.shx_outside.specs.declared.role.Role.TheVariants.{Shapes, Data, Script}
use Rattle.shx_outside.specs.OpenTexts.{OpenTexts, left_for}
use Rattle.shx_outside.specs.inner.Places.{bytes_at, place_of, with_place, moved_on, left_at, texts_from}
use Rattle.shx_outside.specs.Told.{Took}
use Rattle.shx_outside.proofs.PlaceLemmas.{place_of-with_place}

module _ (files : List NamedText) (piece : ℕ) (at : Places) (opens : OpenCounts) where
  left_for-texts_from : (role : Role)
      → left_for (texts_from files piece at opens) role ≡ left_at files (place_of at role)
  left_for-texts_from Shapes = refl
  left_for-texts_from Data = refl
  left_for-texts_from Script = refl

  -- what was left before a read
  pub left_for-at : (role : Role) (place : Place) (left : List ℕ) (self : OpenTexts)
      → texts_from files piece at opens ≡ self → place_of at role ≡ Some place
      → left_at files (Some place) ≡ Some left → left_for self role ≡ Some left
  left_for-at role place left self e p l =
      ap (λ (texts : OpenTexts). left_for texts role) (sym e)
      ∙ left_for-texts_from role
      ∙ ap (left_at files) p
      ∙ l

  -- what is left for a role that was set to a place
  pub left_for-set : (before : Places) (role : Role) (place : Option Place)
      → at ≡ with_place before role place
      → left_for (texts_from files piece at opens) role ≡ left_at files place
  left_for-set before role place set =
      left_for-texts_from role
      ∙ ap (λ (p : Places). left_at files (place_of p role)) set
      ∙ ap (left_at files) (place_of-with_place before role place)

  -- what is left after a read
  pub left_for-moved : (before : Places) (role : Role) (place : Place) (left : List ℕ) (n : ℕ)
      → at ≡ with_place before role (Some (moved_on place n)) → left_at files (Some place) ≡ Some left
      → left_for (texts_from files piece at opens) role ≡ Some (drop n left)
  left_for-moved before role place left n m l =
      left_for-set before role (Some (moved_on place n)) m
      ∙ ap Some (sym (drop-drop n place.offset (bytes_at files place.file)) ∙ ap (drop n) (same_Some _ _ l))

pub Took-front : (old new : Option (List ℕ)) (left bytes : List ℕ) (n : ℕ)
    → old ≡ Some left → new ≡ Some (drop n left) → bytes ≡ take n left → Took old new bytes
Took-front old new left bytes n o e b = record {
  told = λ all f.
      let split : left ≡ all = same_Some left all (sym o ∙ f) in
      let whole : bytes ++ drop n left ≡ left = ap (λ xs. xs ++ drop n left) b ∙ take-append-drop n left in
      (drop n left, e, sym (whole ∙ split));
}
