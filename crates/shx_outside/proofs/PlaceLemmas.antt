-- What a change of one role's place leaves of the others, and where the place behind a read lies.
use Rattle.std.proofs.Common.{◌≡◌, ℕ, ◌-◌, ◌≤◌, List, Option, Some, length, ap, refl, sym, ◌∙◌, arith}
use Rattle.std.proofs.lemmas.List.{length-drop}
use Rattle.std.proofs.lemmas.Option.{same_Some}
use Rattle.shx_outside.specs.declared.named_text.NamedText.{NamedText}
use Rattle.shx_outside.specs.declared.places.Place.{Place}
use Rattle.shx_outside.specs.declared.places.Places.{Places}
use Rattle.shx_outside.specs.declared.role.Role.{Role}
use Rattle.shx_outside.specs.declared.role.Role.TheVariants.{Shapes, Data, Script}
use Rattle.shx_outside.specs.inner.Places.{bytes_at, place_of, with_place, moved_on, left_at, IsWithin}
use Rattle.shx_outside.specs.inner.Places.{AreWithin}

pub place_of-with_place : (places : Places) (role : Role) (place : Option Place)
    → place_of (with_place places role place) role ≡ place
place_of-with_place places Shapes place = refl
place_of-with_place places Data place = refl
place_of-with_place places Script place = refl

within-with_place : (files : List NamedText) (places : Places) (role : Role) (place : Option Place)
    → AreWithin files places → IsWithin files place
    → (other : Role) → IsWithin files (place_of (with_place places role place) other)
within-with_place files places Shapes place all here Shapes = here
within-with_place files places Shapes place all here Data = all.each Data
within-with_place files places Shapes place all here Script = all.each Script
within-with_place files places Data place all here Shapes = all.each Shapes
within-with_place files places Data place all here Data = here
within-with_place files places Data place all here Script = all.each Script
within-with_place files places Script place all here Shapes = all.each Shapes
within-with_place files places Script place all here Data = all.each Data
within-with_place files places Script place all here Script = here

pub AreWithin-with_place : (files : List NamedText) (places : Places) (role : Role) (place : Option Place)
    → AreWithin files places → IsWithin files place → AreWithin files (with_place places role place)
AreWithin-with_place files places role place all here =
    record { each = within-with_place files places role place all here }

pub IsWithin-place_of : (files : List NamedText) (places : Places) (role : Role) (place : Place)
    → AreWithin files places → place_of places role ≡ Some place → IsWithin files (Some place)
IsWithin-place_of files places role place all e = rw e at (all.each role)

-- the place behind n bytes of what is left lies in the text too
pub IsWithin-moved : (files : List NamedText) (place : Place) (left : List ℕ) (n : ℕ)
    → IsWithin files (Some place) → left_at files (Some place) ≡ Some left → n ≤ length left
    → IsWithin files (Some (moved_on place n))
IsWithin-moved files place left n within e h =
    let bytes = bytes_at files place.file in
    let k : length bytes - place.offset ≡ length left =
    sym (length-drop place.offset bytes) ∙ ap length (same_Some _ _ e) in
    omega (arith, within, k, h)
