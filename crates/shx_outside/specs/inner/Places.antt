-- Places in the texts that are held: a text by its index, and how much of it was read.
use Rattle.std.specs.Prelude.{ℕ, ◌+◌, ◌≤◌, List, length, drop, Option, Some, None, slice_get}
use Rattle.shx_outside.specs.declared.named_text.NamedText.{NamedText}
use Rattle.shx_outside.specs.declared.open_counts.OpenCounts.{OpenCounts}
use Rattle.shx_outside.specs.declared.places.Place.{Place}
use Rattle.shx_outside.specs.declared.places.Places.{Places}
use Rattle.shx_outside.specs.declared.role.Role.{Role}
use Rattle.shx_outside.specs.declared.role.Role.TheVariants.{Shapes, Data, Script}
use Rattle.shx_outside.specs.OpenTexts.{OpenTexts, bytes_of}

-- no role is opened
abbrev pub no_places : Places
no_places = record { shapes = None; «data» = None; script = None }

-- the place of a role
abbrev pub place_of : Places → Role → Option Place
place_of places Shapes = places.shapes
place_of places Data = places.«data»
place_of places Script = places.script

-- a role at another place
abbrev pub with_place : Places → Role → Option Place → Places
with_place places Shapes place = record places { shapes = place }
with_place places Data place = record places { «data» = place }
with_place places Script place = record places { script = place }

-- the place behind some more bytes
abbrev pub moved_on : Place → ℕ → Place
moved_on place count = record { file = place.file; offset = place.offset + count }

-- the bytes of the text at an index
abbrev pub bytes_at : List NamedText → ℕ → List ℕ
bytes_at files index = bytes_of (slice_get files index)

-- the whole text that a place lies in
abbrev pub whole_at : List NamedText → Option Place → Option (List ℕ)
whole_at files (Some place) = Some (bytes_at files place.file)
whole_at files None = None

-- what is left from a place on
abbrev pub left_at : List NamedText → Option Place → Option (List ℕ)
left_at files (Some place) = Some (drop place.offset (bytes_at files place.file))
left_at files None = None

-- the place lies in a text, or past the last one, where the empty text stands
abbrev pub IsWithin : List NamedText → Option Place → Type 0
IsWithin files (Some place) = place.offset ≤ length (bytes_at files place.file)
IsWithin files None = Unit {0}

-- the place of each role lies in a text
pub record AreWithin (files : List NamedText) (places : Places) : Type 0 where
  pub each : (role : Role) → IsWithin files (place_of places role)

-- what is seen of texts that are read from these places, and were opened so often
abbrev pub texts_from : List NamedText → ℕ → Places → OpenCounts → OpenTexts
texts_from files piece places opens =
    record {
      files = files;
      piece = piece;
      shapes_whole = whole_at files places.shapes;
      data_whole = whole_at files places.«data»;
      script_whole = whole_at files places.script;
      shapes_left = left_at files places.shapes;
      data_left = left_at files places.«data»;
      script_left = left_at files places.script;
      opens = opens;
    }
