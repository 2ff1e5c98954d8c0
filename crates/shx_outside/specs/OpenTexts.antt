-- Texts that are held in memory, each opened by its name: what a name holds, and for each role what was
-- opened, how often, and what is left of it.
use Rattle.std.specs.Prelude.{◌≡◌, ℕ, List, [], Bool, bytes_eq, Option, Some, None, find, is_some}
use Rattle.std.specs.Prelude.{length, min, IfSome}
use Rattle.std.specs.List.{list_any}
use Rattle.shx_outside.specs.declared.named_text.NamedText.{NamedText}
use Rattle.shx_outside.specs.declared.open_counts.OpenCounts.{OpenCounts}
use Rattle.shx_outside.specs.declared.role.Role.{Role}
use Rattle.shx_outside.specs.declared.role.Role.TheVariants.{Shapes, Data, Script}
use Rattle.shx_outside.specs.Opens.{opens_of}
use Rattle.shx_outside.specs.Outside.{InputState}

-- the texts and the most bytes of a read; the whole text of each role that is opened, and what is left of it;
-- and how often each role was opened
pub record OpenTexts : Type 0 where
  pub files : List NamedText
  pub piece : ℕ
  pub shapes_whole : Option (List ℕ)
  pub data_whole : Option (List ℕ)
  pub script_whole : Option (List ℕ)
  pub shapes_left : Option (List ℕ)
  pub data_left : Option (List ℕ)
  pub script_left : Option (List ℕ)
  pub opens : OpenCounts

-- whether a text has this name
abbrev pub is_named : List ℕ → NamedText → Bool
is_named name file = bytes_eq file.name name

-- whether one of the texts has this name
abbrev pub is_held : List NamedText → List ℕ → Bool
is_held files name = list_any (is_named name) files

-- the bytes of a text, if there is one
abbrev pub bytes_of : Option NamedText → List ℕ
bytes_of (Some file) = file.bytes
bytes_of None = []

-- the bytes of the first text of this name, and none where no text has it
abbrev pub bytes_named : List NamedText → List ℕ → List ℕ
bytes_named files name = bytes_of (find (is_named name) files)

-- the whole text of a role, if it is opened
abbrev pub whole_for : OpenTexts → Role → Option (List ℕ)
whole_for texts Shapes = texts.shapes_whole
whole_for texts Data = texts.data_whole
whole_for texts Script = texts.script_whole

-- what is left for a role, if it is opened
abbrev pub left_for : OpenTexts → Role → Option (List ℕ)
left_for texts Shapes = texts.shapes_left
left_for texts Data = texts.data_left
left_for texts Script = texts.script_left

-- what is told, with the count of failures: a name holds the bytes of the first text of that name
abbrev pub texts_told : ℕ → OpenTexts → InputState
texts_told faults texts =
    record {
      text = λ name. Some (bytes_named texts.files name);
      opened = λ role. is_some (left_for texts role);
      opens = opens_of texts.opens;
      whole = whole_for texts;
      rest = left_for texts;
      faults = faults;
    }

-- as many bytes as a piece, the room and what is left allow
abbrev pub IsPieceOf : Option (List ℕ) → ℕ → ℕ → ℕ → Type 0
IsPieceOf left piece room count = IfSome left (λ bytes. count ≡ min (min piece room) (length bytes))

-- the texts and the size of a piece stay the same
pub record KeepsTexts (old new : OpenTexts) : Type 0 where
  pub files : new.files ≡ old.files
  pub piece : new.piece ≡ old.piece
