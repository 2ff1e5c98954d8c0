-- Removing dot segments on the way along a path: what the output holds after each segment, and what is still
-- due.
use Rattle.std.specs.Prelude.{◌≡◌, ℕ, ◌≤◌, Bool, true, false, ◌&&◌, ◌||◌, ◌==◌, is_some, List, [], ◌++◌, take}
use Rattle.std.specs.Prelude.{drop, length, if◌then◌else◌, codes, nat_eq}
use Rattle.std.specs.List.{list_any}
use Rattle.std.specs.Cmp.Lexicographic.{pointwise}
use Rattle.iri_resolve.specs.Characters.{is_slash}
use Rattle.iri_resolve.specs.Parts.{Parts}
use Rattle.iri_resolve.specs.DotSegments.{dot_steps, without_last_segment}
use Rattle.iri_resolve.specs.Resolution.{up_to_last_slash}

-- a text, with the slash before it where there is one
abbrev pub after_slash : Bool → List ℕ → List ℕ
after_slash true text = codes "/" ++ text
after_slash false text = text

-- what the output is in the end, from this input and this output on
unfoldable pub dots_removed : List ℕ → List ℕ → List ℕ
dots_removed input output = (dot_steps (length input) (record { input = input; output = output })).output

abbrev pub is_dot : List ℕ → Bool
is_dot segment = pointwise nat_eq segment (codes ".")

abbrev pub is_dot_dot : List ℕ → Bool
is_dot_dot segment = pointwise nat_eq segment (codes "..")

-- whether a slash stands before what follows a segment and its slash: dots at the very front take theirs with
-- them
abbrev pub slash_after : Bool → List ℕ → Bool
slash_after slash segment = if is_dot segment || is_dot_dot segment then slash else true

-- the output with a segment walked, and the slash before it where there is one
abbrev pub with_segment : Bool → List ℕ → List ℕ → List ℕ
with_segment slash segment output =
    if is_dot segment then output
    else (if is_dot_dot segment then (if slash then without_last_segment output else output)
    else output ++ after_slash slash segment)

-- the output with the last segment walked, which no slash follows
abbrev pub with_last_segment : Bool → List ℕ → List ℕ → List ℕ
with_last_segment slash segment output =
    if is_dot segment || is_dot_dot segment then with_segment slash segment output ++ after_slash slash []
    else with_segment slash segment output

-- what stands behind the last slash
abbrev pub last_segment : List ℕ → List ℕ
last_segment path = drop (length (up_to_last_slash path)) path

-- a segment of a path, up to its first slash, and what stands behind that slash
pub record IsSegment (path segment behind : List ℕ) : Type 0 where
  pub parts : path ≡ segment ++ (codes "/" ++ behind)
  pub slash_free : list_any is_slash segment ≡ false

-- behind the place `start`, where the output begins, stands this output now, and before it what stood there
pub record WritesFrom (start : ℕ) (old new output : List ℕ) : Type 0 where
  pub within : start ≤ length new
  pub front : take start new ≡ take start old
  pub output_is : drop start new ≡ output

-- a path was walked up to its last slash: whatever follows it, what the output is in the end is what it would
-- have been
pub record IsWalked (start : ℕ) (old new : List ℕ) (slash : Bool) (path : List ℕ) (next : Bool) : Type 0 where
  pub within : start ≤ length new
  pub front : take start new ≡ take start old
  pub due : (rest : List ℕ)
      → dots_removed (after_slash next rest) (drop start new) ≡ dots_removed
      (after_slash slash (up_to_last_slash path ++ rest)) (drop start old)

-- whether a slash stands before a path that is merged with that of the base
abbrev pub is_rooted : Parts → Bool
is_rooted base = is_some base.authority && (length base.path == 0)
