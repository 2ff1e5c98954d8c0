-- Removing the segments `.` and `..` of a path (RFC 3986, section 5.2.4): the steps of the standard, which
-- take from the front of an input and write behind an output.
use Rattle.std.specs.Prelude.{ℕ, zero, suc, Bool, ◌||◌, List, [], ◌++◌, take, drop, length, reverse}
use Rattle.std.specs.Prelude.{if◌then◌else◌, codes, nat_eq}
use Rattle.std.specs.List.{starts_with, before_first, after_first}
use Rattle.std.specs.Cmp.Lexicographic.{pointwise}
use Rattle.iri_resolve.specs.Characters.{is_slash}

pub record Dots : Type 0 where
  pub input : List ℕ
  pub output : List ℕ

abbrev begins : List ℕ → List ℕ → Bool
begins text front = starts_with nat_eq text front

abbrev is : List ℕ → List ℕ → Bool
is text other = pointwise nat_eq text other

-- the first segment of a path, with its leading slash where it has one
abbrev pub first_segment : List ℕ → List ℕ
first_segment path = take 1 path ++ before_first is_slash (drop 1 path)

-- a path without its last segment and the slash before it
abbrev pub without_last_segment : List ℕ → List ℕ
without_last_segment path = reverse (after_first is_slash (reverse path))

-- one of the steps A to E, by the front of the input
abbrev pub dot_step : Dots → Dots
dot_step d =
    if begins d.input (codes "../") then record { input = drop 3 d.input; output = d.output }
    else (if begins d.input (codes "./") then record { input = drop 2 d.input; output = d.output }
    else (if begins d.input (codes "/./") then record { input = drop 2 d.input; output = d.output }
    else (if is d.input (codes "/.") then record { input = codes "/"; output = d.output }
    else (if begins d.input
    (codes "/../") then record { input = drop 3 d.input; output = without_last_segment d.output }
    else (if is d.input
    (codes "/..") then record { input = codes "/"; output = without_last_segment d.output }
    else (if is d.input (codes ".") || is d.input (codes "..") then record { input = []; output = d.output }
    else record {
      input = drop (length (first_segment d.input)) d.input;
      output = d.output
          ++ first_segment d.input;
    }))))))

abbrev pub dot_steps : ℕ → Dots → Dots
dot_steps zero d = d
dot_steps (suc n) d = dot_steps n (dot_step d)

-- each step shortens an input that is not empty, so that after as many as the path has bytes all of it was
-- taken
abbrev pub without_dot_segments : List ℕ → List ℕ
without_dot_segments path = (dot_steps (length path) (record { input = path; output = [] })).output
