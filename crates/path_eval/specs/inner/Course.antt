-- A whole path, laid part behind part from place 0 on: a closure ends at its own place.
use Rattle.std.specs.Prelude.{◌≡◌, ℕ, ◌+◌, Bool, true, false, List, [], ◌∷◌, ◌++◌, if◌then◌else◌}
use Rattle.path_eval.specs.declared.course.Course.{Course}
use Rattle.path_eval.specs.declared.direction.Direction.{Direction}
use Rattle.path_eval.specs.declared.direction.Direction.TheVariants.{Forward, Backward}
use Rattle.path_eval.specs.declared.edge.Edge.{Edge}
use Rattle.path_eval.specs.declared.edge.Label.TheVariants.{Free}
use Rattle.path_eval.specs.Route.{Route, along, here, first_then, none, one_or_other, turned, any_times}
use Rattle.path_eval.specs.Route.{some_times, perhaps}
use Rattle.path_eval.specs.inner.Laid.{after, edge_by, laid}

-- a path so far: its edges, how many places they take, where it ends, and whether a closure turns there
pub record Line : Type 0 where
  pub edges : List Edge
  pub places : ℕ
  pub end : ℕ
  pub turns : Bool

-- nothing of a path ends where it begins
abbrev pub nothing_laid : Line
nothing_laid = record { edges = []; places = 1; end = 0; turns = false }

-- then a route, to a new place
abbrev pub passed : Direction → Route → Line → Line
passed d a line = record {
  edges = line.edges ++ laid d a line.end line.places (line.places + 1);
  places = after a (line.places + 1);
  end = line.places;
  turns = false;
}

-- a free edge to a new place, if a closure turns where the path ends
abbrev pub left_closure : Direction → Line → Line
left_closure d line = if line.turns then passed d here line else line

-- then a closure of a route, which turns where the path ends
abbrev pub turning : Direction → Route → Line → Line
turning d a line = record {
  edges = line.edges ++ laid d a line.end line.end line.places;
  places = after a line.places;
  end = line.end;
  turns = true;
}

-- then a closure of a route that is taken once at least: it ends behind the route, from where a free edge
-- leads back
abbrev pub turning_back : Direction → Route → Line → Line
turning_back d a line = record {
  edges = line.edges ++ edge_by Free line.places line.end ∷ laid d a line.end line.places (line.places + 1);
  places = after a (line.places + 1);
  end = line.places;
  turns = true;
}

-- then a route: of a sequence part by part, so that a closure ends at its own place
abbrev pub led : Direction → Route → Line → Line
led d (along p) line = passed d (along p) line
led d here line = line
led Forward (first_then a b) line = led Forward b (led Forward a line)
led Backward (first_then a b) line = led Backward a (led Backward b line)
led d none line = passed d none line
led d (one_or_other a b) line = passed d (one_or_other a b) line
led d (turned a) line = passed d (turned a) line
led d (any_times a) line = turning d a (left_closure d line)
led d (some_times a) line = turning_back d a (left_closure d line)
led d (perhaps a) line = passed d (perhaps a) line

-- a whole path
abbrev pub whole : Direction → Route → Line
whole d route = led d route nothing_laid

abbrev pub line_of : Course → Line
line_of course = record {
  edges = course.edges.edges.items;
  places = course.edges.places;
  end = course.end;
  turns = course.turns;
}

-- it is the whole of a path that says this
abbrev pub IsCourseOf : Route → Course → Type 0
IsCourseOf route course = line_of course ≡ whole Forward route
