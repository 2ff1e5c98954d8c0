-- Whether two routes are one, as a test.
use Rattle.std.specs.Prelude.{ℕ, ◌==◌, Bool, ◌&&◌}
use Rattle.path_eval.specs.declared.path.Path.{Path}
use Rattle.path_eval.specs.Route.{Route, along, here, first_then, none, one_or_other, turned, any_times}
use Rattle.path_eval.specs.Route.{some_times, perhaps, route_of}

-- what routes are compared by: the form, the predicate, and the parts
abbrev pub form_of : Route → ℕ
form_of (along p) = 0
form_of here = 1
form_of (first_then a b) = 2
form_of none = 3
form_of (one_or_other a b) = 4
form_of (turned a) = 5
form_of (any_times a) = 6
form_of (some_times a) = 7
form_of (perhaps a) = 8

abbrev pub predicate_of : Route → ℕ
predicate_of (along p) = p
predicate_of _ = 0

abbrev pub first_of : Route → Route
first_of (first_then a b) = a
first_of (one_or_other a b) = a
first_of (turned a) = a
first_of (any_times a) = a
first_of (some_times a) = a
first_of (perhaps a) = a
first_of _ = here

abbrev pub second_of : Route → Route
second_of (first_then a b) = b
second_of (one_or_other a b) = b
second_of _ = here

abbrev pub same_route : Route → Route → Bool
same_route (along p) r = (form_of r == 0) && (p == predicate_of r)
same_route here r = form_of r == 1
same_route (first_then a b) r = (form_of r == 2) && (same_route a (first_of r) && same_route b (second_of r))
same_route none r = form_of r == 3
same_route (one_or_other a b) r =
    (form_of r == 4) && (same_route a (first_of r) && same_route b (second_of r))
same_route (turned a) r = (form_of r == 5) && same_route a (first_of r)
same_route (any_times a) r = (form_of r == 6) && same_route a (first_of r)
same_route (some_times a) r = (form_of r == 7) && same_route a (first_of r)
same_route (perhaps a) r = (form_of r == 8) && same_route a (first_of r)

-- paths that say the same
abbrev pub same_path : Path → Path → Bool
same_path p q = same_route (route_of p) (route_of q)
