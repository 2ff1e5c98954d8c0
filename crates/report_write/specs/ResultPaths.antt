-- The path of a result: the predicate at which it stands, or else the path of its source shape.
use Rattle.std.specs.Prelude.{ℕ, List, Option, Some, None}
use Rattle.std.specs.Option.{option_map}
use Rattle.shx_term.specs.declared.term.Term.{Term}
use Rattle.path_eval.specs.declared.path.Path.{Path}
use Rattle.path_eval.specs.Route.{Route, along, route_of}
use Rattle.text_output.specs.declared.format.Format.{Format}
use Rattle.report_write.specs.PathTexts.{path_text}

abbrev pub result_route : Option ℕ → Option Path → Option Route
result_route (Some predicate) path = Some (along predicate)
result_route None path = option_map route_of path

-- its text, where it has one
abbrev pub result_path_text : Format → List Term → Option ℕ → Option Path → Option (List ℕ)
result_path_text format terms predicate path =
    option_map (path_text format terms) (result_route predicate path)
