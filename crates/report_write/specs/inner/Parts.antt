-- Texts with a mark between each two, as the parts of a path stand.
use Rattle.std.specs.Prelude.{ℕ, List, [], ◌∷◌, ◌++◌, flat_map, map}
use Rattle.shx_term.specs.declared.term.Term.{Term}
use Rattle.path_eval.specs.declared.path.Path.{Path}
use Rattle.path_eval.specs.Route.{route_of}
use Rattle.text_output.specs.declared.format.Format.{Format}
use Rattle.report_write.specs.PathTexts.{path_text}

abbrev pub path_texts : Format → List Term → List Path → List (List ℕ)
path_texts format terms paths = map (λ path. path_text format terms (route_of path)) paths

-- what stands before the next text
abbrev pub before_next : List ℕ → List (List ℕ) → List ℕ
before_next mark [] = []
before_next mark (text ∷ texts) = mark

abbrev pub joined : List ℕ → List (List ℕ) → List ℕ
joined mark [] = []
joined mark (text ∷ texts) = text ++ flat_map (λ next. mark ++ next) texts
