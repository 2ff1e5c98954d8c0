-- Edits of a graph in order: which of them have an effect together, and the change that they come to.
use Rattle.std.specs.Prelude.{Bool, false, not, List, [], ◌∷◌, ◌++◌, filter, fold, Option, Some, None}
use Rattle.std.specs.Prelude.{if◌then◌else◌}
use Rattle.std.specs.List.{filter_map, list_any}
use Rattle.shx_term.specs.declared.edit.Edit.{Edit}
use Rattle.shx_term.specs.declared.edit.Edit.TheVariants.{Insert, Remove}
use Rattle.shx_term.specs.declared.triple.Triple.{Triple}
use Rattle.shx_term.specs.declared.triple.TermTriple.{TermTriple}
use Rattle.shx_term.specs.Edit.{stated_by}
use Rattle.shx_term.specs.Triple.{same_triple}
use Rattle.shx_term.specs.TripleTerms.{numbered, same_term_triple}
use Rattle.edit_history.specs.declared.net.Net.{Net}
use Rattle.graph_view.specs.Graph.{Graph}

abbrev pub stands_among : List Triple → Option Triple → Bool
stands_among triples None = false
stands_among triples (Some t) = list_any (same_triple t) triples

-- whether the graph holds the triple
abbrev pub is_stated : Graph → TermTriple → Bool
is_stated g t = stands_among g.triples (numbered g.terms t)

-- whether the edit wants its triple otherwise than the graph has it
abbrev pub turns : Graph → Edit → Bool
turns g (Insert t) = not (is_stated g t)
turns g (Remove t) = is_stated g t

-- the edit is one of this triple
abbrev pub is_of : TermTriple → Edit → Bool
is_of t edit = same_term_triple (stated_by edit) t

-- what has an effect of some edits and one more behind them: this one is the last, where it turns its triple
-- and none has done so before; where it has its triple as the graph has it, what turned that is taken back
abbrev pub with_effect : Graph → List Edit → Edit → List Edit
with_effect g effects edit =
    if turns g edit then
    (if list_any (is_of (stated_by edit)) effects then effects else effects ++ edit ∷ [])
    else filter (λ e. not (is_of (stated_by edit) e)) effects

-- those of the edits that have an effect together, in their order
abbrev pub effects_of : Graph → List Edit → List Edit
effects_of g edits = fold (with_effect g) [] edits

abbrev pub inserted_by : Edit → Option TermTriple
inserted_by (Insert t) = Some t
inserted_by (Remove t) = None

abbrev pub removed_by : Edit → Option TermTriple
removed_by (Insert t) = None
removed_by (Remove t) = Some t

-- what the edits add to the graph, and what they remove from it
abbrev pub net_of : Graph → List Edit → Net
net_of g edits = record {
  added = filter_map inserted_by (effects_of g edits);
  removed = filter_map removed_by (effects_of g edits);
}
