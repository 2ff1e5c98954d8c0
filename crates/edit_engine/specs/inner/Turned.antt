-- Since which edit each triple is wanted otherwise than the graph has it; and the edits since which one is.
use Rattle.std.specs.Prelude.{ℕ, ◌+◌, Bool, nat_eq, List, [], ◌∷◌, Option, Some, None, if◌then◌else◌}
use Rattle.std.specs.Borrow.{Bor}
use Rattle.std.specs.HashMap.{HashMap, get_by}
use Rattle.std.specs.List.{filter_map}
use Rattle.std.specs.Option.{option_eq, unwrap_or}
use Rattle.shx_term.specs.declared.edit.Edit.{Edit}
use Rattle.shx_term.specs.declared.triple.TermTriple.{TermTriple}
use Rattle.shx_term.specs.Edit.{stated_by}
use Rattle.shx_term.specs.TripleTerms.{same_term_triple}
use Rattle.edit_history.specs.declared.net.Net.{Net}
use Rattle.graph_view.specs.Graph.{Graph}
use Rattle.edit_engine.specs.Edits.{inserted_by, is_of, removed_by, turns}

-- of each triple that is turned, the place of the edit since which it is so
abbrev pub Places : Type 0
Places = TermTriple → Option ℕ

abbrev pub nowhere : Places
nowhere t = None

-- after one edit more, which has this place: its triple is turned since it, or since one before; or no more
abbrev pub place_after : Graph → ℕ → Places → Edit → Places
place_after g at places edit t =
    if is_of t edit then (if turns g edit then Some (unwrap_or (places t) at) else None) else places t

-- after some edits more, the first of which has this place
abbrev pub places_after : Graph → ℕ → Places → List Edit → Places
places_after g at places [] = places
places_after g at places (edit ∷ edits) = places_after g (at + 1) (place_after g at places edit) edits

-- whether the edit with this place is the one since which its triple is turned
abbrev pub is_noted : Places → ℕ → Edit → Bool
is_noted places at edit = option_eq nat_eq (places (stated_by edit)) (Some at)

-- those edits of a list of which it is so; the first of the list has this place
abbrev pub noted_among : Places → ℕ → List Edit → List Edit
noted_among places at [] = []
noted_among places at (edit ∷ edits) =
    if is_noted places at edit then edit ∷ noted_among places (at + 1) edits
    else noted_among places (at + 1) edits

-- what these add and remove
abbrev pub net_noted : Places → List Edit → Net
net_noted places edits = record {
  added = filter_map inserted_by (noted_among places 0 edits);
  removed = filter_map removed_by (noted_among places 0 edits);
}

-- the places that are kept by triples that were borrowed
abbrev pub places_in : {S : Type 0} → HashMap (Bor TermTriple) ℕ S → Places
places_in turned t = get_by (λ kept. same_term_triple t kept.now) turned
