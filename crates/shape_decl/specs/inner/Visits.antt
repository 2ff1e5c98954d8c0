-- The nodes of a path as they are read: with the levels that are left, where `unfolded` has the depth.
use Rattle.std.specs.Prelude.{◌≡◌, ℕ, ◌+◌, ◌-◌, zero, suc, ◌==◌, nat_lt, ◌||◌, List, [], ◌∷◌, flat_map}
use Rattle.std.specs.Prelude.{Option, Some, Result, Ok, if◌then◌else◌}
use Rattle.graph_view.specs.Graph.{Graph}
use Rattle.shape_decl.specs.declared.path_fault.PathFault.{PathFault}
use Rattle.shape_decl.specs.declared.path_fault.PathFault.TheVariants as fault
use Rattle.shape_decl.specs.PathForms.{PathForm, form_of, parts_in}
use Rattle.shape_decl.specs.PathReadings.{fault_of_form, unless_fault, route_at, route_by}

pub record Visit : Type 0 where
  pub node : ℕ
  pub left : ℕ

-- a node, then the nodes inside it in turn, each with one level less
unfoldable pub visits : Graph → ℕ → ℕ → List Visit
visits g zero node = record { node = node; left = zero } ∷ []
visits g (suc left) node =
    record { node = node; left = suc left } ∷ flat_map (visits g left) (parts_in (form_of g node))

abbrev pub row_visits : Graph → ℕ → List ℕ → List Visit
row_visits g left nodes = flat_map (visits g left) nodes

-- what is wrong with a node that is met after so many
abbrev pub visit_fault : Graph → ℕ → ℕ → Visit → Option PathFault
visit_fault g limit before visit =
    if (visit.left == 0) || nat_lt limit (before + 1)
    then Some fault.TooDeep
    else fault_of_form (form_of g visit.node)

-- how many there are then, or the fault of the first that has one
abbrev pub counted : Graph → ℕ → ℕ → List Visit → Result ℕ PathFault
counted g limit before [] = Ok before
counted g limit before (visit ∷ more) =
    unless_fault (visit_fault g limit before visit) (counted g limit (before + 1) more)

-- a node of this form is met: so its parts are those inside it, and its path is made of theirs
pub record Meets (g : Graph) (limit before after left node : ℕ) (form : PathForm) : Type 0 where
  pub parts : counted g limit before (visits g left node)
      ≡ unless_fault (fault_of_form form) (counted g limit after (row_visits g (left - 1) (parts_in form)))
  pub route : route_at g left node ≡ route_by (route_at g (left - 1)) node form
