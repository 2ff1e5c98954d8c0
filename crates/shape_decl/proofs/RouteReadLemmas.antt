-- The route of a path that is read from the nodes of a list.
use Rattle.std.specs.Prelude.{◌≡◌, ℕ, ◌-◌, List, map, Vec}
use Rattle.std.specs.declared.alloc.Global.{Global}
use Rattle.std.proofs.Common.{sym, ap, ◌∙◌}
use Rattle.path_eval.specs.declared.path.Path.{Path}
use Rattle.path_eval.specs.declared.path.Path.TheViews.{Seq, Alt}
use Rattle.path_eval.specs.Route.{sequence, alternative, route_of}
use Rattle.path_eval.proofs.RouteLemmas.{route_Seq, route_Alt}
use Rattle.graph_view.specs.Graph.{Graph}
use Rattle.shape_decl.specs.PathForms.{PathForm, Sequence, Alternative}
use Rattle.shape_decl.specs.PathReadings.{route_at, route_by}
use Rattle.shape_decl.specs.inner.Visits.{Meets}

module _ {g : Graph} {limit before after left node : ℕ} {form : PathForm}
    (met : Meets g limit before after left node form) (nodes : List ℕ) (paths : Vec Path Global)
    (each : map route_of paths.items ≡ map (route_at g (left - 1)) nodes) where
  pub sequence_read : form ≡ Sequence nodes → route_of (Seq paths) ≡ route_at g left node
  sequence_read is =
      route_Seq paths ∙ ap sequence each
      ∙ sym (met.route ∙ ap (route_by (route_at g (left - 1)) node) is)

  pub alternative_read : form ≡ Alternative nodes → route_of (Alt paths) ≡ route_at g left node
  alternative_read is =
      route_Alt paths ∙ ap alternative each
      ∙ sym (met.route ∙ ap (route_by (route_at g (left - 1)) node) is)
