use Rattle.std.specs.Prelude.{◌≡◌, map, flat_map, take}
use Rattle.graph_view.specs.Graph.{objects_of}
use Rattle.shape_decl.specs.Declarations.{told_list, list_reading}
use Rattle.shape_decl.specs.inner.Kept.{AreReadingsOf}
use Rattle.shape_decl.proofs.declaring.declared_lists.Given as goal

abbrev pub invariant-loop-p : goal.invariant-loop-p
invariant-loop-p g l =
    let graph = g.V.GraphView.graph l.graph in record {
      lists : map told_list l.found.items
          ≡ flat_map (λ p. map (list_reading graph) (objects_of graph l.node p)) (take l.p-index l.p-items);
      known : AreReadingsOf graph l.readings;
    }
