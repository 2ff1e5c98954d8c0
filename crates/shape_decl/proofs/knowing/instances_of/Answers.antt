use Rattle.std.specs.Prelude.{ℕ, ◌==◌}
use Rattle.std.specs.List.{list_any}
use Rattle.std.proofs.Common.{ap, ◌∙◌}
use Rattle.shape_decl.proofs.KeptLemmas.{found_back}
use Rattle.shape_decl.proofs.knowing.instances_of.Goals as goal

pub returns : goal.returns
returns g c = λ n.
    c.in_ok-set_of.ensures n
    ∙ ap (list_any (λ (node : ℕ). node == n)) (c.deref.ensures.value ∙ c.in_ok-nodes.ensures.instances)
    ∙ found_back (g.V.GraphView.graph c.args.graph.now) c.pool.ensures.known c.args.class n
