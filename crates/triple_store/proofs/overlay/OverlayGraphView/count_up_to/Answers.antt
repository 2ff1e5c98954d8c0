use Rattle.std.specs.Prelude.{length}
use Rattle.std.proofs.Common.{ap, ◌∙◌, arith, length-append}
use Rattle.std.proofs.lemmas.List.Elements.{filter-append}
use Rattle.std.proofs.lemmas.List.Sums.{length-filter, count_by-le-length}
use Rattle.shx_term.specs.Triple.{same_triple}
use Rattle.shx_term.specs.declared.triple.Triple.{Triple}
use Rattle.graph_view.specs.Key.{look, is_touching}
use Rattle.graph_view.specs.Patched.{without}
use Rattle.triple_store.proofs.overlay.OverlayGraphView.count_up_to.Goals as goal

pub returns : goal.returns
returns g c =
    let triples = (g.V.GraphView.graph c.args.self.now.base.now).triples in
    let left = without same_triple triples c.args.self.now.removed in
    let added = c.args.self.now.added in
    let key = c.args.key.now in
    let touching = λ (t : Triple). is_touching t key in
    let whole = ap length (filter-append touching left added)
    ∙ length-append (look left key) (look added key) in
    let held = c.args.self.now.held_by_key key in
    let few = count_by-le-length touching triples in
    omega (
      arith,
      whole,
      held,
      few,
      length-filter touching triples,
      c.len.ensures.count,
      c.len.type_inv,
      c.min.ensures,
      c.saturating_add-2.ensures,
      c.count-new.ensures,
      c.count_up_to-held.ensures,
      c.saturating_add.ensures,
      c.count-gone.ensures,
    )
