use Rattle.std.proofs.Common.{get_or, map}
use Rattle.std.proofs.lemmas.List.{map_more}
use Rattle.shape_decl.specs.Declarations.{told_decl}
use Rattle.shape_refs.specs.Order.{nodes_declared}
use Rattle.shape_refs.proofs.OrderLemmas.{node_told}
use Rattle.shape_refs.proofs.ordering.nodes_of.Goals as goal

pub loop-at-preserved : goal.loop-at-preserved
loop-at-preserved c =
    let decls = c.args.declared.now.decls.now in
    let places = c.args.places.now in
    let i = c.loop-at.at-index in
    let inside = c.loop-at-test.true in
    let node = node_told decls (get_or places i 0) c.index-declared-at.result (c.requires i 0 inside) in
    let more = map_more (λ place. get_or (nodes_declared (map told_decl decls)) place 0) places i 0 inside in
    cc (c.in_ok-push.ensures.items)
