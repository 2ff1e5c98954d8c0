use Rattle.std.proofs.Common.{nat_eq, get_or, [], map, sym, ap, ◌∙◌}
use Rattle.std.proofs.lemmas.List.{get_or_default, take_all}
use Rattle.indexmap.specs.IndexSet.{insert_all, insert_key}
use Rattle.shape_decl.specs.Declarations.{told_decl}
use Rattle.shape_refs.specs.Order.{nodes_declared}
use Rattle.shape_refs.specs.inner.Places.{nodes_at}
use Rattle.shape_refs.proofs.OrderLemmas.{node_told}
use Rattle.shape_refs.proofs.PlaceLemmas.{entered_all, entered_more}
use Rattle.shape_refs.proofs.ordering.nodes_in.Goals as goal

pub loop-at-preserved : goal.loop-at-preserved
loop-at-preserved c =
    let decls = c.args.declared.now.decls.now in
    let places = c.args.places.now in
    let i = c.loop-at.at-index in
    let place = get_or places i 0 in
    let inside = c.loop-at-test.true in
    let node = node_told decls place c.index-declared-at.result (c.requires.within i 0 inside) in
    entered_more (λ place. get_or (nodes_declared (map told_decl decls)) place 0) places i place inside
    (get_or_default places i 0 place inside) c.loop-at.nodes.keys c.insert.new.self.keys c.loop-at.invariant
    (c.in_ok-insert.ensures.keys ∙ ap (insert_key nat_eq c.loop-at.nodes.keys) (sym node))

pub returns : goal.returns
returns c =
    let ds = map told_decl c.args.declared.now.decls.now in
    let places = c.args.places.now in
    c.loop-at.invariant
    ∙ ap (λ places. insert_all nat_eq [] (nodes_at ds places))
    (take_all c.loop-at.at-index places c.loop-at-test.false)
    ∙ entered_all (nodes_at ds places) c.requires.distinct
