use Rattle.std.proofs.Common.{◌≡◌, nat_eq, sym, ◌∙◌}
use Rattle.std.specs.List.{list_any}
use Rattle.shape_decl.specs.declared.cell.Cell.TheVariants.{Link}
use Rattle.shape_decl.specs.Lists.{cell_at}
use Rattle.shape_decl.proofs.FollowsLemmas.{read_to_end, read_cycle, read_neither, held_before}
use Rattle.shape_decl.proofs.FollowsLemmas.{new_before, cell_passed, fewer_left}
use Rattle.shape_decl.proofs.lists.followed.Goals as goal

pub returns-in-End-clause-list : goal.returns-in-End-clause-list
returns-in-End-clause-list g c =
    let graph = g.V.GraphView.graph c.args.graph.now in
    sym (read_to_end graph c.cells.invariant.follows (sym c.in_ok-known_cell.ensures.cell ∙ c.in-End.is))

pub returns-in-Neither-clause-list : goal.returns-in-Neither-clause-list
returns-in-Neither-clause-list g c =
    let graph = g.V.GraphView.graph c.args.graph.now in
    sym (read_neither graph c.cells.invariant.follows (sym c.in_ok-known_cell.ensures.cell ∙ c.in-Neither.is))

pub returns-then-not-branch-clause-list : goal.returns-then-not-branch-clause-list
returns-then-not-branch-clause-list g c =
    let graph = g.V.GraphView.graph c.args.graph.now in
    let held = held_before c.in_ok-insert-in-Link.field-0 (list_any (nat_eq c.cells.at) c.cells.seen.keys)
    c.in_ok-insert-in-Link.ensures.added c.if-not-branch.true in
    sym (read_cycle graph c.cells.invariant.follows held)

pub cells-smaller : goal.cells-smaller
cells-smaller g c =
    let graph = g.V.GraphView.graph c.args.graph.now in
    let is : cell_at graph c.cells.at ≡ Link c.in-Link.first c.in-Link.rest =
    sym c.in_ok-known_cell.ensures.cell ∙ c.in-Link.is in
    let new = new_before c.in_ok-insert-in-Link.field-0 (list_any (nat_eq c.cells.at) c.cells.seen.keys)
    c.in_ok-insert-in-Link.ensures.added c.if-not-branch.false in
    fewer_left graph c.cells.invariant.follows c.in-Link.first c.in-Link.rest is new c.push.new.self.items
    c.insert.new.self.keys c.in_ok-push-in-Link.ensures.items c.in_ok-insert-in-Link.ensures.keys

pub cells-preserved : goal.cells-preserved
cells-preserved g c =
    let graph = g.V.GraphView.graph c.args.graph.now in
    let is : cell_at graph c.cells.at ≡ Link c.in-Link.first c.in-Link.rest =
    sym c.in_ok-known_cell.ensures.cell ∙ c.in-Link.is in
    let new = new_before c.in_ok-insert-in-Link.field-0 (list_any (nat_eq c.cells.at) c.cells.seen.keys)
    c.in_ok-insert-in-Link.ensures.added c.if-not-branch.false in
    let follows =
    cell_passed graph c.cells.invariant.follows c.in-Link.first c.in-Link.rest is new c.push.new.self.items
    c.insert.new.self.keys c.in_ok-push-in-Link.ensures.items c.in_ok-insert-in-Link.ensures.keys in
    record { follows = follows; known = c.known_cell.ensures.known }
