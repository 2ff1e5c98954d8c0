use Rattle.std.proofs.Common.{◌≡◌, length, rules, ◌∙◌}
use Rattle.shape_decl.proofs.LeftLemmas.{lists_behind, lists_here, lists_stay}
use Rattle.shape_decl.proofs.declaration.ShapeDecl.lists_of.Goals as goal
use Rattle.shape_decl.proofs.declaration.ShapeDecl.lists_of.Goals.{then-takes_lists, else-takes_lists}

pub returns-then-row-predicate : goal.returns-then-row-predicate
returns-then-row-predicate c =
    let here =
    lists_here c.args.predicate c.deref-row-items.result.now c.loop-row.row-index c.row-item.result
    c.loop-row.lists.now c.loop-row-test.true c.row-item.is (search rules) in
    let whole = c.loop-row.invariant ∙ here in
    rw (c.parted.ensures.front, c.len.ensures) (search (rules, whole))

pub loop-row-preserved : goal.loop-row-preserved
loop-row-preserved c =
    let p = c.args.predicate in
    let rows = c.deref-row-items.result.now in
    let i = c.loop-row.row-index in
    let row = c.row-item.result in
    let lists = c.loop-row.lists.now in
    elim c.if-takes_lists.branch [
      | then-takes_lists w ↦
          let behind =
          lists_behind p rows i row lists c.loop-row-test.true c.row-item.is (search rules) (search rules) in
          let count : c.len.result ≡ length row.values.items = search rules in
          rw (w.lists-is, c.parted.ensures.behind, count) (c.loop-row.invariant ∙ behind)
      | else-takes_lists w ↦
          let stays =
          lists_stay p rows i row lists c.loop-row-test.true c.row-item.is (search rules) (search rules) in
          rw (w.lists-is) (c.loop-row.invariant ∙ stays)
    ]
