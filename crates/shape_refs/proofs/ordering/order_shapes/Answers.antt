use Rattle.std.proofs.Common.{◌<◌, ◌^◌, All, length, map, sym, ap, ◌∙◌, subst}
use Rattle.shape_decl.specs.Declarations.{told_decl}
use Rattle.shape_refs.specs.Outcome.{IsLeastRecursive}
use Rattle.shape_refs.specs.inner.Places.{nodes_at}
use Rattle.shape_refs.proofs.OrderLemmas.{are_rows, cycle_told, cycle_within, deep_told, deep_within}
use Rattle.shape_refs.proofs.OrderLemmas.{node_told, order_count, order_distinct, order_told, order_within}
use Rattle.shape_refs.proofs.OrderLemmas.{reach_told, rows_within}
use Rattle.shape_refs.proofs.ordering.order_shapes.Goals as goal

pub order-requires-clause-within : goal.order-requires-clause-within
order-requires-clause-within c =
    let known = are_rows c.args.declared.now c.requires.ascending c.requires.named c.deref-2.ensures.value
    c.in_ok-refs.ensures in
    rows_within known

pub nodes_in-requires-clause-within : goal.nodes_in-requires-clause-within
nodes_in-requires-clause-within c =
    let known = are_rows c.args.declared.now c.requires.ascending c.requires.named c.deref-2.ensures.value
    c.in_ok-refs.ensures in
    order_within known c.args.depth_limit c.in-Ok.numbering c.in-Ok.ensures.numbering c.deref-in-Ok.result.now
    c.deref-in-Ok.ensures.value

pub nodes_in-requires-clause-distinct : goal.nodes_in-requires-clause-distinct
nodes_in-requires-clause-distinct c =
    let known = are_rows c.args.declared.now c.requires.ascending c.requires.named c.deref-2.ensures.value
    c.in_ok-refs.ensures in
    order_distinct known c.args.depth_limit c.in-Ok.numbering c.in-Ok.ensures.numbering
    c.deref-in-Ok.result.now c.deref-in-Ok.ensures.value

pub invariant_of-result : goal.invariant_of-result
invariant_of-result c =
    let known = are_rows c.args.declared.now c.requires.ascending c.requires.named c.deref-2.ensures.value
    c.in_ok-refs.ensures in
    let count = order_count known c.args.depth_limit c.in-Ok.numbering c.in-Ok.ensures.numbering
    c.deref-in-Ok.result.now c.deref-in-Ok.ensures.value
    c.in_ok-nodes_in-in-Ok.field-0.keys c.in_ok-nodes_in-in-Ok.ensures in
    record { few = subst (λ n. n < 2 ^ 32) (sym count) c.args.declared.now.few }

pub returns-in-Ok-clause-order : goal.returns-in-Ok-clause-order
returns-in-Ok-clause-order c =
    let known = are_rows c.args.declared.now c.requires.ascending c.requires.named c.deref-2.ensures.value
    c.in_ok-refs.ensures in
    order_told known c.args.depth_limit c.in-Ok.numbering c.in-Ok.ensures.numbering c.deref-in-Ok.result.now
    c.deref-in-Ok.ensures.value
    c.in_ok-nodes_in-in-Ok.field-0.keys c.in_ok-nodes_in-in-Ok.ensures

pub returns-in-Ok-clause-reach : goal.returns-in-Ok-clause-reach
returns-in-Ok-clause-reach c =
    let known = are_rows c.args.declared.now c.requires.ascending c.requires.named c.deref-2.ensures.value
    c.in_ok-refs.ensures in
    reach_told known c.args.depth_limit c.in-Ok.numbering (c.in-Ok.ensures.exact (λ e. absurd (cc)))

pub nodes_of-requires : goal.nodes_of-requires
nodes_of-requires c =
    let known = are_rows c.args.declared.now c.requires.ascending c.requires.named c.deref-2.ensures.value
    c.in_ok-refs.ensures in
    let cycle = rw c.in-Err-Recursive.field-0-is at c.in-Err-Recursive.ensures.fault in
    let same = sym c.deref-in-Err-Recursive.ensures.value in
    subst (All (λ place. place < length c.args.declared.now.decls.now)) same (cycle_within known _ cycle)

pub returns-in-Err-Recursive-clause-fault : goal.returns-in-Err-Recursive-clause-fault
returns-in-Err-Recursive-clause-fault c =
    let known = are_rows c.args.declared.now c.requires.ascending c.requires.named c.deref-2.ensures.value
    c.in_ok-refs.ensures in
    let cycle = rw c.in-Err-Recursive.field-0-is at c.in-Err-Recursive.ensures.fault in
    let ds = map told_decl c.args.declared.now.decls.now in
    let same = c.in_ok-nodes_of-in-Err-Recursive.ensures
    ∙ ap (nodes_at ds) c.deref-in-Err-Recursive.ensures.value in
    subst (IsLeastRecursive c.args.declared.now.pool.now.terms ds) (sym same) (cycle_told known _ cycle)

pub bounds-declared-shape : goal.bounds-declared-shape
bounds-declared-shape c =
    let known = are_rows c.args.declared.now c.requires.ascending c.requires.named c.deref-2.ensures.value
    c.in_ok-refs.ensures in
    let deep = rw c.in-Err-TooDeep.field-0-is at c.in-Err-TooDeep.ensures.fault in
    deep_within known c.args.depth_limit c.in-Err-TooDeep.shape deep

pub returns-in-Err-TooDeep-clause-fault : goal.returns-in-Err-TooDeep-clause-fault
returns-in-Err-TooDeep-clause-fault c =
    let known = are_rows c.args.declared.now c.requires.ascending c.requires.named c.deref-2.ensures.value
    c.in_ok-refs.ensures in
    let deep = rw c.in-Err-TooDeep.field-0-is at c.in-Err-TooDeep.ensures.fault in
    let decls = c.args.declared.now.decls.now in
    let shape = c.in-Err-TooDeep.shape in
    let inside = deep_within known c.args.depth_limit shape deep in
    let node = node_told decls shape c.index-declared-shape.result inside in
    deep_told known c.args.depth_limit shape deep _ node
