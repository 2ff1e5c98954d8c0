use Rattle.graph_rows.proofs.tests.steps.is_patch.Goals as goal

pub returns-then-are_known : goal.returns-then-are_known
returns-then-are_known g c = λ all_held.
    let absent = rw c.triples-new.ensures at c.are_held.ensures c.if-are_held.true in
    let known = rw c.triples-new.ensures at c.are_known.ensures c.if-are_known.true in
    let held = rw c.triples-gone.ensures at c.are_held-then-are_known.ensures all_held in
    record {
      added_once = c.len.ensures.distinct;
      added_absent = absent;
      added_known = known;
      removed_once = c.len-2.ensures.distinct;
      removed_held = held;
    }
