use Rattle.path_eval.proofs.RowLemmas.{DoesAll-row}
use Rattle.path_eval.proofs.rows.edges_at.Goals as goal

pub returns-in-Some : goal.returns-in-Some
returns-in-Some c =
    let told = c.in-Some.ensures.lookup in
    DoesAll-row c.args.rows.now c.args.edges.now c.as_slice.result.now c.args.place c.in-Some.row.now
    c.requires
    told.3.0 told.1 c.as_slice.ensures.value
