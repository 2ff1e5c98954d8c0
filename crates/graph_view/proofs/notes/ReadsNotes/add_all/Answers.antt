use Rattle.std.proofs.lemmas.Result.{on_ok_weaker}
use Rattle.shx_term.proofs.SetLemmas.{Adds-same}
use Rattle.graph_view.proofs.notes.ReadsNotes.add_all.Goals as goal

pub returns : goal.returns
returns c = λ keys has.
    on_ok_weaker c.add_all.result (Adds-same c.args.other.now keys has) c.add_all.ensures.added
