use Rattle.graph_view.proofs.KeyLemmas.{Contains-keys_of}
use Rattle.graph_view.proofs.key.keys_of.Goals as goal

pub returns-clause-touched : goal.returns-clause-touched
returns-clause-touched c = Contains-keys_of c.args.t.now
