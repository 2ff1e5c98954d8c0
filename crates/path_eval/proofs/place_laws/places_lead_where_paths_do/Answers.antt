use Rattle.path_eval.proofs.StateLemmas.{states_nodes, states_keys}
use Rattle.path_eval.proofs.place_laws.places_lead_where_paths_do.Goals as goal

pub returns-clause-nodes : goal.returns-clause-nodes
returns-clause-nodes c = states_nodes

pub returns-clause-reads : goal.returns-clause-reads
returns-clause-reads c = states_keys
