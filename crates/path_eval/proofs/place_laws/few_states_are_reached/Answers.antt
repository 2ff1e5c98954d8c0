use Rattle.path_eval.proofs.FewLemmas.{few_places, few_states}
use Rattle.path_eval.proofs.place_laws.few_states_are_reached.Goals as goal

pub returns-clause-states : goal.returns-clause-states
returns-clause-states c = few_states

pub returns-clause-places : goal.returns-clause-places
returns-clause-places c = few_places
