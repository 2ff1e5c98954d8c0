use Rattle.edit_engine.proofs.PlanLemmas.{plan_known_more}
use Rattle.edit_engine.proofs.laws.plans_stay_known.Goals as goal

pub returns : goal.returns
returns c terms more shapes known = plan_known_more terms more shapes known
