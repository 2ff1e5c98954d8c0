use Rattle.shape_text.proofs.SamePlanLemmas.{plans_same}
use Rattle.shape_text.proofs.same_plans.plans_write_the_same.Goals as goal

pub returns : goal.returns
returns c = plans_same
