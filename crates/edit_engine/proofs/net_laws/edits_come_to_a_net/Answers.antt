use Rattle.edit_engine.proofs.EffectLemmas.{IsNetOn-edits}
use Rattle.edit_engine.proofs.net_laws.edits_come_to_a_net.Goals as goal

pub returns : goal.returns
returns c = IsNetOn-edits
