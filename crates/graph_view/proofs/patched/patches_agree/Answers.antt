use Rattle.graph_view.proofs.PatchedLemmas.{Agree-patched, IsValidView-patched}
use Rattle.graph_view.proofs.patched.patches_agree.Goals as goal

pub returns-clause-beside : goal.returns-clause-beside
returns-clause-beside c = Agree-patched

pub returns-clause-valid : goal.returns-clause-valid
returns-clause-valid c = IsValidView-patched
