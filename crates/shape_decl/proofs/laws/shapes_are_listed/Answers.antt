use Rattle.shape_decl.proofs.ShapeLemmas.{shapes_listed}
use Rattle.shape_decl.proofs.laws.shapes_are_listed.Goals as goal

pub returns : goal.returns
returns c = shapes_listed
