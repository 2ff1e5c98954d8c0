use Rattle.shape_decl.proofs.NamedLemmas.{named_member, named_shape}
use Rattle.shape_decl.proofs.laws.named_shapes_are_declared.Goals as goal

pub returns-clause-values : goal.returns-clause-values
returns-clause-values c = named_shape

pub returns-clause-members : goal.returns-clause-members
returns-clause-members c = named_member
