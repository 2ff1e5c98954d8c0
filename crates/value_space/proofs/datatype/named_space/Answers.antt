use Rattle.std.proofs.Common.{refl}
use Rattle.shx_term.specs.Datatypes.{datatypes}
use Rattle.value_space.proofs.DatatypeLemmas.{space_meant-named}
use Rattle.value_space.proofs.datatype.named_space.Goals as goal

pub returns : goal.returns
unfolding datatypes
returns c = space_meant-named _ c.args.name.now datatypes c.space_in.result c.space_in.ensures refl
