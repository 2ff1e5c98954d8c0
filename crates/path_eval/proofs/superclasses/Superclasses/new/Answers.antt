use Rattle.std.proofs.Common.{rules}
use Rattle.path_eval.specs.Superclasses.{AreSuperclassesOf}
use Rattle.path_eval.proofs.superclasses.Superclasses.new.Goals as goal

pub returns : goal.returns
unfolding AreSuperclassesOf
returns c = λ g. record { above = search rules; last = search rules }
