use Rattle.path_eval.specs.Superclasses.{AreSuperclassesOf}
use Rattle.path_eval.proofs.superclasses.Superclasses.is_instance.Goals as goal

pub is_of_class-requires : goal.is_of_class-requires
unfolding AreSuperclassesOf
is_of_class-requires g c = record { known = c.requires.known }

pub returns-clause-known : goal.returns-clause-known
unfolding AreSuperclassesOf
returns-clause-known g c = c.is_of_class.ensures.known
