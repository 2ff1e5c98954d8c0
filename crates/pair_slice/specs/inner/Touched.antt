-- What the look-up by a key finds, as triples.
use Rattle.std.specs.Prelude.{List, [], map}
use Rattle.shx_term.specs.declared.triple.Triple.{Triple}
use Rattle.graph_view.specs.declared.key.Key.{Key}
use Rattle.graph_view.specs.declared.key.Key.TheVariants.{Answer, In, Out, Predicate, Subject}
use Rattle.graph_view.specs.Graph.{Graph, objects_of, subjects_of, triples_of, triples_with}

-- the numbers that are found make triples with those of the key
abbrev pub touched : Graph → Key → List Triple
touched g (Out s p) = map (λ o. record { s = s; p = p; o = o }) (objects_of g s p)
touched g (In p o) = map (λ s. record { s = s; p = p; o = o }) (subjects_of g p o)
touched g (Subject s) = triples_of g s
touched g (Predicate p) = triples_with g p
touched g (Answer shape node) = []
