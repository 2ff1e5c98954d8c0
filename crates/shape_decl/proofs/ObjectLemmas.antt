-- The objects that a node has are found among its triples.
use Rattle.std.specs.Prelude.{◌≡◌, ℕ, map}
use Rattle.shx_term.specs.IdOrder.{in_term_order}
use Rattle.graph_view.specs.declared.key.Key.TheVariants.{Out}
use Rattle.graph_view.specs.Graph.{Graph, objects_of, triples_of}
use Rattle.graph_view.specs.Key.{look}
use Rattle.shx_term.specs.Members.{SameMembers}
use Rattle.graph_view.proofs.KeyLemmas.{Contains-look}
use Rattle.graph_view.proofs.LookUpLemmas.{Contains-triples_of}
use Rattle.graph_view.proofs.SameGraphLemmas.{numbers_same}

same_among : (g : Graph) (s p : ℕ) → SameMembers (look (triples_of g s) (Out s p)) (look g.triples (Out s p))
same_among g s p = record {
  each = λ t.
      let among = Contains-look (triples_of g s) (Out s p) t in
      let there = Contains-look g.triples (Out s p) t in
      let of_node = Contains-triples_of g s t in (
        λ c. let found = among.0 c in there.1 ((of_node.0 found.0).0, found.1),
        λ c. let found = there.0 c in among.1 (of_node.1 (found.0, found.1.0), found.1),
      );
}

-- the objects of a subject and predicate are among the triples of the subject
pub objects_among : (g : Graph) (s p : ℕ)
    → in_term_order g.terms (map (λ t. t.o) (look (triples_of g s) (Out s p))) ≡ objects_of g s p
objects_among g s p =
    numbers_same g.terms (look (triples_of g s) (Out s p)) (look g.triples (Out s p)) (same_among g s p)
    (λ t. t.o)
