-- An edit that touches nothing that is read for a pair makes no difference to it.
use Rattle.std.specs.Prelude.{◌≡◌, List, Contains}
use Rattle.shx_term.specs.declared.triple.Triple.{Triple}
use Rattle.graph_view.specs.declared.key.Key.{Key}
use Rattle.graph_view.specs.Agree.{Agree}
use Rattle.graph_view.specs.Graph.{Graph, HasAlso, IsWithout}
use Rattle.graph_view.specs.Key.{Touches}
use Rattle.graph_view.proofs.AgreeLemmas.{Agree-on_terms, AgreeOn-also, AgreeOn-fewer, AgreeOn-without}

module _ (g h : Graph) (t : Triple) (terms : h.terms ≡ g.terms) (keys : List Key)
    (beside : (k : Key) → Contains keys k → Touches t k → ⊥) where
  pub agree_inserted : HasAlso g.triples h.triples t → Agree g h (Contains keys)
  agree_inserted also =
      Agree-on_terms terms (AgreeOn-fewer (Contains keys) beside (AgreeOn-also t also))

  pub agree_removed : IsWithout g.triples h.triples t → Agree g h (Contains keys)
  agree_removed without =
      Agree-on_terms terms (AgreeOn-fewer (Contains keys) beside (AgreeOn-without t without))
