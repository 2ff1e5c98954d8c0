-- The law of sh:closed, from the law of look-ups.
use Rattle.std.specs.Prelude.{◌≡◌, ℕ, [], ◌∷◌, flat_map, Contains}
use Rattle.std.proofs.Common.{sym, ap, subst}
use Rattle.shx_term.proofs.MemberLemmas.{Contains-head, flat_map_agree}
use Rattle.shx_term.proofs.SetLemmas.{SameMembers-itself}
use Rattle.graph_view.specs.declared.key.Key.TheVariants.{Subject}
use Rattle.graph_view.specs.Agree.{Agree}
use Rattle.graph_view.specs.Graph.{Graph, AllKnown, triples_of}
use Rattle.graph_view.proofs.AgreeLemmas.{Agree-fewer, Agree-part}
use Rattle.comp_core.specs.Laws.{Agreement}
use Rattle.qualified_shapes.specs.declared.closed.Closed.{Closed}
use Rattle.qualified_shapes.specs.Closed.{closed_hit, closed_hits, closed_reads}

module _ (look_ups_agree : (g h : Graph) (s : ℕ) → AllKnown g → Agree g h (λ key. key ≡ Subject s)
    → triples_of g s ≡ triples_of h s) where
  pub closed_agrees : Agreement {C = Closed} (λ c. []) (λ c vs. [])
      (λ c g m at vs. closed_hits c g at vs) (λ c g r at vs. closed_reads vs)
  closed_agrees c g h m n r q at vs alike same =
      let hit = closed_hit c.permitted c.ignored at in
      let agree_at = λ (v : ℕ) (i : Contains vs v).
      Agree-fewer (λ key. key ≡ Subject v)
      (λ key e. subst (Contains (Subject v ∷ [])) (sym e) (Contains-head (Subject v) []))
      (Agree-part g h (λ w. Subject w ∷ []) vs v i alike.agree) in
      record {
        rows = flat_map_agree (λ v. flat_map hit (triples_of g v)) (λ v. flat_map hit (triples_of h v)) vs
            (λ v i. ap (flat_map hit) (look_ups_agree g h v alike.before (agree_at v i)));
        reads = SameMembers-itself (closed_reads vs);
      }
