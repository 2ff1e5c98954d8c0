-- The law of sh:node.
use Rattle.std.specs.Prelude.{[], ◌∷◌}
use Rattle.std.proofs.Common.{ap}
use Rattle.shx_term.proofs.MemberLemmas.{Contains-head, flat_map_agree}
use Rattle.comp_core.specs.declared.kinds.TheConstants.{NODE}
use Rattle.comp_core.specs.Asking.{asked_keys, pair_of, pairs_at, pairs_asked}
use Rattle.comp_core.specs.Laws.{Agreement}
use Rattle.comp_core.specs.Results.{resting_on}
use Rattle.comp_core.proofs.AskLemmas.{rows_alike}
use Rattle.comp_core.proofs.LawLemmas.{asked_reads}
use Rattle.logic_components.specs.declared.node.Node.{Node}
use Rattle.logic_components.specs.Node.{node_hits}

pub node_agrees : Agreement {C = Node} (λ c. []) (λ c vs. pairs_asked (c.shape ∷ []) vs)
    (λ c g m at vs. node_hits c m at vs) (λ c g r at vs. asked_keys r (c.shape ∷ []) vs)
node_agrees c g h m n r q at vs alike same =
    let shapes = c.shape ∷ [] in
    record {
      rows = flat_map_agree (λ v. resting_on (m (pair_of v c.shape)) NODE at v)
          (λ v. resting_on (n (pair_of v c.shape)) NODE at v) vs
          (λ v i. ap (λ found. resting_on found NODE at v)
          (rows_alike g h m n r q shapes vs alike.agree same v i c.shape (Contains-head c.shape [])));
      reads = asked_reads g h m n r q (pairs_at shapes) vs alike.agree same;
    }
