-- The law of sh:property.
use Rattle.std.specs.Prelude.{[], ◌∷◌}
use Rattle.shx_term.proofs.MemberLemmas.{Contains-head, flat_map_agree}
use Rattle.comp_core.specs.Asking.{asked_keys, pair_of, pairs_at, pairs_asked}
use Rattle.comp_core.specs.Laws.{Agreement}
use Rattle.comp_core.proofs.AskLemmas.{rows_alike}
use Rattle.comp_core.proofs.LawLemmas.{asked_reads}
use Rattle.logic_components.specs.declared.property.Property.{Property}
use Rattle.logic_components.specs.Property.{property_hits}

pub property_agrees : Agreement {C = Property} (λ c. []) (λ c vs. pairs_asked (c.shape ∷ []) vs)
    (λ c g m at vs. property_hits c m vs) (λ c g r at vs. asked_keys r (c.shape ∷ []) vs)
property_agrees c g h m n r q at vs alike same =
    let shapes = c.shape ∷ [] in
    record {
      rows = flat_map_agree (λ v. m (pair_of v c.shape)) (λ v. n (pair_of v c.shape)) vs
          (λ v i. rows_alike g h m n r q shapes vs alike.agree same v i c.shape (Contains-head c.shape []));
      reads = asked_reads g h m n r q (pairs_at shapes) vs alike.agree same;
    }
