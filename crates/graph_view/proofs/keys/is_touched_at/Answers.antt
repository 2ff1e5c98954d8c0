use Rattle.std.proofs.Common.{sym, subst}
use Rattle.std.specs.Prelude.{Contains}
use Rattle.graph_view.proofs.KeyLemmas.{Contains-keys_of}
use Rattle.graph_view.proofs.keys.is_touched_at.Goals as goal

pub returns : goal.returns
returns c =
    let own = Contains-keys_of c.args.t.now in
    let among = c.keys_of.ensures.keys in
    let held = c.is_any_hashed.ensures in (
      λ h.
          let found = held.0 h in
          let touched = (own found.0).0 (subst (λ keys. Contains keys found.0) among found.1.0) in
          (found.0, (found.1.1, touched)),
      λ k.
          let one = subst (λ keys. Contains keys k.0) (sym among) ((own k.0).1 k.1.1) in
          held.1 (k.0, (one, k.1.0)),
    )
