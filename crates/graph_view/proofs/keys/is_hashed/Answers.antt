use Rattle.std.proofs.Common.{sym, ◌∙◌}
use Rattle.shx_term.proofs.MemberLemmas.{Contains-test}
use Rattle.graph_view.specs.Key.{same_key}
use Rattle.graph_view.specs.inner.KeyLaws.{same_key_equiv, same_key_exact}
use Rattle.graph_view.proofs.keys.is_hashed.Goals as goal

pub returns : goal.returns
returns c =
    let keys = c.args.keys.now.keys in
    let decided = Contains-test same_key same_key_equiv same_key_exact keys c.args.key.now in
    (λ h. decided.0 (sym c.contains.ensures ∙ h), λ k. c.contains.ensures ∙ decided.1 k)
