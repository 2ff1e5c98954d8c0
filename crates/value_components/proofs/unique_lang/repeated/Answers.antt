use Rattle.std.proofs.Common.{◌≡◌, ◌∙◌, arith}
use Rattle.std.proofs.lemmas.Grind.{common_steps}
use Rattle.std.specs.Prelude.{length, map}
use Rattle.value_components.specs.Tags.{tag_at}
use Rattle.value_components.specs.inner.Noted.{tags_noted}
use Rattle.value_components.proofs.RepeatedLemmas.{again_count}
use Rattle.value_components.proofs.unique_lang.repeated.Goals as goal

pub returns : goal.returns
returns g c =
    let tags = map (tag_at (g.V.GraphView.graph c.args.view.now)) c.args.values.now in
    let noted : c.len.result ≡ length (tags_noted tags).again = grind (arith, common_steps) in
    noted ∙ again_count tags
