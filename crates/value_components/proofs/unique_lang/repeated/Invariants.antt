use Rattle.std.proofs.Common.{◌≡◌}
use Rattle.std.specs.Prelude.{map, take}
use Rattle.value_components.specs.Tags.{tag_at}
use Rattle.value_components.specs.inner.Noted.{tags_noted}
use Rattle.value_components.specs.inner.Told.{kept}
use Rattle.value_components.proofs.unique_lang.repeated.Given as goal

abbrev pub invariant-loop-v : goal.invariant-loop-v
invariant-loop-v g l =
    kept l.seen.keys l.again.keys
    ≡ tags_noted (map (tag_at (g.V.GraphView.graph l.view)) (take l.v-index l.values))
