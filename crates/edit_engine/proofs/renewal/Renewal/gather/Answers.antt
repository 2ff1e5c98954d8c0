use Rattle.std.proofs.Common.{ap, ◌∙◌, ◌++◌, map}
use Rattle.edit_engine.specs.inner.Put.{pair_entry, target_entry}
use Rattle.edit_engine.proofs.renewal.Renewal.gather.Goals as goal

pub returns-clause-gathered : goal.returns-clause-gathered
returns-clause-gathered c =
    let targets = map target_entry c.args.self.targets.items in
    let pairs = map pair_entry c.args.self.evaluated.items in
    c.in_ok-gather_pairs.ensures.gathered
    ∙ ap (λ es. es ++ pairs)
    (c.in_ok-gather_targets.ensures ∙ ap (λ es. es ++ targets) c.in_ok-all.ensures.items)
