use Rattle.std.proofs.Common.{refl, rules, tests}
use Rattle.std.proofs.lemmas.Iterator.Consumers.{nth_from_yields_List}
use Rattle.std.proofs.lemmas.Iterator.Splits.{YieldsList-from_slice_split}
use Rattle.shacl_drill.specs.Summary.{is_between}
use Rattle.shacl_drill.proofs.TallyLemmas.{part_found}
use Rattle.shacl_drill.proofs.tally.part.Goals as goal

pub returns : goal.returns
returns c =
    let found = nth_from_yields_List c.nth.result c.nth.new.self c.args.index c.nth.ensures.ran
    (YieldsList-from_slice_split _ is_between c.args.line.now c.split.ensures.rest c.split.ensures.done
    c.split.ensures.closure (λ x r q k. search (rules, tests))) in
    part_found c.nth.result _ c.unwrap_or.result _ c.unwrap_or.ensures refl found
