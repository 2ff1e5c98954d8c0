use Rattle.std.proofs.Common.{sym, ap, ◌∙◌}
use Rattle.shx_term.specs.Datatypes.{datatypes, space_among}
use Rattle.value_space.proofs.DatatypeLemmas.{space_among-other, space_among-xsd}
use Rattle.value_space.proofs.datatype.space_of_datatype.Goals as goal

pub returns-in-Some : goal.returns-in-Some
returns-in-Some c =
    let strips = c.in-Some.ensures.cases in
    c.named_space.ensures
    ∙ space_among-xsd datatypes c.as_str.result.now c.in-Some.name.now strips.0 strips.1.1 strips.2
    ∙ ap (space_among datatypes) c.as_str.ensures

pub returns-in-None : goal.returns-in-None
returns-in-None c =
    sym (space_among-other datatypes c.as_str.result.now c.in-None.ensures.cases)
    ∙ ap (space_among datatypes) c.as_str.ensures
