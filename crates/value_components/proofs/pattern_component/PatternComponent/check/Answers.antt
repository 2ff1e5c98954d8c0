use Rattle.std.proofs.Common.{sym, ◌∙◌}
use Rattle.std.proofs.lemmas.Option.{same_Some}
use Rattle.value_components.proofs.pattern_component.PatternComponent.check.Goals as goal

pub returns-clause-rows : goal.returns-clause-rows
returns-clause-rows g c =
    let of_pattern =
    same_Some c.in-Some.matcher c.args.self.now.built (sym c.in-Some.is ∙ c.in_ok-look_for.ensures) in
    rw of_pattern at c.in_ok-check_texts.ensures

pub returns-clause-reads : goal.returns-clause-reads
returns-clause-reads g c = g.met.C.Noted.Notes.laws.none c.args.reads.now
