use Rattle.std.proofs.Common.{refl}
use Rattle.edit_engine.proofs.RememberedLemmas.{remembers_told}
use Rattle.edit_engine.proofs.engine.Engine.recall.Goals as goal

pub returns-clause-right : goal.returns-clause-right
returns-clause-right g c =
    (remembers_told _ c.args.self.now c.self.view_is c.self.inside.kept.recall refl
    c.self.invariant.1.recall).recall

pub returns-clause-nested : goal.returns-clause-nested
returns-clause-nested g c =
    (remembers_told _ c.args.self.now c.self.view_is c.self.inside.kept.recall refl
    c.self.invariant.1.recall).nested
