use Rattle.std.specs.Prelude.{[], ◌∷◌}
use Rattle.std.proofs.Common.{sym, ◌∙◌}
use Rattle.read_records.proofs.MaskLemmas.{AreStaged-held, AreStaged-staged, MasksAmong-itself}
use Rattle.read_records.proofs.MaskLemmas.{MasksAmong-same, MasksAmong-staged}
use Rattle.read_records.proofs.store.Store.mask_one.Goals as goal

pub returns-then-contains_key-clause-only : goal.returns-then-contains_key-clause-only
returns-then-contains_key-clause-only g c = MasksAmong-itself c.args.self.now (c.args.reader ∷ [])

pub returns-then-contains_key-clause-staged : goal.returns-then-contains_key-clause-staged
returns-then-contains_key-clause-staged g c =
    AreStaged-held c.args.self.now c.args.reader
    (rw (← c.self.view_is) (sym c.contains_key.ensures ∙ c.if-contains_key.true))

pub returns-in_err-stage-clause-only : goal.returns-in_err-stage-clause-only
returns-in_err-stage-clause-only g c = MasksAmong-same (c.args.reader ∷ []) c.in_err-stage.ensures.refused

pub returns-clause-only : goal.returns-clause-only
returns-clause-only g c =
    MasksAmong-staged c.args.self.now c.stage.new.self c.args.reader
    (rw (← c.self.view_is) (sym c.contains_key.ensures ∙ c.if-contains_key.false))
    c.in_ok-stage.ensures.staged

pub returns-clause-staged : goal.returns-clause-staged
returns-clause-staged g c =
    AreStaged-staged c.args.self.now c.stage.new.self c.args.reader c.in_ok-stage.ensures.staged
