use Rattle.shape_text.proofs.OpenedLemmas.{OpensOnce-bounded, OpensOnce-rose}
use Rattle.shape_text.proofs.within.read_within.Goals as goal

pub returns-in-Ok-clause-once : goal.returns-in-Ok-clause-once
returns-in-Ok-clause-once g c = OpensOnce-bounded _ _ c.read_text.result c.read_text.ensures.opens

pub returns-in-Err-TooLong-clause-once : goal.returns-in-Err-TooLong-clause-once
returns-in-Err-TooLong-clause-once g c = OpensOnce-bounded _ _ c.read_text.result c.read_text.ensures.opens

pub returns-in-Err-Input-clause-once : goal.returns-in-Err-Input-clause-once
returns-in-Err-Input-clause-once g c = OpensOnce-bounded _ _ c.read_text.result c.read_text.ensures.opens

pub returns-in-Err-Memory-clause-once : goal.returns-in-Err-Memory-clause-once
returns-in-Err-Memory-clause-once g c = OpensOnce-bounded _ _ c.read_text.result c.read_text.ensures.opens

pub returns-in-Ok-clause-opened : goal.returns-in-Ok-clause-opened
returns-in-Ok-clause-opened g c =
    OpensOnce-rose _ _ c.read_text.result c.read_text.ensures.opens (λ is. cc)
