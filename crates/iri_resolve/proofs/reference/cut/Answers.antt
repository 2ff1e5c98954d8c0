use Rattle.std.proofs.Common.{refl}
use Rattle.std.specs.Prelude.{◌==◌}
use Rattle.iri_resolve.proofs.CutLemmas.{list_any-none}
use Rattle.iri_resolve.proofs.reference.cut.Goals as goal

pub returns-in-None-clause-after : goal.returns-in-None-clause-after
returns-in-None-clause-after c =
    rw (list_any-none (λ b. b == c.args.mark) c.args.text.now
    (c.in-None.ensures.byte c.requires (λ w o f. f))) refl
