use Rattle.std.proofs.Common.{refl, arith}
use Rattle.shx_term.specs.Characters.{is_colon}
use Rattle.iri_resolve.proofs.CutLemmas.{list_any-none}
use Rattle.iri_resolve.proofs.reference.cut_scheme.Goals as goal

pub returns-in_default-clause-scheme : goal.returns-in_default-clause-scheme
returns-in_default-clause-scheme c =
    rw (list_any-none is_colon c.args.text.now (c.in_default.ensures.byte (omega arith) (λ w o f. f))) refl

pub returns-in_default-clause-rest : goal.returns-in_default-clause-rest
returns-in_default-clause-rest c =
    rw (list_any-none is_colon c.args.text.now (c.in_default.ensures.byte (omega arith) (λ w o f. f))) refl
