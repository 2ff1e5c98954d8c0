use Rattle.std.specs.Prelude.{not}
use Rattle.comp_core.specs.declared.kinds.TheConstants.{DISJOINT}
use Rattle.comp_core.specs.Results.{each_unless}
use Rattle.comp_core.specs.TermTests.{is_among}
use Rattle.comp_core.proofs.LawLemmas.{asks_none}
use Rattle.pair_components.specs.declared.disjoint.Disjoint.{Disjoint}
use Rattle.pair_components.proofs.PairLemmas.{members_agree}
use Rattle.pair_components.proofs.disjoint.DisjointComponent.laws.Goals as goal

pub returns-clause-agreement : goal.returns-clause-agreement
returns-clause-agreement c =
    members_agree c.look_ups_agree.ensures.objects (λ (own : Disjoint). own.value)
    (λ at objects vs. each_unless (λ v. not (is_among v objects)) DISJOINT at vs)

pub returns-clause-asks_values : goal.returns-clause-asks_values
returns-clause-asks_values c = asks_none
