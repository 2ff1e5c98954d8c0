use Rattle.std.specs.Prelude.{◌∷◌}
use Rattle.value_space.specs.Counts.{is_fewer}
use Rattle.comp_core.specs.declared.kinds.TheConstants.{QUALIFIED_MIN_COUNT}
use Rattle.comp_core.proofs.AskLemmas.{asks_value_nodes}
use Rattle.qualified_shapes.specs.declared.qualified_min_count.QualifiedMinCount.{QualifiedMinCount}
use Rattle.qualified_shapes.proofs.QualifiedLemmas.{qualified_counts_agree}
use Rattle.qualified_shapes.proofs.qualified_min_count.QualifiedMinCountComponent.laws.Goals as goal

pub returns-clause-agreement : goal.returns-clause-agreement
returns-clause-agreement c =
    qualified_counts_agree (λ (own : QualifiedMinCount). own.value) (λ own. own.shape)
    (λ own. own.siblings.items) is_fewer QUALIFIED_MIN_COUNT

pub returns-clause-asks_values : goal.returns-clause-asks_values
returns-clause-asks_values c =
    asks_value_nodes (λ (own : QualifiedMinCount). own.shape ∷ own.siblings.items)
