use Rattle.std.specs.Prelude.{◌∷◌}
use Rattle.value_space.specs.Counts.{is_more}
use Rattle.comp_core.specs.declared.kinds.TheConstants.{QUALIFIED_MAX_COUNT}
use Rattle.comp_core.proofs.AskLemmas.{asks_value_nodes}
use Rattle.qualified_shapes.specs.declared.qualified_max_count.QualifiedMaxCount.{QualifiedMaxCount}
use Rattle.qualified_shapes.proofs.QualifiedLemmas.{qualified_counts_agree}
use Rattle.qualified_shapes.proofs.qualified_max_count.QualifiedMaxCountComponent.laws.Goals as goal

pub returns-clause-agreement : goal.returns-clause-agreement
returns-clause-agreement c =
    qualified_counts_agree (λ (own : QualifiedMaxCount). own.value) (λ own. own.shape)
    (λ own. own.siblings.items) is_more QUALIFIED_MAX_COUNT

pub returns-clause-asks_values : goal.returns-clause-asks_values
returns-clause-asks_values c =
    asks_value_nodes (λ (own : QualifiedMaxCount). own.shape ∷ own.siblings.items)
