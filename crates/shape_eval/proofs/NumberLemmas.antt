-- The numbers whose terms matter to constraints are among those that they state.
use Rattle.std.specs.Prelude.{ℕ, List, All, Contains, flat_map}
use Rattle.shx_term.proofs.MemberLemmas.{All_of_each, Contains-tail, each_of_All, none_in_empty}
use Rattle.shape_eval.specs.declared.constraint.Constraint.{Constraint}
use Rattle.shape_eval.specs.declared.constraint.Constraint.TheVariants as any
use Rattle.shape_eval.specs.Constraint.{constraint_numbers, numbers_stated}
use Rattle.shape_eval.proofs.PartLemmas.{All_in_part, All_of_parts}

pub number_stated : (c : Constraint) (n : ℕ) → Contains (constraint_numbers c) n
    → Contains (numbers_stated c) n
number_stated (any.Datatype c) n i = i
number_stated (any.MinCount c) n i = i
number_stated (any.MaxCount c) n i = i
number_stated (any.MinExclusive c) n i = i
number_stated (any.MinInclusive c) n i = i
number_stated (any.MaxExclusive c) n i = i
number_stated (any.MaxInclusive c) n i = i
number_stated (any.MinLength c) n i = i
number_stated (any.MaxLength c) n i = i
number_stated (any.LanguageIn c) n i = Contains-tail c.value n c.members i
number_stated (any.QualifiedMinCount c) n i = i
number_stated (any.QualifiedMaxCount c) n i = i
number_stated c n i = absurd (none_in_empty n i)

-- what is so of all that constraints state is so of what matters to them
pub all_that_matter : (P : ℕ → Type 0) (cs : List Constraint) → All P (flat_map numbers_stated cs)
    → All P (flat_map constraint_numbers cs)
all_that_matter P cs all =
    All_of_parts P constraint_numbers cs (λ c i.
    All_of_each P (constraint_numbers c) (λ n j.
    each_of_All P (numbers_stated c) (All_in_part P numbers_stated cs all c i) n (number_stated c n j)))
