use Rattle.std.specs.Prelude.{◌≡◌, ℕ, List, ◌++◌, map, take}
use Rattle.comp_core.specs.declared.kinds.TheConstants.{UNIQUE_LANG}
use Rattle.shape_eval.specs.Content.{Nothing}
use Rattle.shape_compile.specs.Constraints.{each_true, said_by}
use Rattle.shape_compile.proofs.pattern.add_unique_lang.Given as goal

abbrev pub invariant-loop-value : goal.invariant-loop-value
invariant-loop-value l = (nodes : List ℕ) → map (said_by nodes) l.out.items
    ≡ map (said_by nodes) l.fn.out.items
    ++ each_true l.pool.terms UNIQUE_LANG Nothing (take l.value-index l.value-items)
