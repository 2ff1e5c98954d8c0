use Rattle.std.specs.Prelude.{◌≡◌, ◌<◌, List, ◌++◌, All, length, take}
use Rattle.std.proofs.Common.{arith, ap, drop, subst, sym, ◌∙◌}
use Rattle.std.proofs.lemmas.Grind.{common_steps}
use Rattle.std.proofs.lemmas.List.{length-set}
use Rattle.shape_eval.specs.Constraint.{IsReadOf}
use Rattle.shape_eval.specs.declared.constraint.Constraint.{Constraint}
use Rattle.shape_compile.specs.Constraints.{said_by}
use Rattle.shape_compile.proofs.ReadingLemmas.{all_more, map_same}
use Rattle.shape_compile.proofs.reading.read_terms.Goals as goal

pub loop-constraint-preserved : goal.loop-constraint-preserved
loop-constraint-preserved c =
    let items = c.loop-constraint.constraint-items in
    let i = c.loop-constraint.constraint-index in
    let item = c.constraint-item.result in
    let read = c.read_term.new.constraint in
    let all = ap (λ (cs : List Constraint). length cs) c.deref_mut-constraint-items.ensures.value in
    let inside : i < length items =
    omega (arith, c.loop-constraint-test.true, c.loop-constraint.invariant.long, all) in
    record {
      long = length-set items i read ∙ c.loop-constraint.invariant.long;
      said = λ nodes.
          map_same (said_by nodes) items i item read inside (c.read_term.ensures.said nodes)
          ∙ c.loop-constraint.invariant.said nodes;
      read = all_more (λ k. IsReadOf k c.args.pool.now.terms) items i read inside
          c.loop-constraint.invariant.read c.read_term.ensures.read;
    }

pub returns-clause-read : goal.returns-clause-read
returns-clause-read c =
    let items = c.loop-constraint.constraint-items in
    let i = c.loop-constraint.constraint-index in
    let items_now = c.args.constraints.now.items in
    let long : length items ≡ length items_now = c.loop-constraint.invariant.long in
    let past = c.loop-constraint-test.false in
    let value = ap (λ (cs : List Constraint). length cs) c.deref_mut-constraint-items.ensures.value in
    let h = c.deref_mut-constraint-items.ensures.len in
    let same : take c.args.constraints.now.len (items ++ drop (length items) items_now) ≡ take i items =
    grind (arith, common_steps) in
    subst (All (λ k. IsReadOf k c.args.pool.now.terms)) (sym same) c.loop-constraint.invariant.read
