use Rattle.std.specs.Prelude.{◌<◌, List, length, map}
use Rattle.std.proofs.Common.{sym, subst, arith}
use Rattle.shape_decl.specs.Declarations.{told_decl}
use Rattle.shape_eval.specs.declared.shape.PlanShape.{PlanShape}
use Rattle.shape_refs.proofs.PlaceLemmas.{told_distinct}
use Rattle.shape_compile.proofs.PlaceLemmas.{Contains-place}
use Rattle.shape_compile.proofs.PlannedLemmas.{AreLeft-more, AreMeant, AreMeant-push, next_built}
use Rattle.shape_compile.proofs.PlannedLemmas.{next_declared, next_made, next_named}
use Rattle.shape_compile.proofs.plan_shapes.plan_shapes.Goals as goal

pub plan_shape-requires-clause-named : goal.plan_shape-requires-clause-named
plan_shape-requires-clause-named c =
    let declared = c.args.declared.now in
    next_named declared.pool.now.terms (map told_decl declared.decls.now) c.args.order.now.nodes.keys
    c.requires.order c.loop-number.number c.place_of-at.result (omega arith) c.place_of-at.ensures

pub plan_shape-requires-clause-path : goal.plan_shape-requires-clause-path
plan_shape-requires-clause-path c = λ d reading is path.
    let ds = map told_decl c.args.declared.now.decls.now in
    c.requires.paths.each d reading (Contains-place ds c.place_of-at.result d is) path

pub plan_shape-requires-clause-built : goal.plan_shape-requires-clause-built
plan_shape-requires-clause-built c = λ d is.
    let declared = c.args.declared.now in
    let built = c.loop-number.built.items in
    let at = c.place_of-at.result in
    next_built declared.pool.now.terms (map told_decl declared.decls.now) c.args.order.now.nodes.keys
    c.requires.order c.loop-number.number at (omega arith) c.place_of-at.ensures d is built
    c.loop-number.invariant.left c.take-pattern.result c.index_mut.result.now c.take-pattern.ensures.value
    c.index_mut.ensures.value

pub loop-number-preserved : goal.loop-number-preserved
loop-number-preserved c =
    let declared = c.args.declared.now in
    let terms = declared.pool.now.terms in
    let ds = map told_decl declared.decls.now in
    let nodes = c.args.order.now.nodes.keys in
    let number = c.loop-number.number in
    let at = c.place_of-at.result in
    let built = c.loop-number.built.items in
    let shapes = c.loop-number.shapes.items in
    let sh = c.in_ok-plan_shape.field-0 in
    let held = c.loop-number.invariant in
    let inside : number < length nodes = omega arith in
    let found = next_declared terms ds nodes c.requires.order number at inside c.place_of-at.ensures in
    let d = found.0 in
    let is = found.1 in
    record {
      made = next_made terms ds nodes c.requires.order number at inside c.place_of-at.ensures d is shapes
          c.push.new.self.items sh held.made c.in_ok-push.ensures.items (c.in_ok-plan_shape.ensures d is).0;
      meant = subst (AreMeant terms ds nodes) (sym {A = List PlanShape} c.in_ok-push.ensures.items)
          (AreMeant-push terms ds nodes (told_distinct declared.decls.now declared.distinct) shapes sh at
          held.meant c.in_ok-plan_shape.ensures d is);
      left = rw c.take-pattern.ensures.after
          (AreLeft-more terms ds nodes c.requires.order number at inside c.place_of-at.ensures d is built
          held.left);
    }
