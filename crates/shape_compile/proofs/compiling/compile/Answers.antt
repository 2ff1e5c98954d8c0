use Rattle.std.specs.Prelude.{◌≡◌, ◌<◌, ◌≤◌, ◌^◌, nat_eq, List, [], map, Contains}
use Rattle.std.specs.List.{IsDistinct}
use Rattle.std.proofs.Common.{sym, subst}
use Rattle.std.proofs.lemmas.List.{length-map}
use Rattle.std.proofs.lemmas.Result.{err_from_is_err_and}
use Rattle.std.proofs.lemmas.Simd.{map-map}
use Rattle.shx_term.specs.Pool.{Pooled}
use Rattle.shx_term.specs.declared.limits.Limits.{Limits}
use Rattle.shx_term.specs.declared.term.Term.{Term}
use Rattle.shape_decl.specs.Declarations.{Declaration, told_decl}
use Rattle.shape_decl.specs.declared.declaration.ShapeDecl.{ShapeDecl}
use Rattle.shape_eval.specs.Plan.{IsPlan, Planned, nodes_of}
use Rattle.shape_eval.specs.Planned.{plan_of}
use Rattle.shape_eval.specs.declared.shape.PlanShape.{PlanShape}
use Rattle.shape_refs.specs.Order.{IsShapeOrder, NameDeclared}
use Rattle.shape_refs.specs.Outcome.{AreInReach}
use Rattle.shape_refs.specs.declared.declared.Declared.{Declared}
use Rattle.shape_refs.specs.declared.numbered.ShapeOrder.{ShapeOrder}
use Rattle.shape_compile.specs.Answers.{LastRefused}
use Rattle.shape_compile.specs.Meaning.{ShapeMeans}
use Rattle.shape_compile.specs.inner.Built.{AreBuilt, StopsAtPattern}
use Rattle.shape_compile.specs.inner.Ready.{AreReady}
use Rattle.shape_compile.proofs.PatternLemmas.{AreRead-built, Tells-stopped}
use Rattle.shape_compile.proofs.PlanLemmas.{IsMade, IsMade-planned, IsPlanOf-made}
use Rattle.shape_compile.proofs.compiling.compile.Goals as goal

-- what was made by an order of declarations that were held for these
module _ (limits : Limits) (pool : Pooled) (decls : List ShapeDecl) (declared : Declared) (order : ShapeOrder)
    (shapes : List PlanShape) where
  abbrev OfHeld : (List Term → List Declaration → Type 0) → Type 0
  OfHeld P = P declared.pool.now.terms (map told_decl declared.decls.now)

  abbrev OfThese : (List Term → List Declaration → Type 0) → Type 0
  OfThese P = P pool.terms (map told_decl decls)

  module _ (same_pool : declared.pool.now ≡ pool) (same : declared.decls.now ≡ decls) where
    on_these : (P : List Term → List Declaration → Type 0) → OfHeld P → OfThese P
    on_these P held =
        subst (λ p. P p.terms (map told_decl decls)) same_pool
        (subst (λ held. P declared.pool.now.terms (map told_decl held)) same held)

    made : OfThese (AreReady limits) → limits.path_depth ≤ 64 → limits.reference_depth ≤ 64
        → nodes_of shapes ≡ order.nodes.keys
        → OfHeld (λ terms ds. IsShapeOrder terms ds order.nodes.keys)
        → OfHeld (AreInReach limits.reference_depth)
        → OfHeld (λ terms ds. (d : Declaration) (sh : PlanShape) → Contains ds d → Contains shapes sh
        → sh.node ≡ d.node → ShapeMeans terms ds order.nodes.keys d sh)
        → OfThese (λ terms ds. IsMade limits terms ds shapes)
    made ready path_depth reference_depth nodes ordered reach means =
        IsMade-planned limits pool.terms (map told_decl decls) shapes order.nodes.keys ready path_depth
        reference_depth nodes order.few
        (on_these (λ terms ds. IsShapeOrder terms ds order.nodes.keys) ordered)
        (on_these (AreInReach limits.reference_depth) reach)
        (on_these (λ terms ds. (d : Declaration) (sh : PlanShape) → Contains ds d → Contains shapes sh
        → sh.node ≡ d.node → ShapeMeans terms ds order.nodes.keys d sh) means)

pub of-requires-clause-distinct : goal.of-requires-clause-distinct
of-requires-clause-distinct g c =
    subst (IsDistinct nat_eq) (map-map (λ (d : Declaration). d.node) told_decl c.args.decls.now)
    c.stand_ready.ensures.distinct

pub of-requires-clause-few : goal.of-requires-clause-few
of-requires-clause-few g c =
    subst (λ n. n < 2 ^ 32) (length-map c.args.decls.now told_decl) c.stand_ready.ensures.few

pub order_shapes-requires-clause-named : goal.order_shapes-requires-clause-named
order_shapes-requires-clause-named g c =
    subst (λ decls. NameDeclared (map told_decl decls)) (sym c.in_ok-declared.ensures.decls)
    c.stand_ready.ensures.named

pub returns-in_err-built-clause-fault : goal.returns-in_err-built-clause-fault
returns-in_err-built-clause-fault g c =
    let limits = c.args.limits.now in
    let pool = c.args.pool.now in
    let decls = c.args.decls.now in
    let declared = c.in_ok-declared.declared in
    let held = c.in_ok-declared.ensures in
    let why = c.in_err-built.field-0.0 in
    let here = on_these limits pool decls declared c.in_ok-order.order [] held.pool held.decls in
    let exit = err_from_is_err_and c.from_residual-in_err-built.result
    c.from_residual-in_err-built.ensures.1 in
    rw (exit.1, exit.2)
    (Tells-stopped limits pool.terms (map told_decl decls)
    (here (AreInReach limits.reference_depth) c.in_ok-order.ensures.reach) why
    (here (λ terms ds. StopsAtPattern terms ds why) c.in_err-built.ensures.stops))

pub returns-in_err-built-clause-refused : goal.returns-in_err-built-clause-refused
returns-in_err-built-clause-refused g c =
    let limits = c.args.limits.now in
    let pool = c.args.pool.now in
    let declared = c.in_ok-declared.declared in
    let held = c.in_ok-declared.ensures in
    let before = (g.P.PatternHost.state c.args.patterns.now).refused in
    let now = (g.P.PatternHost.state c.build_patterns.new.host).refused in
    let why = c.in_err-built.field-0.0 in
    let here = on_these limits pool c.args.decls.now declared c.in_ok-order.order [] held.pool held.decls in
    let exit = err_from_is_err_and c.from_residual-in_err-built.result
    c.from_residual-in_err-built.ensures.1 in
    rw (exit.1, exit.2)
    (here (λ terms ds. LastRefused terms ds before now why) c.in_err-built.ensures.refused)

pub from_shapes-requires : goal.from_shapes-requires
from_shapes-requires g c =
    (made c.args.limits.now c.args.pool.now c.args.decls.now c.in_ok-declared.declared c.in_ok-order.order
    c.in_ok-shapes.shapes.items c.in_ok-declared.ensures.pool c.in_ok-declared.ensures.decls
    c.stand_ready.ensures c.requires.path_depth c.requires.reference_depth c.in_ok-shapes.ensures.nodes
    c.in_ok-order.ensures.order c.in_ok-order.ensures.reach c.in_ok-shapes.ensures.means).fits

pub returns-clause-plan : goal.returns-clause-plan
returns-clause-plan g c =
    let limits = c.args.limits.now in
    let pool = c.args.pool.now in
    let decls = c.args.decls.now in
    let declared = c.in_ok-declared.declared in
    let order = c.in_ok-order.order in
    let shapes = c.in_ok-shapes.shapes.items in
    let built = c.in_ok-built.built.items in
    let held = c.in_ok-declared.ensures in
    let ds = map told_decl decls in
    IsPlanOf-made limits pool.terms ds shapes (plan_of c.in_ok-from_shapes.field-0)
    (made limits pool decls declared order shapes held.pool held.decls c.stand_ready.ensures
    c.requires.path_depth c.requires.reference_depth c.in_ok-shapes.ensures.nodes c.in_ok-order.ensures.order
    c.in_ok-order.ensures.reach c.in_ok-shapes.ensures.means)
    (AreRead-built pool.terms ds built
    (on_these limits pool decls declared order shapes held.pool held.decls
    (λ terms ds. AreBuilt terms ds built) c.in_ok-built.ensures.built))
    c.in_ok-from_shapes.ensures

pub returns-clause-fits : goal.returns-clause-fits
returns-clause-fits g c =
    let made_here = made c.args.limits.now c.args.pool.now c.args.decls.now c.in_ok-declared.declared
    c.in_ok-order.order c.in_ok-shapes.shapes.items c.in_ok-declared.ensures.pool
    c.in_ok-declared.ensures.decls c.stand_ready.ensures c.requires.path_depth c.requires.reference_depth
    c.in_ok-shapes.ensures.nodes c.in_ok-order.ensures.order c.in_ok-order.ensures.reach
    c.in_ok-shapes.ensures.means in
    subst (λ (p : Planned). IsPlan c.args.pool.now.terms p.shapes) (sym c.in_ok-from_shapes.ensures)
    made_here.fits
