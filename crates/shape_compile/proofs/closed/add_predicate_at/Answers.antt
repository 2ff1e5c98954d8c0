use Rattle.std.specs.Prelude.{get_or, map, Some, None}
use Rattle.std.proofs.Common.{append-nil, refl}
use Rattle.shape_decl.specs.Declarations.{told_decl}
use Rattle.shape_refs.proofs.PlaceLemmas.{none_declared, one_declared, told_at, told_distinct, told_place}
use Rattle.shape_compile.proofs.closed.add_predicate_at.Goals as goal

pub returns-in-Some : goal.returns-in-Some
returns-in-Some c =
    let decls = c.args.declared.now.decls.now in
    let node = c.args.node in
    let at = c.in-Some.at in
    let distinct = told_distinct decls c.args.declared.now.distinct in
    let place = told_place decls node c.place.result (Some at) c.place.ensures.place c.in-Some.is in
    let one = one_declared (map told_decl decls) distinct node at place
    (told_decl (get_or decls at c.index-declared-at.result))
    (told_at decls at c.index-declared-at.result c.in-Some.ensures.within) in
    rw (one, append-nil) c.add_predicate.ensures

pub returns-in-None : goal.returns-in-None
returns-in-None c =
    let decls = c.args.declared.now.decls.now in
    let node = c.args.node in
    let distinct = told_distinct decls c.args.declared.now.distinct in
    let place = told_place decls node c.place.result None c.place.ensures.place c.in-None.is in
    let none = none_declared (map told_decl decls) distinct node place in
    rw (none, append-nil) refl
