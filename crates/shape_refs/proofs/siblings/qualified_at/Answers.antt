use Rattle.std.specs.Prelude.{flat_map, get_or, map, Some, None}
use Rattle.std.proofs.Common.{sym, ap, ◌∙◌, append-nil}
use Rattle.shx_term.specs.declared.vocabulary.TheConstants.{SH_QUALIFIED_VALUE_SHAPE}
use Rattle.shape_decl.specs.Declarations.{Declaration, told_decl, values_under}
use Rattle.shape_refs.proofs.PlaceLemmas.{none_declared, one_declared, told_at, told_distinct, told_place}
use Rattle.shape_refs.proofs.siblings.qualified_at.Goals as goal

pub returns-in-Some : goal.returns-in-Some
returns-in-Some c =
    let decls = c.args.declared.now.decls.now in
    let node = c.args.node in
    let at = c.in-Some.at in
    let d = told_decl (get_or decls at c.index-declared-at.result) in
    let values = λ (d : Declaration). values_under d SH_QUALIFIED_VALUE_SHAPE in
    let place = told_place decls node c.place.result (Some at) c.place.ensures.place c.in-Some.is in
    let distinct = told_distinct decls c.args.declared.now.distinct in
    let one = one_declared (map told_decl decls) distinct node at place
    d (told_at decls at c.index-declared-at.result c.in-Some.ensures.within) in
    c.values_of.ensures ∙ sym (append-nil (values d)) ∙ ap (flat_map values) (sym one)

pub returns-in-None : goal.returns-in-None
returns-in-None c =
    let decls = c.args.declared.now.decls.now in
    let node = c.args.node in
    let values = λ (d : Declaration). values_under d SH_QUALIFIED_VALUE_SHAPE in
    let place = told_place decls node c.place.result None c.place.ensures.place c.in-None.is in
    ap (flat_map values)
    (sym (none_declared (map told_decl decls) (told_distinct decls c.args.declared.now.distinct) node place))
