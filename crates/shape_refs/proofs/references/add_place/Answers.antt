use Rattle.std.specs.Prelude.{◌++◌, Some, None}
use Rattle.std.proofs.Common.{sym, ap, ◌∙◌, append-nil}
use Rattle.shape_refs.specs.inner.Places.{if_any}
use Rattle.shape_refs.proofs.PlaceLemmas.{told_place}
use Rattle.shape_refs.proofs.references.add_place.Goals as goal

pub returns-in_ok-push : goal.returns-in_ok-push
returns-in_ok-push c =
    let decls = c.args.declared.now.decls.now in
    let place = c.in-Some.place in
    c.in_ok-push.ensures.items
    ∙ ap (λ o. c.args.row.now.items ++ if_any o)
    (sym (told_place decls c.args.node c.place.result (Some place) c.place.ensures.place c.in-Some.is))

pub returns-in_default : goal.returns-in_default
returns-in_default c =
    let decls = c.args.declared.now.decls.now in
    sym (append-nil c.args.row.now.items)
    ∙ ap (λ o. c.args.row.now.items ++ if_any o)
    (sym (told_place decls c.args.node c.place.result None c.place.ensures.place c.in_default.is))
