use Rattle.std.specs.Prelude.{[], ◌∷◌, ◌++◌, map, take}
use Rattle.std.proofs.Common.{sym, ap, ◌∙◌, subst}
use Rattle.std.proofs.lemmas.List.{map_more}
use Rattle.shape_decl.specs.Declarations.{told_decl}
use Rattle.shape_refs.specs.inner.Near.{AreNear}
use Rattle.shape_refs.proofs.NearLemmas.{AreNear-more}
use Rattle.shape_refs.proofs.siblings.gather_near.Goals as goal

pub loop-parent-preserved : goal.loop-parent-preserved
loop-parent-preserved c =
    let terms = c.args.declared.now.pool.now.terms in
    let decls = c.args.declared.now.decls.now in
    let ds = map told_decl decls in
    let i = c.loop-parent.parent-index in
    let parent = c.parent-item.result in
    let new = c.add_near.new.rows.items in
    let added =
    rw (c.values_of.ensures, c.deref.ensures.value, c.in_ok-near.ensures) at c.in_ok-add_near.ensures in
    subst (λ ps. AreNear terms ds ps new)
    (ap (λ d. map told_decl (take i decls) ++ told_decl d ∷ []) c.parent-item.is
    ∙ sym (map_more told_decl decls i parent c.loop-parent-test.true))
    (AreNear-more terms ds (map told_decl (take i decls)) (told_decl parent) c.loop-parent.rows.items new
    c.loop-parent.invariant added)
