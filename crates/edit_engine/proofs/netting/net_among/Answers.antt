use Rattle.std.proofs.Common.{◌++◌, true, false, ap, sym, append-nil, ◌∙◌}
use Rattle.edit_engine.specs.Edits.{inserted_by, removed_by}
use Rattle.edit_engine.specs.inner.Turned.{places_in}
use Rattle.edit_engine.proofs.NettingLemmas.{told_all, told_left, told_more}
use Rattle.edit_engine.proofs.netting.net_among.Goals as goal
use Rattle.edit_engine.proofs.netting.net_among.Goals.{then-is_noted+in_ok-add_stated, else-is_noted}

pub loop-at-init : goal.loop-at-init
loop-at-init c = record {
  added = ap (λ xs. xs ++ told_left inserted_by (places_in c.args.turned.now) c.args.edits.now 0)
      c.new-added.ensures.items;
  removed = ap (λ xs. xs ++ told_left removed_by (places_in c.args.turned.now) c.args.edits.now 0)
      c.new-removed.ensures.items;
}

pub loop-at-preserved : goal.loop-at-preserved
loop-at-preserved c =
    elim c.if-is_noted.branch [
      | then-is_noted+in_ok-add_stated w ↦ record {
        added = told_more inserted_by (places_in c.args.turned.now) c.args.edits.now c.loop-at.at
            c.index-edits-at.result c.loop-at.added.items c.if-is_noted.added.items true c.loop-at-test.true
            c.index-edits-at.is w.if-is_noted.ensures
            ((λ i. (w.added-is i).items) ∙ w.in_ok-add_stated.ensures.added)
            ∙ c.loop-at.invariant.added;
        removed = told_more removed_by (places_in c.args.turned.now) c.args.edits.now c.loop-at.at
            c.index-edits-at.result c.loop-at.removed.items c.if-is_noted.removed.items true
            c.loop-at-test.true c.index-edits-at.is w.if-is_noted.ensures
            ((λ i. (w.removed-is i).items) ∙ w.in_ok-add_stated.ensures.removed)
            ∙ c.loop-at.invariant.removed;
      }
      | else-is_noted w ↦ record {
        added = told_more inserted_by (places_in c.args.turned.now) c.args.edits.now c.loop-at.at
            c.index-edits-at.result c.loop-at.added.items c.if-is_noted.added.items false c.loop-at-test.true
            c.index-edits-at.is w.if-is_noted.ensures
            ((λ i. (w.added-is i).items) ∙ sym (append-nil c.loop-at.added.items))
            ∙ c.loop-at.invariant.added;
        removed = told_more removed_by (places_in c.args.turned.now) c.args.edits.now c.loop-at.at
            c.index-edits-at.result c.loop-at.removed.items c.if-is_noted.removed.items false
            c.loop-at-test.true c.index-edits-at.is w.if-is_noted.ensures
            ((λ i. (w.removed-is i).items) ∙ sym (append-nil c.loop-at.removed.items))
            ∙ c.loop-at.invariant.removed;
      }
    ]

pub returns : goal.returns
returns c =
    let added =
    told_all inserted_by (places_in c.args.turned.now) c.args.edits.now c.loop-at.at c.loop-at.added.items _
    c.loop-at-test.false c.loop-at.invariant.added in
    let removed =
    told_all removed_by (places_in c.args.turned.now) c.args.edits.now c.loop-at.at c.loop-at.removed.items _
    c.loop-at-test.false c.loop-at.invariant.removed in
    λ i. record { added = (c.new.ensures ∙ added) i; removed = (c.new-2.ensures ∙ removed) i }
