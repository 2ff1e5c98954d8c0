use Rattle.std.proofs.Common.{sym, ◌∙◌, inl, inr, true≢false}
use Rattle.std.proofs.lemmas.Bool.{not-true}
use Rattle.shx_term.specs.Triple.{same_triple}
use Rattle.shx_term.specs.inner.TripleLaws.{same_triple_equiv, same_triple_exact}
use Rattle.graph_view.proofs.PatchedLemmas.{Contains-patched, gone_test, is_not}
use Rattle.triple_store.proofs.overlay.OverlayGraphView.contains.Goals as goal

pub returns-then-has : goal.returns-then-has
returns-then-has g c =
    let view = c.args.self.now in
    let held = Contains-patched (g.V.GraphView.graph view.base.now) view.added view.removed in
    let added = gone_test same_triple same_triple_equiv same_triple_exact view.added c.args.t.now in
    let here = added.0 (sym c.has.ensures ∙ c.if-has.true) in
    (λ h. (held c.args.t.now).1 (inr here), λ k. c.if-has.true)

pub returns-then-contains : goal.returns-then-contains
returns-then-contains g c =
    let view = c.args.self.now in
    let t = c.args.t.now in
    let held = Contains-patched (g.V.GraphView.graph view.base.now) view.added view.removed t in
    let added = gone_test same_triple same_triple_equiv same_triple_exact view.added t in
    let removed = gone_test same_triple same_triple_equiv same_triple_exact view.removed t in
    let gone = c.has-then-contains.ensures in
    let here = c.contains.ensures.0 c.if-contains.true in (
      λ h. held.1 (inl (here, λ r. true≢false (sym (gone ∙ removed.1 r) ∙ not-true _ h))),
      λ k. elim (held.0 k) [
        | inl left ↦ is_not _ (λ h. left.1 (removed.0 (sym gone ∙ h)))
        | inr d ↦ absurd (true≢false (sym (c.has.ensures ∙ added.1 d) ∙ c.if-has.false))
      ],
    )

pub returns-else-contains : goal.returns-else-contains
returns-else-contains g c =
    let view = c.args.self.now in
    let t = c.args.t.now in
    let held = Contains-patched (g.V.GraphView.graph view.base.now) view.added view.removed t in
    let added = gone_test same_triple same_triple_equiv same_triple_exact view.added t in (
      λ h. absurd (true≢false (sym h ∙ c.if-contains.false)),
      λ k. elim (held.0 k) [
        | inl left ↦ c.contains.ensures.1 left.0
        | inr d ↦ absurd (true≢false (sym (c.has.ensures ∙ added.1 d) ∙ c.if-has.false))
      ],
    )
