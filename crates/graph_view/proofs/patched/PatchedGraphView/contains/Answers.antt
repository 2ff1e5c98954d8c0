use Rattle.std.proofs.Common.{sym, ◌∙◌, inl, inr, true≢false}
use Rattle.std.proofs.lemmas.Bool.{not-true}
use Rattle.shx_term.specs.Triple.{same_triple}
use Rattle.shx_term.specs.inner.TripleLaws.{same_triple_equiv, same_triple_exact}
use Rattle.graph_view.proofs.PatchedLemmas.{Contains-patched, gone_test, is_not}
use Rattle.graph_view.proofs.patched.PatchedGraphView.contains.Goals as goal

pub returns-then-contains : goal.returns-then-contains
returns-then-contains g c =
    let view = c.args.self.now in
    let held = Contains-patched (g.V.GraphView.graph view.base.now) view.added.now view.removed.now in
    let added = gone_test same_triple same_triple_equiv same_triple_exact view.added.now c.args.t.now in
    let here = added.0 (sym c.contains.ensures.value ∙ c.if-contains.true) in
    (λ h. (held c.args.t.now).1 (inr here), λ k. c.if-contains.true)

pub returns-then-contains-2 : goal.returns-then-contains-2
returns-then-contains-2 g c =
    let view = c.args.self.now in
    let t = c.args.t.now in
    let held = Contains-patched (g.V.GraphView.graph view.base.now) view.added.now view.removed.now t in
    let added = gone_test same_triple same_triple_equiv same_triple_exact view.added.now t in
    let removed = gone_test same_triple same_triple_equiv same_triple_exact view.removed.now t in
    let gone = c.contains-then-contains-2.ensures.value in
    let here = c.contains-else-contains.ensures.0 c.if-contains-2.true in (
      λ h. held.1 (inl (here, λ r. true≢false (sym (gone ∙ removed.1 r) ∙ not-true _ h))),
      λ k. elim (held.0 k) [
        | inl left ↦ is_not _ (λ h. left.1 (removed.0 (sym gone ∙ h)))
        | inr d ↦ absurd (true≢false (sym (c.contains.ensures.value ∙ added.1 d) ∙ c.if-contains.false))
      ],
    )

pub returns-else-contains-2 : goal.returns-else-contains-2
returns-else-contains-2 g c =
    let view = c.args.self.now in
    let t = c.args.t.now in
    let held = Contains-patched (g.V.GraphView.graph view.base.now) view.added.now view.removed.now t in
    let added = gone_test same_triple same_triple_equiv same_triple_exact view.added.now t in (
      λ h. absurd (true≢false (sym h ∙ c.if-contains-2.false)),
      λ k. elim (held.0 k) [
        | inl left ↦ c.contains-else-contains.ensures.1 left.0
        | inr d ↦ absurd (true≢false (sym (c.contains.ensures.value ∙ added.1 d) ∙ c.if-contains.false))
      ],
    )
