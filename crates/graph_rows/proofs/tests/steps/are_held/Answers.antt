use Rattle.std.specs.Prelude.{◌≡◌, ◌↔◌, Bool, true, false, not, Contains}
use Rattle.std.specs.Bool.{MatchBool, beq}
use Rattle.std.proofs.Common.{refl}
use Rattle.std.proofs.lemmas.Bool.{true≢false, false≢true}
use Rattle.std.proofs.lemmas.List.{get_or_default}
use Rattle.std.proofs.lemmas.List.Elements.{AllWithin-more, at_read}
use Rattle.shx_term.specs.declared.triple.Triple.{Triple}
use Rattle.graph_rows.proofs.tests.steps.are_held.Goals as goal

-- an answer that is the one that was asked for
as_asked : (answer asked : Bool) (P : Type 0) → not (beq answer asked) ≡ false
    → ((answer ≡ true) ↔ P) → MatchBool asked P (P → ⊥)
as_asked true true P same decides = decides.0 refl
as_asked true false P same decides = absurd (true≢false same)
as_asked false true P same decides = absurd (true≢false same)
as_asked false false P same decides = λ p. false≢true (decides.1 p)

pub loop-t-preserved : goal.loop-t-preserved
loop-t-preserved g c =
    let held = (g.V.GraphView.graph c.args.view.now).triples in
    let passes : Triple → Type 0 = λ t. MatchBool c.args.held (Contains held t) (Contains held t → ⊥) in
    let triples = c.args.triples.now in
    let none : Triple = record { s = 0; p = 0; o = 0 } in
    let inside = c.loop-t-test.true in
    let same = get_or_default triples c.loop-t.t-index none _ inside in
    let here = as_asked _ _ _ c.if-contains-held.false c.contains.ensures in
    AllWithin-more passes triples 0 c.loop-t.t-index c.loop-t.invariant
    (at_read triples passes c.loop-t.t-index _ inside same here)
