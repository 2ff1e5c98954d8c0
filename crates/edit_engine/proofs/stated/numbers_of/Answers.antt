use Rattle.std.proofs.Common.{sym, ap, ◌∙◌, ◌++◌, ◌∷◌, []}
use Rattle.edit_engine.proofs.StatedLemmas.{found_numbered, numbered_more}
use Rattle.edit_engine.proofs.stated.numbers_of.Goals as goal

pub loop-stated-preserved : goal.loop-stated-preserved
loop-stated-preserved c =
    let terms = c.args.pool.now.terms in
    let x = c.stated-item.result in
    let number = sym (c.in-Some.ensures ∙ found_numbered terms x c.find.result c.find.ensures) in
    c.in_ok-push-in-Some.ensures.items
    ∙ ap (λ us. us ++ c.in-Some.triple ∷ []) c.loop-stated.invariant
    ∙ sym (numbered_more terms c.args.triples.now c.loop-stated.stated-index x c.in-Some.triple
    c.loop-stated-test.true c.stated-item.is number)
