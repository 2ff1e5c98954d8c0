use Rattle.std.proofs.Common.{◌≡◌, ◌∙◌, sym, arith}
use Rattle.shacl_drill.proofs.SizeLemmas.{asked_size}
use Rattle.shacl_drill.proofs.size.size_of.Goals as goal

pub returns-then-size-lt1-clause-none : goal.returns-then-size-lt1-clause-none
returns-then-size-lt1-clause-none c = λ n asked.
    let same : c.in_ok-size.size ≡ n = asked_size c.args.words.now c.word-item.result c.in_ok-size.size n
    c.word-item.is (sym c.as_str.ensures ∙ c.in_ok-size.ensures.some) c.in_ok-size.ensures.fits asked in
    omega (arith, same, c.then-size-lt1.either)
