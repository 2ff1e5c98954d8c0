use Rattle.std.proofs.Common.{◌≡◌, true≢false, not, sym, ap, ◌∙◌, arith}
use Rattle.std.specs.Prelude.{decimal}
use Rattle.std.proofs.lemmas.Slice.Eq.{bytes_eq-Decides}
use Rattle.ttl_meaning.proofs.NodeLemmas.{parsed, parsed_same}
use Rattle.ttl_meaning.proofs.node_number.node_number.Goals as goal
use Rattle.ttl_meaning.proofs.node_number.node_number.Goals.{then-number-eq0-via-then-number-eq0 as zero}
use Rattle.ttl_meaning.proofs.node_number.node_number.Goals.{
  then-number-eq0-via-else-number-eq0+then-ne as otherwise,
}

pub returns-in_default : goal.returns-in_default
returns-in_default c = λ n few some is.
    let text = c.args.spelled.now in
    c.in_default.not-Ok n (parsed text c.parse.result c.parse.ensures.value.0 n few is)

pub returns-then-number-eq0 : goal.returns-then-number-eq0
returns-then-number-eq0 c = λ n few some is.
    let text = c.args.spelled.now in
    let parses = c.parse.ensures.value.0 in
    let number = c.in-Ok.number in
    let same = parsed_same text c.parse.result parses n number few is c.in-Ok.is in
    elim c.then-number-eq0.branch [
      | zero w ↦ omega (arith, some, same, w.if-number-eq0.true)
      | otherwise w ↦
          let spelled : w.format.result.now ≡ text = w.format.ensures.text ∙ ap decimal (sym same) ∙ is in
          true≢false (w.if-ne.ensures ∙ ap not ((bytes_eq-Decides w.format.result.now text).1 spelled))
    ]
