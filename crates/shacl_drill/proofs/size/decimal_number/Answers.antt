use Rattle.std.proofs.Common.{◌≡◌}
use Rattle.std.proofs.lemmas.Bool.{false≢true}
use Rattle.std.proofs.lemmas.Bool.Decides.{Decides-eqb}
use Rattle.std.proofs.lemmas.Fmt.{parse-decimal}
use Rattle.std.proofs.lemmas.Slice.Eq.{slice_eq-Decides}
use Rattle.shacl_drill.proofs.size.decimal_number.Goals as goal

pub returns-else-eq-clause-none : goal.returns-else-eq-clause-none
returns-else-eq-clause-none c = λ n fits is.
    let read = parse-decimal 64 n _ _ fits fits is c.parse.ensures.value.0 in
    let same : c.format.result.now ≡ c.args.text.now = cc (read, is) in
    let decides = slice_eq-Decides Decides-eqb c.format.result.now c.args.text.now _ c.if-eq.ensures in
    false≢true (decides.1 same)

pub returns-in-Err-clause-none : goal.returns-in-Err-clause-none
returns-in-Err-clause-none c = λ n fits is. cc (parse-decimal 64 n _ _ fits fits is c.parse.ensures.value.0)
