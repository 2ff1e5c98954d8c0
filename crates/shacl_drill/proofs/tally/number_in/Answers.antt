use Rattle.shacl_drill.proofs.TallyLemmas.{told_text, value_of_digits}
use Rattle.shacl_drill.proofs.tally.number_in.Goals as goal

pub returns : goal.returns
returns c =
    let same = told_text c.from_utf8.result c.in_ok-ok.field-0 c.args.digits.now _ _ c.in_ok-ok.ensures.value
    c.from_utf8.ensures.cases in
    value_of_digits c.decimal_number.result _ _ same c.decimal_number.ensures.some
    c.decimal_number.ensures.fits
