use Rattle.std.proofs.Common.{◌≡◌, false, nat_eq, sym, ◌∙◌}
use Rattle.std.specs.Cmp.Lexicographic.{pointwise}
use Rattle.shx_term.specs.Spelling.{xsd_string}
use Rattle.shx_term.proofs.spelling.write_datatype.Goals as goal

pub returns : goal.returns
returns g c =
    let differs : pointwise nat_eq c.args.datatype.now xsd_string ≡ false =
    rw c.as_str.ensures at (sym c.eq.ensures ∙ c.if-eq.false) in
    rw differs (g.met.W.Pieces.added_in_turn _ _ _ _ _ c.add.ensures c.write_iri.ensures)
