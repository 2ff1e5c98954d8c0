-- What is written about the parts of a path, by the form in which it is made of them. In lines they stand in
-- round brackets; in Turtle a sequence is a list, and every other form a blank node (SHACL, section 2.3.1).
use Rattle.std.specs.Prelude.{ℕ, List, codes}
use Rattle.text_output.specs.declared.format.Format.{Format}
use Rattle.text_output.specs.declared.format.Format.TheVariants.{Lines, Turtle}
use Rattle.report_write.specs.declared.path_form.PathForm.{PathForm}
use Rattle.report_write.specs.declared.path_form.PathForm.TheVariants.{Sequence, Alternative, Inverse}
use Rattle.report_write.specs.declared.path_form.PathForm.TheVariants.{ZeroOrMore, OneOrMore, ZeroOrOne}

-- what stands before the first part
abbrev pub opening : Format → PathForm → List ℕ
opening Lines Sequence = codes "("
opening Lines Alternative = codes "("
opening Lines Inverse = codes "(^"
opening Lines ZeroOrMore = codes "("
opening Lines OneOrMore = codes "("
opening Lines ZeroOrOne = codes "("
opening Turtle Sequence = codes "( "
opening Turtle Alternative = codes "[ sh:alternativePath ( "
opening Turtle Inverse = codes "[ sh:inversePath "
opening Turtle ZeroOrMore = codes "[ sh:zeroOrMorePath "
opening Turtle OneOrMore = codes "[ sh:oneOrMorePath "
opening Turtle ZeroOrOne = codes "[ sh:zeroOrOnePath "

-- what stands between two parts; only sequences and alternatives have more than one
abbrev pub between : Format → PathForm → List ℕ
between Lines Sequence = codes "/"
between Lines form = codes "|"
between Turtle form = codes " "

-- what stands behind the last part
abbrev pub closing : Format → PathForm → List ℕ
closing Lines Sequence = codes ")"
closing Lines Alternative = codes ")"
closing Lines Inverse = codes ")"
closing Lines ZeroOrMore = codes "*)"
closing Lines OneOrMore = codes "+)"
closing Lines ZeroOrOne = codes "?)"
closing Turtle Sequence = codes " )"
closing Turtle Alternative = codes " ) ]"
closing Turtle Inverse = codes " ]"
closing Turtle ZeroOrMore = codes " ]"
closing Turtle OneOrMore = codes " ]"
closing Turtle ZeroOrOne = codes " ]"
