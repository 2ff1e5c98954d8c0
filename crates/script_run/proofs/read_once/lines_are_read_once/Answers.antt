use Rattle.script_run.proofs.NamesLemmas.{same_names}
use Rattle.script_run.proofs.read_once.lines_are_read_once.Goals as goal

pub returns : goal.returns
returns c = λ limits end line a b one other.
    let alike = same_names end one.document other.document one.names other.names in
    let also = c.names_decide_a_line.ensures limits one.document other.document line a alike one.read in
    c.a_line_has_one_reading.ensures limits other.document line a b also other.read
