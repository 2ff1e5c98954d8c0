use Rattle.std.proofs.Common.{arith, rules, sym, ◌∙◌}
use Rattle.std.proofs.lemmas.Str.{chars-nil}
use Rattle.ttl_tokens.proofs.FirstByteLemmas.{is_cut, no_mark, behind_cut, behind_none}
use Rattle.ttl_tokens.proofs.content.local_name.Goals as goal

pub returns-in-Some : goal.returns-in-Some
returns-in-Some c =
    let found = c.in-Some.ensures in
    let cut =
    is_cut 58 (omega arith) _ _ _ c.utf8.piece (search rules) (search rules) found.0 found.1 in
    sym (behind_cut cut)

pub returns-in-None : goal.returns-in-None
returns-in-None c =
    chars-nil ∙ sym (behind_none _ (no_mark 58 (omega arith) _ c.utf8.piece c.in-None.ensures))
