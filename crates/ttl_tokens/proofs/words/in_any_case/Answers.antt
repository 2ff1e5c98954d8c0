use Rattle.std.proofs.Common.{rules}
use Rattle.std.proofs.lemmas.Iterator.{YieldsList-from_chars}
use Rattle.std.proofs.lemmas.Iterator.Consumers.{YieldsList-turn, YieldsList-end}
use Rattle.ttl_tokens.proofs.WordLemmas.{either_spells, spelled_done, spelled_fails, spelled_more}
use Rattle.ttl_tokens.proofs.words.in_any_case.Goals as goal

pub returns-in_err-rest : goal.returns-in_err-rest
returns-in_err-rest c =
    let at = YieldsList-turn (YieldsList-from_chars c.args.letters.now c.utf8.letters cc)
    c.loop-letter.yielded _ c.loop-letter.yielded_by _ _ c.in-Some.letter c.in-Some.is c.next.ensures.steps in
    rw c.from_residual.ensures
    (spelled_fails either_spells c.loop-letter.invariant.spelled _ at c.in_err-rest.ensures)

pub loop-letter-preserved : goal.loop-letter-preserved
loop-letter-preserved c =
    let at = YieldsList-turn (YieldsList-from_chars c.args.letters.now c.utf8.letters cc)
    c.loop-letter.yielded _ c.loop-letter.yielded_by _ _ c.in-Some.letter c.in-Some.is c.next.ensures.steps in
    record {
      rest = search rules;
      spelled = spelled_more either_spells c.loop-letter.invariant.spelled _ _ at c.in_ok-rest.ensures;
    }

pub returns : goal.returns
returns c =
    let end = YieldsList-end (YieldsList-from_chars c.args.letters.now c.utf8.letters cc)
    c.loop-letter.yielded _ c.loop-letter.yielded_by _ _ c.in-None.is c.next.ensures.steps in
    spelled_done either_spells c.loop-letter.invariant.spelled end.1
