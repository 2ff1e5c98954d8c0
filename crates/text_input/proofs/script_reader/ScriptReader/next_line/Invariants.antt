use Rattle.text_input.proofs.ReadLineLemmas.{HasGathered}
use Rattle.text_input.proofs.script_reader.ScriptReader.next_line.Given as goal

abbrev pub invariant-loop-line : goal.invariant-loop-line
invariant-loop-line g l = let I = g.I.Inputs in
    HasGathered l.fn.self (I.state l.fn.host) l.self (I.state l.host) (I.admits l.fn.host) (I.admits l.host)
    l.most l.line.items

abbrev pub decreases-loop-line : goal.decreases-loop-line
decreases-loop-line g l = l.self.budget
