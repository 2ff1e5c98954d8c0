use Rattle.std.specs.Prelude.{[], take}
use Rattle.shx_term.specs.Members.{Adds}
use Rattle.comp_core.proofs.lookup.set_of.Given as goal

abbrev pub invariant-loop-id : goal.invariant-loop-id
invariant-loop-id l = Adds [] l.set.keys (take l.id-index l.ids)
