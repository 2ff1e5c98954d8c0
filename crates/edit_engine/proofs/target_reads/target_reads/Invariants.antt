use Rattle.std.specs.Prelude.{take, flat_map}
use Rattle.shx_term.specs.Members.{Adds}
use Rattle.shape_eval.specs.Targets.{reads_of_target}
use Rattle.edit_engine.proofs.target_reads.target_reads.Given as goal

abbrev pub invariant-loop-target : goal.invariant-loop-target
invariant-loop-target g l = Adds l.initial.reads l.reads
    (flat_map (reads_of_target (g.V.GraphView.graph l.view)) (take l.target-index l.target-items))
