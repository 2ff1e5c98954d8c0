use Rattle.std.specs.Prelude.{take, flat_map}
use Rattle.shx_term.specs.Members.{Adds}
use Rattle.edit_engine.proofs.TargetReadLemmas.{type_keys}
use Rattle.edit_engine.proofs.target_reads.add_class_reads.Given as goal

abbrev pub invariant-loop-subclass : goal.invariant-loop-subclass
invariant-loop-subclass g l =
    Adds l.initial.reads l.reads (flat_map type_keys (take l.subclass-index l.subclass-items))
