-- How runs end that are cut short.
use Rattle.std.specs.Prelude.{Result, Ok, Err}
use Rattle.shacl_run.specs.declared.status.Status.{Status}
use Rattle.shacl_run.specs.declared.status.Status.TheVariants.{InputFault, WriteFault, Memory as no_memory}
use Rattle.shape_text.specs.declared.stop.Stop.{Stop}
use Rattle.shape_text.specs.declared.stop.Stop.TheVariants.{Input, Write, Memory}

abbrev pub stop_status : Stop → Status
stop_status Input = InputFault
stop_status Write = WriteFault
stop_status Memory = no_memory

-- the status with which a run ends
abbrev pub end_status : Result Status Stop → Status
end_status (Ok status) = status
end_status (Err stop) = stop_status stop
