-- What an order of shapes answers, as what compiling them answers.
use Rattle.shape_refs.specs.declared.fault.ReferenceFault.{ReferenceFault}
use Rattle.shape_refs.specs.declared.fault.ReferenceFault.TheVariants as reference
use Rattle.shape_compile.specs.declared.fault.CompileFault.{CompileFault}
use Rattle.shape_compile.specs.declared.fault.CompileFault.TheVariants as fault

abbrev pub compile_fault : ReferenceFault → CompileFault
compile_fault (reference.Recursive cycle) = fault.Recursive cycle
compile_fault (reference.TooDeep shape) = fault.ReferencesTooDeep shape
compile_fault reference.Memory = fault.Memory
