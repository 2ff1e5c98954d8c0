-- What is told of shapes that make no plan.
use Rattle.std.specs.Prelude.{◌<◌, length, slice_index}
use Rattle.shx_term.specs.declared.fault_codes.TheConstants.{RECURSIVE, BAD_PATTERN, PATTERN_REFUSED}
use Rattle.shx_term.specs.declared.fault_codes.TheConstants.{REFERENCES_TOO_DEEP}
use Rattle.shape_check.specs.declared.fault.CheckFault.{CheckFault}
use Rattle.shape_check.specs.declared.fault.CheckFault.TheVariants as check
use Rattle.shape_compile.specs.declared.fault.CompileFault.{CompileFault}
use Rattle.shape_compile.specs.declared.fault.CompileFault.TheVariants as compile
use Rattle.report_write.specs.declared.answer.Answer.TheVariants.{OfShape}
use Rattle.shape_text.specs.declared.refusal.Refusal.{Refusal}
use Rattle.shape_text.specs.declared.refusal.Refusal.TheVariants.{Text, Cut}
use Rattle.shape_text.specs.declared.stop.Stop.TheVariants as stop
use Rattle.shape_text.specs.Verdict.{fault_answer}

abbrev pub check_refusal : CheckFault → Refusal
check_refusal (check.Shape fault) = Text (fault_answer fault.code fault.shape fault.predicate fault.term)
check_refusal check.Memory = Cut stop.Memory

abbrev pub compile_refusal : CompileFault → Refusal
compile_refusal (compile.Recursive cycle) = Text (OfShape RECURSIVE (slice_index cycle.items 0))
compile_refusal (compile.ReferencesTooDeep shape) = Text (OfShape REFERENCES_TOO_DEEP shape)
compile_refusal (compile.BadPattern shape) = Text (OfShape BAD_PATTERN shape)
compile_refusal (compile.PatternRefused shape) = Text (OfShape PATTERN_REFUSED shape)
compile_refusal compile.Memory = Cut stop.Memory

-- a cycle has a first shape
abbrev pub HasFirst : CompileFault → Type 0
HasFirst (compile.Recursive cycle) = 0 < length cycle.items
HasFirst fault = Unit {0}
