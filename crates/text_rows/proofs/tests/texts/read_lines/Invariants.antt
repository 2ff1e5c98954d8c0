use Rattle.std.proofs.Common.{◌≡◌, true}
use Rattle.shx_outside.specs.declared.role.Role.TheVariants.{Script}
use Rattle.shx_outside.specs.MemoryInputs.{inputs_told}
use Rattle.text_input.specs.ScriptReader.{MetEnd}
use Rattle.text_rows.proofs.tests.texts.read_lines.Given as goal

abbrev pub invariant-loop : goal.invariant-loop
invariant-loop l = record {
  opened : (inputs_told l.inputs).opened Script ≡ true;
  met : MetEnd l.reader.ended ((inputs_told l.inputs).rest Script);
}
