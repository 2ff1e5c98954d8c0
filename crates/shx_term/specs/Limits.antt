-- Limits that a run can work with.
use Rattle.std.specs.Prelude.{◌<◌, ◌≤◌}
use Rattle.shx_term.specs.declared.limits.Limits.{Limits}

-- there is room for the vocabulary and for something of everything, and no depth is above what recursion may
-- take
pub record AreUsable (limits : Limits) : Type 0 where
  pub terms : 62 ≤ limits.terms
  pub triples : 0 < limits.triples
  pub text : 0 < limits.text
  pub script : 0 < limits.script
  pub line : 0 < limits.line
  pub some_turtle_depth : 0 < limits.turtle_depth
  pub some_path_depth : 0 < limits.path_depth
  pub path_parts : 0 < limits.path_parts
  pub some_reference_depth : 0 < limits.reference_depth
  pub shapes : 0 < limits.shapes
  pub group : 0 < limits.group
  pub history : 0 < limits.history
  pub turtle_depth : limits.turtle_depth ≤ 128
  pub path_depth : limits.path_depth ≤ 64
  pub reference_depth : limits.reference_depth ≤ 64

-- the limits of the program
abbrev pub program_limits : Limits
program_limits = record {
  triples = 4000000;
  terms = 16000000;
  text = 268435456;
  script = 268435456;
  line = 65536;
  turtle_depth = 128;
  path_depth = 64;
  path_parts = 4096;
  reference_depth = 64;
  shapes = 100000;
  group = 10000;
  history = 100;
}
