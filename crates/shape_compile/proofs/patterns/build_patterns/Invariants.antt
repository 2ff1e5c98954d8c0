use Rattle.std.specs.Prelude.{◌≡◌, map, take}
use Rattle.shx_outside.specs.Told.{StaysAdmitted}
use Rattle.shape_decl.specs.Declarations.{told_decl}
use Rattle.shape_compile.specs.inner.Built.{AreBuilt}
use Rattle.shape_compile.proofs.patterns.build_patterns.Given as goal

abbrev pub invariant-loop-decl : goal.invariant-loop-decl
invariant-loop-decl g l = record {
  built : AreBuilt l.declared.pool.now.terms (take l.decl-index (map told_decl l.declared.decls.now))
      l.built.items;
  admitted : StaysAdmitted (g.P.PatternHost.admits l.fn.host) (g.P.PatternHost.admits l.host);
  quiet : (g.P.PatternHost.state l.host).faults ≡ (g.P.PatternHost.state l.fn.host).faults;
  last : (g.P.PatternHost.state l.host).refused ≡ (g.P.PatternHost.state l.fn.host).refused;
}
