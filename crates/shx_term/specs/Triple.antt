-- Triples of numbers, when two are the same, and what a triple feeds a hasher.
use Rattle.std.specs.Prelude.{Bool, ◌&&◌, ◌==◌, ◌++◌}
use Rattle.std.specs.Hash as fed
use Rattle.shx_term.specs.declared.triple.Triple.{Triple}

abbrev pub same_triple : Triple → Triple → Bool
same_triple t u = (t.s == u.s) && ((t.p == u.p) && (t.o == u.o))

abbrev pub hashed_triple : Triple → fed.HashWrites
hashed_triple t = fed.u32 t.s ++ (fed.u32 t.p ++ fed.u32 t.o)
