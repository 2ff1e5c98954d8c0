use Rattle.std.specs.Prelude.{◌≡◌, ◌++◌, take}
use Rattle.report_write.specs.PathForms.{between, opening}
use Rattle.report_write.specs.inner.Parts.{before_next, joined, path_texts}
use Rattle.report_write.proofs.path.+path.Given as goal

-- the texts so far were added, and what stands before the next one is known
abbrev pub invariant-add_parts-loop-part : goal.invariant-add_parts-loop-part
invariant-add_parts-loop-part g l =
    let mark = between l.format l.form in
    let texts = path_texts l.format l.pool.terms (take l.part-index l.parts) in
    (l.before ≡ before_next mark texts)
    × g.W.Pieces.added l.fn.out l.out (opening l.format l.form ++ joined mark texts)
