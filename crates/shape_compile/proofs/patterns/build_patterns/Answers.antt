use Rattle.std.specs.Prelude.{map, take}
use Rattle.std.proofs.Common.{◌∙◌}
use Rattle.std.proofs.lemmas.Result.{err_from_is_err_and}
use Rattle.shape_decl.specs.Declarations.{told_decl}
use Rattle.shape_compile.specs.Patterns.{flags_of, text_at}
use Rattle.shape_compile.proofs.PatternLemmas.{AreBuilt-more, AreReadBefore-place, AreRead-built}
use Rattle.shape_compile.proofs.PatternLemmas.{StopsAtPattern-here}
use Rattle.shape_compile.proofs.PlaceLemmas.{Contains-place, told_item}
use Rattle.shape_compile.proofs.RefusedLemmas.{LastRefused-among}
use Rattle.shape_compile.proofs.patterns.build_patterns.Goals as goal

pub build_pattern-requires-clause-one : goal.build_pattern-requires-clause-one
build_pattern-requires-clause-one g c =
    let decls = c.args.declared.now.decls.now in
    let d = told_decl c.decl-item.result in
    let here = told_item decls c.loop-decl.decl-index c.decl-item.result c.loop-decl-test.true
    c.decl-item.is in
    c.requires.one.each d (Contains-place (map told_decl decls) c.loop-decl.decl-index d here)

pub build_pattern-requires-clause-admitted : goal.build_pattern-requires-clause-admitted
build_pattern-requires-clause-admitted g c = λ value states.
    let decls = c.args.declared.now.decls.now in
    let terms = c.args.declared.now.pool.now.terms in
    let d = told_decl c.decl-item.result in
    let here = told_item decls c.loop-decl.decl-index c.decl-item.result c.loop-decl-test.true
    c.decl-item.is in
    c.loop-decl.invariant.admitted.each (flags_of terms d) (text_at terms value)
    (c.requires.admitted.each d value (record {
      declared = Contains-place (map told_decl decls) c.loop-decl.decl-index d here;
      stated = states;
    }))

pub returns-in_err-build_pattern-clause-stops : goal.returns-in_err-build_pattern-clause-stops
returns-in_err-build_pattern-clause-stops g c =
    let declared = c.args.declared.now in
    let terms = declared.pool.now.terms in
    let ds = map told_decl declared.decls.now in
    let i = c.loop-decl.decl-index in
    let d = told_decl c.decl-item.result in
    let here = told_item declared.decls.now i c.decl-item.result c.loop-decl-test.true
    c.decl-item.is in
    let before = AreReadBefore-place terms ds c.requires.ascending i d here
    (AreRead-built terms (take i ds) c.loop-decl.built.items c.loop-decl.invariant.built) in
    let exit = err_from_is_err_and c.from_residual-in_err-build_pattern.result
    c.from_residual-in_err-build_pattern.ensures.1 in
    rw (exit.1, exit.2)
    (StopsAtPattern-here terms ds d c.in_err-build_pattern.field-0.0 (Contains-place ds i d here) before
    c.in_err-build_pattern.ensures.stops)

pub returns-in_err-build_pattern-clause-refused : goal.returns-in_err-build_pattern-clause-refused
returns-in_err-build_pattern-clause-refused g c =
    let declared = c.args.declared.now in
    let ds = map told_decl declared.decls.now in
    let i = c.loop-decl.decl-index in
    let d = told_decl c.decl-item.result in
    let here = told_item declared.decls.now i c.decl-item.result c.loop-decl-test.true
    c.decl-item.is in
    let exit = err_from_is_err_and c.from_residual-in_err-build_pattern.result
    c.from_residual-in_err-build_pattern.ensures.1 in
    rw (exit.1, exit.2)
    (LastRefused-among declared.pool.now.terms ds d _ _ _ c.in_err-build_pattern.field-0.0
    (Contains-place ds i d here) c.loop-decl.invariant.last c.in_err-build_pattern.ensures.refused)

pub loop-decl-preserved : goal.loop-decl-preserved
loop-decl-preserved g c =
    let declared = c.args.declared.now in
    let i = c.loop-decl.decl-index in
    let held = c.loop-decl.invariant in
    let d = told_decl c.decl-item.result in
    let here = told_item declared.decls.now i c.decl-item.result c.loop-decl-test.true
    c.decl-item.is in
    record {
      built = AreBuilt-more declared.pool.now.terms (map told_decl declared.decls.now) i d
          c.loop-decl.built.items c.push.new.self.items c.in_ok-build_pattern.field-0 here held.built
          c.in_ok-build_pattern.ensures.built c.in_ok-push.ensures.items;
      admitted = record {
        each = λ flags text before.
            c.build_pattern.ensures.admitted.each flags text (held.admitted.each flags text before);
      };
      quiet = c.in_ok-build_pattern.ensures.cause ∙ held.quiet;
      last = c.in_ok-build_pattern.ensures.refused ∙ held.last;
    }
