use Rattle.std.proofs.Common.{sym, subst}
use Rattle.regex.specs.Patterns.{Re}
use Rattle.regex.specs.Strings.{regex_pattern}
use Rattle.shx_outside.specs.Patterns.{BuiltPattern}
use Rattle.shx_outside.specs.inner.Found.{FindsAs}
use Rattle.shx_outside.proofs.PatternLemmas.{regex_finds}
use Rattle.shx_outside.proofs.pattern_matcher.PatternMatcher.new.Goals as goal

pub invariant_of-result : goal.invariant_of-result
invariant_of-result c =
    let built = c.pattern.inside in
    let finds = regex_finds built.regex built.flags c.pattern.invariant.0 c.pattern.invariant.1 in (
      subst (λ (re : Re). FindsAs re c.args.pattern.now) (sym c.in_ok-matcher.ensures.pattern)
          (subst (λ (pattern : BuiltPattern). FindsAs (regex_pattern built.regex) pattern) c.pattern.view_is
          finds),
      tt,
    )
