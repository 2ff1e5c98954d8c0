use Rattle.std.proofs.Common.{subst}
use Rattle.shx_outside.specs.Patterns.{BuiltPattern, IsPattern}
use Rattle.shx_outside.proofs.PatternLemmas.{regex_is_pattern}
use Rattle.shx_outside.proofs.pattern.Pattern.is_read.Goals as goal

pub returns : goal.returns
returns c =
    let built = c.self.inside in
    subst (λ (pattern : BuiltPattern). IsPattern pattern.text pattern.flags) c.self.view_is
    (regex_is_pattern built.regex built.flags c.self.invariant.0 c.self.invariant.1)
