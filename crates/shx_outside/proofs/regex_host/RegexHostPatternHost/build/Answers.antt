use Rattle.std.proofs.Common.{true, ap}
use Rattle.regex.specs.Patterns.{Config}
use Rattle.regex.specs.Views.{builder_config}
use Rattle.shx_outside.proofs.PatternLemmas.{refused_is_none}
use Rattle.shx_outside.proofs.regex_host.RegexHostPatternHost.build.Goals as goal

pub returns-in-Err-Syntax-clause-none : goal.returns-in-Err-Syntax-clause-none
returns-in-Err-Syntax-clause-none c = λ same.
    let error = c.in-Err-Syntax.field-0-0 in
    let config = record (builder_config c.builder_of.result) { utf8 = true } in
    let options = ap (λ (given : Config). record given { utf8 = true }) c.builder_of.ensures.options in
    refused_is_none config c.args.flags c.args.text.now error.kind options
    (rw c.builder_of.ensures.source at c.in-Err-Syntax.ensures.by_grammar error c.in-Err-Syntax.field-0-is)
    (rw c.in-Err-Syntax.field-0-is at c.in-Err-Syntax.ensures.kind)
