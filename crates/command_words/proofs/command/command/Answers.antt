use Rattle.std.proofs.Common.{◌≡◌, ◌∙◌, rules, ap, ap₂, true, codes}
use Rattle.std.proofs.lemmas.Result.{IfOk-weaker}
use Rattle.clap.specs.Walk.{rule_of}
use Rattle.clap.specs.Simple.{app_of, app_of_fields, on_top, with_rule}
use Rattle.clap.specs.declared.builder.command.Command.{Command}
use Rattle.clap.specs.declared.builder.command.Command.TheOpen.{Command-F}
use Rattle.command_words.specs.inner.Command.{bare_app, files_rule, option_rule}
use Rattle.command_words.proofs.command.command.Goals as goal

pub returns : goal.returns
returns c =
    let format_is : rule_of c.long-format.result ≡ option_rule (codes "format") = search rules in
    let base_is : rule_of c.long-base.result ≡ option_rule (codes "base") = search rules in
    let files_is : rule_of c.action-files.result ≡ files_rule = search rules in
    let bare_is : app_of c.disable_help_flag.result ≡ bare_app = ap app_of_fields c.disable_help_flag.ensures
    ∙ ap (λ (f : Command-F Command). app_of_fields
    (record f { disable_help_flag = true })) c.no_binary_name.ensures
    ∙ ap (on_top (λ s. record s { no_binary_name = true; disable_help_flag = true })) c.new-4.ensures.app in
    IfOk-weaker c.arg-3.result _ _
    (λ command h. h.shape (search rules)
    ∙ ap₂ with_rule (c.in_ok-arg-2.ensures.shape (search rules)
    ∙ ap₂ with_rule (c.in_ok-arg.ensures.shape (search rules)
    ∙ ap₂ with_rule bare_is format_is) base_is) files_is)
    c.arg-3.ensures
