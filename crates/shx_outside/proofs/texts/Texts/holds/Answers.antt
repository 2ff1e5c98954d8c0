use Rattle.std.proofs.Common.{◌∙◌, ap, is_some, List}
use Rattle.shx_outside.specs.declared.named_text.NamedText.{NamedText}
use Rattle.shx_outside.specs.OpenTexts.{OpenTexts, is_named, is_held}
use Rattle.shx_outside.proofs.PositionLemmas.{is_some-position}
use Rattle.shx_outside.proofs.texts.Texts.holds.Goals as goal

pub returns : goal.returns
returns c =
    let name = c.args.name.now in
    let same = c.deref.ensures.value ∙ ap (λ (texts : OpenTexts). texts.files) c.self.view_is in
    c.is_some.ensures
    ∙ ap is_some c.first_named.ensures
    ∙ is_some-position (is_named name) c.deref.result.now
    ∙ ap (λ (files : List NamedText). is_held files name) same
