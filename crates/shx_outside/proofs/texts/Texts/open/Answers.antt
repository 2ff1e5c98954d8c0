use Rattle.std.proofs.Common.{List, Some}
use Rattle.shx_outside.specs.declared.named_text.NamedText.{NamedText}
use Rattle.shx_outside.specs.inner.Places.{IsWithin}
use Rattle.shx_outside.proofs.PlaceLemmas.{AreWithin-with_place}
use Rattle.shx_outside.proofs.texts.Texts.open.Goals as goal

pub invariant_of-self : goal.invariant_of-self
invariant_of-self c =
    let files : List NamedText = c.self.inside.files.items in
    let place = Some c.start_of.result in
    let here : IsWithin files place = rw (← c.deref.ensures.value) c.start_of.ensures.within in
    let each = AreWithin-with_place files c.self.inside.places c.args.role place c.self.invariant.1 here in
    rw c.set.ensures (c.self.invariant.0, each)
