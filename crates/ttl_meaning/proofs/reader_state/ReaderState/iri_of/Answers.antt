use Rattle.std.proofs.Common.{◌≡◌, ap, ◌∙◌, subst}
use Rattle.std.specs.BTreeMap.{get_by_text}
use Rattle.std.specs.Option.{option_copied}
use Rattle.ttl_meaning.specs.inner.Meant.{IsMeant}
use Rattle.ttl_meaning.specs.Terms.{in_namespace, local_of, namespace_of, prefix_of}
use Rattle.ttl_meaning.proofs.ItemLemmas.{prefixed_meant}
use Rattle.ttl_meaning.proofs.reader_state.ReaderState.iri_of.Goals as goal

pub returns-in_default : goal.returns-in_default
returns-in_default c = λ bounds s p keeps.
    let text = c.args.text.now in
    let token = c.args.token.now in
    let namespace : option_copied c.get.result ≡ namespace_of (prefix_of text token) s.prefixes =
    c.get.ensures.value ∙ ap (get_by_text c.args.self.now.prefixes) c.prefix_text.ensures
    ∙ keeps.prefixes (prefix_of text token) in
    prefixed_meant token.kind text token s c.named.result c.in_default.not-IriRef
    (subst (λ o. IsMeant (in_namespace o (local_of token.kind text token)) c.named.result) namespace
    c.named.ensures)
