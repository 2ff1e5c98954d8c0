use Rattle.std.proofs.Common.{◌≡◌, inl, inr, drop}
use Rattle.shx_term.specs.Spelling.{xsd_string}
use Rattle.ttl_tokens.specs.Unescaped.{token_text}
use Rattle.ttl_meaning.specs.InForce.{in_force}
use Rattle.ttl_meaning.specs.Terms.{iri_of, judged, said, tagged, typed}
use Rattle.ttl_read.specs.ReadTerm.{IsStringFound, found, found_typed}
use Rattle.ttl_read.proofs.FoundLemmas.{Answers-weaker}
use Rattle.ttl_read.proofs.term.string.Goals as goal

pub returns-in-Tag : goal.returns-in-Tag
returns-in-Tag c =
    let text = c.args.text.now in
    let string = c.args.token.now in
    let tag = c.in-Tag.tag in
    let meant = judged (tagged (said text string) (drop 1 (token_text text tag))) in
    Answers-weaker (λ answer. answer ≡ found string.start tag.end meant)
    (IsStringFound text string c.args.document.now) (λ answer is. inl (tag, c.in-Tag.ensures, is))
    c.judged.result (c.judged.ensures meant c.tagged_string.ensures)

pub returns-in-Datatype : goal.returns-in-Datatype
returns-in-Datatype c =
    let text = c.args.text.now in
    let string = c.args.token.now in
    let iri = c.in-Datatype.iri in
    let document = c.args.document.now in
    Answers-weaker (λ answer. answer ≡ found_typed text string iri (iri_of text iri (in_force document)))
    (IsStringFound text string document) (λ answer is. inr (inl (iri, c.in-Datatype.ensures, is)))
    c.typed.result c.typed.ensures

pub returns-in-Nothing : goal.returns-in-Nothing
returns-in-Nothing c =
    let text = c.args.text.now in
    let string = c.args.token.now in
    let meant = judged (typed (said text string) xsd_string) in
    let none = c.in-Nothing.ensures in
    Answers-weaker (λ answer. answer ≡ found string.start string.end meant)
    (IsStringFound text string c.args.document.now) (λ answer is. inr (inr (none.0, none.1, is)))
    c.judged-in-Nothing.result (c.judged-in-Nothing.ensures meant c.plain_string.ensures)
