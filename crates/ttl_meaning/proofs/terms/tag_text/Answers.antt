use Rattle.ttl_meaning.proofs.TokenTextLemmas.{tag_cut}
use Rattle.ttl_meaning.proofs.terms.tag_text.Goals as goal

pub range_from-requires : goal.range_from-requires
range_from-requires c = λ _.
    rw c.token_text.ensures
    (tag_cut c.args.text.now c.args.tag.now c.utf8.text c.requires.given c.requires.kind)
