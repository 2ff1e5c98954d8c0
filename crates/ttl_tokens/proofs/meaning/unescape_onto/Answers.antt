use Rattle.std.proofs.Common.{◌≡◌, List, ℕ, length, rules, string_bytes, string_len, sym, subst, ◌∙◌}
use Rattle.std.proofs.lemmas.Str.{IsUtf8-string_bytes}
use Rattle.std.specs.Str.{chars}
use Rattle.ttl_tokens.specs.inner.Marks.{HasMarks}
use Rattle.ttl_tokens.specs.Unescaped.{mark_length}
use Rattle.ttl_tokens.proofs.MarkLemmas.{given_marks}
use Rattle.ttl_tokens.proofs.UndoneLemmas.{grown_cut}
use Rattle.ttl_tokens.proofs.meaning.unescape_onto.Goals as goal

pub content-requires : goal.content-requires
content-requires c =
    subst (λ (l : List ℕ). HasMarks (mark_length c.args.token.now.kind) (chars l))
    (sym c.range-piece.ensures.value)
    (given_marks c.args.text.now c.args.token.now c.utf8.text c.requires.given)

pub truncate-requires : goal.truncate-requires
truncate-requires c = λ _.
    let out = c.args.out.now in
    let size : string_len out ≡ length (string_bytes out) = search rules in
    let cut =
    grown_cut (string_bytes out) _ _ (c.len-before.ensures ∙ size) (IsUtf8-string_bytes out)
    (IsUtf8-string_bytes c.undo_onto.new.out) c.in-Err.ensures.err in
    (cut.0, λ _. cut.1)
