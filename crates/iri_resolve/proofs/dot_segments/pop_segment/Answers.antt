use Rattle.std.proofs.Common.{◌≤◌, ap, ◌∙◌, drop, length, string_bytes, rules}
use Rattle.std.proofs.lemmas.List.{take_rest}
use Rattle.std.proofs.lemmas.Str.{IsUtf8-string_bytes}
use Rattle.iri_resolve.proofs.WalkLemmas.{IsCharBoundary-output, WritesFrom-truncated}
use Rattle.iri_resolve.proofs.dot_segments.pop_segment.Goals as goal

pub truncate-requires : goal.truncate-requires
truncate-requires c = λ _.
    let bytes = string_bytes c.args.out.now in
    let within : c.args.start ≤ length bytes = search rules in
    let output = take_rest c.as_bytes.result.now c.args.start
    ∙ ap (drop c.args.start) c.as_bytes.ensures.value in
    let kept = rw output at c.kept_len-kept.ensures in
    let boundary =
    IsCharBoundary-output bytes c.args.start c.kept_len-kept.result
    (IsUtf8-string_bytes c.args.out.now) within c.requires.text kept.within kept.slash in
    (boundary.0, λ _. boundary.1)

pub returns : goal.returns
returns c =
    let within : c.args.start ≤ length (string_bytes c.args.out.now) = search rules in
    let output = take_rest c.as_bytes.result.now c.args.start
    ∙ ap (drop c.args.start) c.as_bytes.ensures.value in
    let kept = rw output at c.kept_len-kept.ensures in
    WritesFrom-truncated c.args.start c.kept_len-kept.result
    (string_bytes c.args.out.now) _ _ within kept.within c.truncate.ensures.bytes kept.kept
