use Rattle.std.proofs.Common.{◌≡◌, length, string_bytes, rules}
use Rattle.std.proofs.lemmas.Result.{on_ok_weaker}
use Rattle.std.proofs.lemmas.Str.{IsUtf8-string_bytes}
use Rattle.iri_resolve.proofs.WalkLemmas.{IsUtf8-written, append-WritesFrom}
use Rattle.iri_resolve.proofs.dot_segments.push_without_dots.Goals as goal

pub push_segments-requires-clause-text : goal.push_segments-requires-clause-text
push_segments-requires-clause-text c =
    IsUtf8-written (string_bytes c.args.out.now) c.len-start.result (IsUtf8-string_bytes c.args.out.now)
    (search rules)

pub returns : goal.returns
returns c =
    let all : c.len-start.result ≡ length (string_bytes c.args.out.now) = search rules in
    on_ok_weaker c.push_segments.result
    (append-WritesFrom
    (string_bytes c.args.out.now) _ c.args.path.now c.len-start.result all) c.push_segments.ensures
