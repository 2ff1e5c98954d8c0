use Rattle.std.proofs.Common.{◌≡◌, length, string_bytes, rules}
use Rattle.std.proofs.lemmas.Result.{on_ok_weaker}
use Rattle.std.proofs.lemmas.Str.{IsUtf8-string_bytes}
use Rattle.iri_resolve.specs.Reference.{parts_in}
use Rattle.iri_resolve.proofs.WalkLemmas.{IsUtf8-written, IsUtf8-walked, append-merged}
use Rattle.iri_resolve.proofs.resolution.push_merged.Goals as goal

pub push_directories-requires-clause-text : goal.push_directories-requires-clause-text
push_directories-requires-clause-text c =
    IsUtf8-written (string_bytes c.args.out.now) c.len-start.result (IsUtf8-string_bytes c.args.out.now)
    (search rules)

pub push_segments-requires-clause-text : goal.push_segments-requires-clause-text
push_segments-requires-clause-text c =
    IsUtf8-walked c.in_ok-slash.ensures.walked
    (IsUtf8-written (string_bytes c.args.out.now) c.len-start.result (IsUtf8-string_bytes c.args.out.now)
    (search rules))

pub returns : goal.returns
returns c =
    let all : c.len-start.result ≡ length (string_bytes c.args.out.now) = search rules in
    on_ok_weaker c.push_segments.result
    (append-merged (string_bytes c.args.out.now) _ _ c.args.path.now
    (parts_in c.args.base.now) c.len-start.result _ c.in_ok-slash.slash all c.is_rooted.ensures
    c.in_ok-slash.ensures.walked) c.push_segments.ensures
