use Rattle.std.proofs.Common.{◌∙◌, ap, Some, length}
use Rattle.std.specs.Option.{unwrap_or}
use Rattle.shx_outside.specs.OpenTexts.{is_named, bytes_of}
use Rattle.shx_outside.specs.inner.Places.{bytes_at}
use Rattle.shx_outside.proofs.PositionLemmas.{slice_get-position}
use Rattle.shx_outside.proofs.places.start_of.Goals as goal

pub returns-clause-text : goal.returns-clause-text
returns-clause-text c =
    let files = c.args.files.now in
    let first = c.unwrap_or-file.ensures
    ∙ ap (λ found. unwrap_or found (length files)) c.first_named.ensures in
    ap (λ file. Some (bytes_at files file)) first
    ∙ ap (λ found. Some (bytes_of found)) (slice_get-position (is_named c.args.name.now) files)

pub returns-clause-whole : goal.returns-clause-whole
returns-clause-whole c = returns-clause-text c
