use Rattle.std.proofs.Common.{refl, rules}
use Rattle.std.specs.Str.{chars}
use Rattle.ttl_tokens.specs.inner.IriRefForms.{iri_item}
use Rattle.ttl_tokens.proofs.CharLemmas.{only_shorter}
use Rattle.ttl_tokens.proofs.FormLemmas.{runs_more}
use Rattle.ttl_tokens.proofs.iri_ref.skip_iri_items.Goals as goal

pub loop-behind-init : goal.loop-behind-init
loop-behind-init c = (search rules, (0, refl))

pub loop-behind-preserved : goal.loop-behind-preserved
loop-behind-preserved c = (search rules, runs_more c.loop-behind.invariant.1 c.in-Some.ensures)

pub loop-behind-smaller : goal.loop-behind-smaller
loop-behind-smaller c =
    only_shorter iri_item (chars c.loop-behind.rest.now) (chars c.in-Some.behind.now) refl c.in-Some.ensures

pub returns : goal.returns
returns c = record { runs = c.loop-behind.invariant.1; ends = c.in_default.ensures }
