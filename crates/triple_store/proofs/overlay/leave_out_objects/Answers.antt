use Rattle.std.proofs.Common.{rules}
use Rattle.std.specs.Prelude.{not}
use Rattle.std.proofs.lemmas.Fn.{filter_same}
use Rattle.triple_store.proofs.OverlayLemmas.{is_gone}
use Rattle.triple_store.proofs.overlay.leave_out_objects.Goals as goal

pub returns : goal.returns
returns c =
    filter_same _ (λ o. not (is_gone c.args.removed.now (record { s = c.args.s; p = c.args.p; o = o }))) _
    (λ x b f k. search rules)
    c.args.found.now.items c.retain.new.self.items c.retain.ensures.filtered
