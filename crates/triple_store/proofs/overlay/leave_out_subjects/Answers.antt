use Rattle.std.proofs.Common.{rules}
use Rattle.std.specs.Prelude.{not}
use Rattle.std.proofs.lemmas.Fn.{filter_same}
use Rattle.triple_store.proofs.OverlayLemmas.{is_gone}
use Rattle.triple_store.proofs.overlay.leave_out_subjects.Goals as goal

pub returns : goal.returns
returns c =
    filter_same _ (λ s. not (is_gone c.args.removed.now (record { s = s; p = c.args.p; o = c.args.o }))) _
    (λ x b f k. search rules)
    c.args.found.now.items c.retain.new.self.items c.retain.ensures.filtered
