use Rattle.std.proofs.Common.{refl, ◌∙◌}
use Rattle.std.proofs.lemmas.Result.{on_ok_weaker}
use Rattle.path_eval.specs.declared.wider.Wider.{Wider}
use Rattle.path_eval.proofs.WiderLemmas.{Follows-met}
use Rattle.path_eval.proofs.wider.Climb.follow.Goals as goal

pub returns : goal.returns
returns g c =
    let old = c.args.self.now.wider in
    let mid : Wider = record { classes = old.classes; reads = c.step.new.reads } in
    on_ok_weaker c.meet_all.result
    (Follows-met (g.V.GraphView.graph c.args.view.now) c.requires.terms c.args.known.now.entries
    c.requires.known c.args.class old mid c.meet_all.new.self.wider c.deref.result.now
    (c.deref.ensures.value ∙ c.in_ok-above.ensures.found) refl c.in_ok-above.ensures.reads)
    c.meet_all.ensures
