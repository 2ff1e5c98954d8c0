use Rattle.path_eval.proofs.WiderLemmas.{TakesOver-all}
use Rattle.path_eval.proofs.wider.Climb.take_over.Goals as goal

pub returns : goal.returns
returns c =
    TakesOver-all c.args.known.now c.args.self.now.wider c.add_all.new.self c.in_ok-add_all.ensures.classes
    c.in_ok-add_all.ensures.reads
