use Rattle.std.proofs.Common.{refl, sym}
use Rattle.std.proofs.lemmas.Result.{on_ok_weaker}
use Rattle.path_eval.specs.declared.wider.Wider.{Wider}
use Rattle.path_eval.proofs.SuperclassLemmas.{found_wider}
use Rattle.path_eval.proofs.WiderLemmas.{Meets-known, Meets-new}
use Rattle.path_eval.proofs.wider.Climb.meet.Goals as goal

pub returns-then-is_read : goal.returns-then-is_read
returns-then-is_read c =
    let old = c.args.self.now.wider in
    let mid : Wider = record { classes = c.insert.new.self; reads = old.reads } in
    Meets-new c.args.known.now.entries c.args.class old mid c.in_ok-insert.ensures.keys refl

pub returns-in-Some : goal.returns-in-Some
returns-in-Some c =
    let old = c.args.self.now.wider in
    let class = c.args.class in
    let known = c.args.known.now.entries in
    let wider = c.in-Some.wider.now in
    let mid : Wider = record { classes = c.insert.new.self; reads = old.reads } in
    on_ok_weaker c.take_over.result
    (Meets-known known class old mid c.in_ok-insert.ensures.keys refl wider c.take_over.new.self.wider
    (λ g right. found_wider g known right class wider (sym c.in-Some.ensures.value)))
    c.take_over.ensures

pub returns-in-None : goal.returns-in-None
returns-in-None c =
    let old = c.args.self.now.wider in
    let mid : Wider = record { classes = c.insert.new.self; reads = old.reads } in
    Meets-new c.args.known.now.entries c.args.class old mid c.in_ok-insert.ensures.keys refl
