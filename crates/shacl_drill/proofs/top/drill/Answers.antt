use Rattle.std.proofs.Common.{refl, inl}
use Rattle.shacl_drill.proofs.DrillLemmas.{drilled, drilled_none, drilled_size}
use Rattle.shacl_drill.proofs.top.drill.Goals as goal

pub returns-in-Ok : goal.returns-in-Ok
returns-in-Ok g c =
    let told = rw c.bytes.ensures at c.tell.ensures in
    drilled_size c.args.words.now c.in-Some.size _ _ c.tell.result c.in-Some.ensures.some
    (drilled c.in-Some.size c.in-Ok.ended c.tell.result c.new-sink.result c.run_over.new.sink _ _ _ _ _ _ _ _
    c.new-sink.ensures.bytes c.in-Ok.ensures.ran told)

pub returns-in_default : goal.returns-in_default
returns-in_default g c =
    drilled_none c.args.words.now _ _ c.tell_usage.result c.in_default.ensures.none c.tell_usage.ensures

pub returns : goal.returns
returns g c =
    drilled_size c.args.words.now c.in-Some.size _ _ _ c.in-Some.ensures.some
    (inl (record { status_is = refl; nothing_put = refl }))
