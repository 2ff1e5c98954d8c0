use Rattle.read_records.proofs.FiledLemmas.{HoldSame-each}
use Rattle.read_records.proofs.gathered.ByKind+PostingList.in_order.Goals as goal

pub returns : goal.returns
returns c =
    HoldSame-each c.args.self c.in_ok-in_order.ensures c.in_ok-in_order-2.ensures c.in_ok-in_order-3.ensures
    c.in_ok-in_order-4.ensures c.in_ok-in_order-5.ensures
