use Rattle.value_space.specs.Values.{value_of}
use Rattle.value_space.proofs.OrderLemmas.{numbers-comparable, numbers-total}
use Rattle.value_space.proofs.laws.numbers_are_ordered.Goals as goal

pub returns-clause-comparable : goal.returns-clause-comparable
returns-clause-comparable c =
    numbers-comparable c.args.a.now.lexical c.args.b.now.lexical (value_of c.args.a.now)
    (value_of c.args.b.now)

pub returns-clause-total : goal.returns-clause-total
returns-clause-total c =
    numbers-total c.args.a.now.lexical c.args.b.now.lexical (value_of c.args.a.now) (value_of c.args.b.now)
