use Rattle.std.proofs.Common.{rules, map, ap, ◌∙◌, ◌++◌}
use Rattle.edit_engine.proofs.StatedLemmas.{noted_new}
use Rattle.edit_engine.proofs.stated.note_new.Goals as goal

pub returns-in_ok-insert : goal.returns-in_ok-insert
returns-in_ok-insert c =
    ap (λ ts. c.args.pool.now.terms ++ map (λ term. term.now) ts) c.in_ok-insert.ensures.keys
    ∙ noted_new c.args.pool.now.terms c.args.term c.args.new.now.keys (search rules)
