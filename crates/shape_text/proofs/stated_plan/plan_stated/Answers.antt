use Rattle.shx_term.specs.Triple.{same_triple}
use Rattle.shape_decl.proofs.ListLemmas.{IsDistinct-empty}
use Rattle.shape_text.proofs.StatedLemmas.{IsPatch-stated}
use Rattle.shape_text.proofs.stated_plan.plan_stated.Goals as goal

pub new-nothing-requires-clause-distinct : goal.new-nothing-requires-clause-distinct
new-nothing-requires-clause-distinct g c = IsDistinct-empty same_triple

pub new-requires-clause-patch : goal.new-requires-clause-patch
new-requires-clause-patch g c =
    rw (c.new-nothing.ensures.graph, c.deref.ensures.value, c.in_ok-stated.ensures)
    (IsPatch-stated c.args.pool.now.terms c.args.triples.now c.requires.known)
