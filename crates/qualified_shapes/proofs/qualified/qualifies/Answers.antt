use Rattle.std.proofs.Common.{arith}
use Rattle.std.specs.Prelude.{flat_map}
use Rattle.std.proofs.lemmas.Grind.{common_steps}
use Rattle.shx_term.proofs.MemberLemmas.{All_head, All_tail}
use Rattle.comp_core.specs.Asking.{conforms, pair_of, pairs_at}
use Rattle.comp_core.proofs.CountLemmas.{none_counted}
use Rattle.qualified_shapes.proofs.qualified.qualifies.Goals as goal

pub conforms-requires : goal.conforms-requires
conforms-requires g c =
    All_head (g.C.Conform.holds c.args.conform.now) (pair_of c.args.node c.args.shape)
    (pairs_at c.args.siblings.now c.args.node) c.requires

pub conforming-requires : goal.conforming-requires
conforming-requires g c =
    All_tail (g.C.Conform.holds c.args.conform.now) (pair_of c.args.node c.args.shape)
    (pairs_at c.args.siblings.now c.args.node) c.requires

pub returns-then-is_own-clause-answer : goal.returns-then-is_own-clause-answer
returns-then-is_own-clause-answer g c =
    grind (
      arith,
      common_steps,
      none_counted (conforms (g.C.Conform.rows_of c.args.conform.now) c.args.node) c.args.siblings.now,
    )

pub returns-then-is_own-clause-reads : goal.returns-then-is_own-clause-reads
returns-then-is_own-clause-reads g c =
    λ r told.
    g.met.C.Noted.Notes.laws.then (r (pair_of c.args.node c.args.shape))
    (flat_map r (pairs_at c.args.siblings.now c.args.node)) (c.in_ok-is_own.ensures.reads r told)
    (c.in_ok-others.ensures.reads r told)

pub returns-else-is_own-clause-reads : goal.returns-else-is_own-clause-reads
returns-else-is_own-clause-reads g c =
    λ r told.
    g.met.C.Noted.Notes.laws.then (r (pair_of c.args.node c.args.shape))
    (flat_map r (pairs_at c.args.siblings.now c.args.node)) (c.in_ok-is_own.ensures.reads r told)
    (c.in_ok-others.ensures.reads r told)
