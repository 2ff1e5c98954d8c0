use Rattle.std.proofs.Common.{append-nil, refl}
use Rattle.shape_compile.proofs.RouteLemmas.{no_predicate}
use Rattle.shape_compile.proofs.closed.add_if_predicate.Goals as goal

pub returns-in_default : goal.returns-in_default
returns-in_default c = rw (no_predicate c.args.path.now c.in_default.not-Pred, append-nil) refl
