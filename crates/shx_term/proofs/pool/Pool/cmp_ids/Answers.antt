use Rattle.std.proofs.Common.{◌≡◌, Equal, sym, subst}
use Rattle.std.specs.Cmp.{tied_itself}
use Rattle.shx_term.specs.IdOrder.{id_cmp}
use Rattle.shx_term.proofs.IdOrderLemmas.{id_cmp_total}
use Rattle.shx_term.proofs.pool.Pool.cmp_ids.Goals as goal

pub returns-then-a-b : goal.returns-then-a-b
returns-then-a-b c =
    let cmp = id_cmp c.args.self.now.terms in
    sym (subst (λ b. cmp c.args.a b ≡ Equal) c.if-a-b.true
    (tied_itself (id_cmp_total c.args.self.now.terms) c.args.a))
