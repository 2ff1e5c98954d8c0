use Rattle.std.proofs.Common.{◌≡◌, sym, subst, ◌<◌, ◌≤◌, length, arith}
use Rattle.std.specs.Prelude.{Result, Ok, Err, IfErr}
use Rattle.graph_view.specs.declared.edit.StoreFault.TheVariants.{Memory}
use Rattle.graph_view.specs.Graph.{Graph, IsKnownTriple}
use Rattle.graph_view.specs.ListGraph.{plain_graph}
use Rattle.graph_view.specs.Patched.{patched, IsPatch}
use Rattle.graph_view.proofs.ExchangeLemmas.{SameMembers-exchanged, All-exchanged}
use Rattle.graph_view.proofs.ExchangeLemmas.{length-removed, length-exchanged, count-exchanged}
use Rattle.triple_store.proofs.store.StoreGraphEdit.exchange.Goals as goal

each_refusal : {X F : Type 0} (result : Result X F) (P : F → Type 0) → ((fault : F) → P fault)
    → IfErr result P
each_refusal (Ok x) P each = tt
each_refusal (Err fault) P each = each fault

pub overflow_sub-left : goal.overflow_sub-left
overflow_sub-left c =
    let g : Graph = record { terms = c.self.inside.pool.terms; triples = c.self.inside.indexes } in
    let added = c.args.added.now in
    let removed = c.args.removed.now in
    let patch = subst (λ v. IsPatch (plain_graph v) added removed) (sym c.self.view_is) c.requires.patch in
    rw c.len.ensures.count (length-removed g added removed patch c.len.ensures.distinct)

pub returns-then-added-self-clause-full : goal.returns-then-added-self-clause-full
returns-then-added-self-clause-full c =
    let g : Graph = record { terms = c.self.inside.pool.terms; triples = c.self.inside.indexes } in
    let added = c.args.added.now in
    let removed = c.args.removed.now in
    let patch = subst (λ v. IsPatch (plain_graph v) added removed) (sym c.self.view_is) c.requires.patch in
    let fewer = length-removed g added removed patch c.len.ensures.distinct in
    let whole = length-exchanged g added removed patch c.len.ensures.distinct in
    let over : c.self.inside.limit < length (patched g added removed).triples =
    omega (arith, fewer, whole, c.len.ensures.count, c.if-added-self.true, c.self.invariant.1) in
    rw (← c.self.view_is) (λ _. over)

pub returns-in_err-insert_all-clause-memory : goal.returns-in_err-insert_all-clause-memory
returns-in_err-insert_all-clause-memory c =
    let g : Graph = record { terms = c.self.inside.pool.terms; triples = c.self.inside.indexes } in
    let added = c.args.added.now in
    let removed = c.args.removed.now in
    let patch = subst (λ v. IsPatch (plain_graph v) added removed) (sym c.self.view_is) c.requires.patch in
    let fewer = length-removed g added removed patch c.len.ensures.distinct in
    let whole = length-exchanged g added removed patch c.len.ensures.distinct in
    let within : length (patched g added removed).triples ≤ c.self.inside.limit =
    omega (arith, fewer, whole, c.len.ensures.count, c.if-added-self.false, c.self.invariant.1) in
    rw (← c.self.view_is)
    (each_refusal c.from_residual.result
    (λ fault. fault ≡ Memory → length (patched g added removed).triples ≤ c.self.inside.limit)
    (λ fault _. within))

pub returns-clause-room : goal.returns-clause-room
returns-clause-room c =
    let g : Graph = record { terms = c.self.inside.pool.terms; triples = c.self.inside.indexes } in
    let added = c.args.added.now in
    let removed = c.args.removed.now in
    let patch = subst (λ v. IsPatch (plain_graph v) added removed) (sym c.self.view_is) c.requires.patch in
    let fewer = length-removed g added removed patch c.len.ensures.distinct in
    let whole = length-exchanged g added removed patch c.len.ensures.distinct in
    let within : length (patched g added removed).triples ≤ c.self.inside.limit =
    omega (arith, fewer, whole, c.len.ensures.count, c.if-added-self.false, c.self.invariant.1) in
    rw (← c.self.view_is) within

pub returns-clause-exchanged : goal.returns-clause-exchanged
returns-clause-exchanged c =
    let g : Graph = record { terms = c.self.inside.pool.terms; triples = c.self.inside.indexes } in
    let added = c.args.added.now in
    let removed = c.args.removed.now in
    let patch = subst (λ v. IsPatch (plain_graph v) added removed) (sym c.self.view_is) c.requires.patch in
    let new = c.remove_all.new.self in
    rw (← c.self.view_is)
    (SameMembers-exchanged g added removed patch c.insert_all.new.self new c.in_ok-insert_all.ensures.added
    c.remove_all.ensures.left)

pub returns-clause-count : goal.returns-clause-count
returns-clause-count c =
    let g : Graph = record { terms = c.self.inside.pool.terms; triples = c.self.inside.indexes } in
    let added = c.args.added.now in
    let removed = c.args.removed.now in
    let patch = subst (λ v. IsPatch (plain_graph v) added removed) (sym c.self.view_is) c.requires.patch in
    let new = c.remove_all.new.self in
    let same =
    SameMembers-exchanged g added removed patch c.insert_all.new.self new c.in_ok-insert_all.ensures.added
    c.remove_all.ensures.left in
    rw (← c.self.view_is)
    (count-exchanged g added removed patch c.len.ensures.distinct new same c.len-2.ensures.distinct)

pub invariant_of-self-2 : goal.invariant_of-self-2
invariant_of-self-2 c =
    let g : Graph = record { terms = c.self.inside.pool.terms; triples = c.self.inside.indexes } in
    let added = c.args.added.now in
    let removed = c.args.removed.now in
    let patch = subst (λ v. IsPatch (plain_graph v) added removed) (sym c.self.view_is) c.requires.patch in
    let new = c.remove_all.new.self in
    let same =
    SameMembers-exchanged g added removed patch c.insert_all.new.self new c.in_ok-insert_all.ensures.added
    c.remove_all.ensures.left in
    let once = c.len.ensures.distinct in
    let fewer = length-removed g added removed patch once in
    let whole = length-exchanged g added removed patch once in
    let count = count-exchanged g added removed patch once new same c.len-2.ensures.distinct in (
      All-exchanged g added removed patch (IsKnownTriple g.terms) c.self.invariant.0 patch.added_known new
          same,
      omega (arith, fewer, whole, count, c.len.ensures.count, c.if-added-self.false, c.self.invariant.1),
      c.self.invariant.2,
    )

pub insert_all-requires : goal.insert_all-requires
insert_all-requires c =
    let added = c.args.added.now in
    let patch =
    subst (λ v. IsPatch (plain_graph v) added c.args.removed.now) (sym c.self.view_is) c.requires.patch in
    record { absent = patch.added_absent }
