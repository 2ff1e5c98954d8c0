use Rattle.std.specs.Prelude.{ℕ, List, length, slice_index, Vec, Option, Some, None, Result, Ok, Err}
use Rattle.std.specs.Prelude.{IfOk, IfSome}
use Rattle.std.specs.declared.alloc.Global.{Global}
use Rattle.std.proofs.Common.{refl, subst}
use Rattle.shape_order.specs.Chain.{IsCycle, IsLeastCycle}
use Rattle.shape_order.specs.Refs.{refs_of}
use Rattle.shape_order.specs.inner.Rising.{NeverFalls, RiseBelow}
use Rattle.shape_order.proofs.RisingLemmas.{least_by_numbers}
use Rattle.shape_order.proofs.cycles.cycle_by_numbers.Goals as goal

if_found : {E : Type 0} (refs : List (Vec ℕ Global)) (number : ℕ → ℕ) (shape : ℕ)
    → NeverFalls (refs_of refs) (length refs) number → RiseBelow (refs_of refs) number shape
    → (result : Result (Option (Vec ℕ Global)) E)
    → IfOk result (λ found. IfSome found (λ cycle. IsCycle (refs_of refs) shape cycle.items))
    → IfOk result (λ found. IfSome found (λ cycle. IsLeastCycle (refs_of refs) cycle.items))
if_found refs number shape never rise (Ok None) h = h
if_found refs number shape never rise (Ok (Some cycle)) is =
    least_by_numbers refs number never shape cycle.items rise is
if_found refs number shape never rise (Err fault) h = h

pub returns : goal.returns
returns c =
    let refs = c.args.refs.now in
    let to = refs_of refs in
    let numbers = c.in_ok-numbers.numbers.items in
    let shape = c.in-Some.shape in
    let never : NeverFalls to (length refs) (slice_index numbers) =
    subst (λ (ns : List ℕ). NeverFalls to (length refs) (slice_index ns)) c.deref.ensures.value
    (c.if-not-never_fall.ensures refl) in
    let rise : RiseBelow to (slice_index numbers) shape =
    subst (λ (ns : List ℕ). RiseBelow to (slice_index ns) shape) c.deref-2.ensures.value
    c.in-Some.ensures.below in
    if_found refs (slice_index numbers) shape never rise c.cycle_from.result c.cycle_from.ensures.cycle
