-- Work adds up, and no count falls by it.
use Rattle.std.proofs.Common.{◌≡◌, ◌∙◌, arith, ap, sym}
use Rattle.script_run.specs.Work.{NoneFell, Work, and_then, no_work}

-- works with the same counts are one
pub same_work : (a b : Work) → a.evaluated ≡ b.evaluated → a.nested ≡ b.nested → a ≡ b
same_work a b evaluated nested = λ i. record { evaluated = evaluated i; nested = nested i }

pub and_then_assoc : (first more later : Work)
    → and_then (and_then first more) later ≡ and_then first (and_then more later)
and_then_assoc first more later =
    same_work (and_then (and_then first more) later) (and_then first (and_then more later)) (omega arith)
    (omega arith)

pub and_then-no_work : (work : Work) → and_then work no_work ≡ work
and_then-no_work work = same_work (and_then work no_work) work (omega arith) (omega arith)

pub no_work-and_then : (work : Work) → and_then no_work work ≡ work
no_work-and_then work = same_work (and_then no_work work) work (omega arith) (omega arith)

-- where nothing more was done, no work was
pub still_work : (before after : Work) → after ≡ before → after ≡ and_then before no_work
still_work before after same = same ∙ sym (and_then-no_work before)

pub NoneFell-itself : (work : Work) → NoneFell work work
NoneFell-itself work = record { evaluated = omega arith; nested = omega arith }

-- work was done between
pub NoneFell-by : (before after work : Work) → after ≡ and_then before work → NoneFell before after
NoneFell-by before after work is =
    let evaluated = ap (λ (w : Work). w.evaluated) is in
    let nested = ap (λ (w : Work). w.nested) is in
    record { evaluated = omega (arith, evaluated); nested = omega (arith, nested) }

pub NoneFell-then : {before within after : Work} → NoneFell before within → NoneFell within after
    → NoneFell before after
NoneFell-then first later = record {
  evaluated = omega (arith, first.evaluated, later.evaluated);
  nested = omega (arith, first.nested, later.nested);
}

-- what was done in two steps was done in one
pub work_then : (before within after first later : Work) → within ≡ and_then before first
    → after ≡ and_then within later → after ≡ and_then before (and_then first later)
work_then before within after first later one two =
    two ∙ ap (λ (w : Work). and_then w later) one ∙ and_then_assoc before first later
