-- What several calls of inputs or of a sink add up to.
use Rattle.std.proofs.Common.{ℕ, ◌+◌, List, [], ◌++◌, Option, Some, refl, sym, ap, ◌∙◌, arith}
use Rattle.std.proofs.Common.{append_assoc, append-nil}
use Rattle.shx_outside.specs.declared.role.Role.{Role}
use Rattle.shx_outside.specs.Outside.{InputState}
use Rattle.shx_outside.specs.Told.{Grew, Fell, Took, StaysAdmitted, OthersStay}

pub Grew-none : (held : Option (List ℕ)) → Grew held held []
Grew-none held = record { told = λ xs is. is ∙ ap Some (sym (append-nil xs)) }

pub Grew-then : {h0 h1 h2 : Option (List ℕ)} {xs ys : List ℕ}
    → Grew h0 h1 xs → Grew h1 h2 ys → Grew h0 h2 (xs ++ ys)
Grew-then {xs = xs} {ys = ys} first next = record {
  told = λ held is. next.told (held ++ xs) (first.told held is) ∙ ap Some (append_assoc held xs ys);
}

pub Fell-none : (room : Option ℕ) → Fell room room 0
Fell-none room = record { told = λ n is. (n, is, omega arith) }

pub Fell-then : {r0 r1 r2 : Option ℕ} {m n : ℕ} → Fell r0 r1 m → Fell r1 r2 n → Fell r0 r2 (m + n)
Fell-then first next = record {
  told = λ room is.
      let one = first.told room is in
      let two = next.told one.0 one.1 in
      (two.0, two.1, omega arith);
}

pub Took-then : {r0 r1 r2 : Option (List ℕ)} {xs ys : List ℕ}
    → Took r0 r1 xs → Took r1 r2 ys → Took r0 r2 (xs ++ ys)
Took-then {xs = xs} {ys = ys} first next = record {
  told = λ left is.
      let one = first.told left is in
      let two = next.told one.0 one.1 in
      (two.0, two.1, one.2 ∙ ap (λ rest. xs ++ rest) two.2 ∙ sym (append_assoc xs ys two.0));
}

pub OthersStay-same : (role : Role) (state : InputState) → OthersStay role state state
OthersStay-same role state = record {
  opened = λ other apart. refl;
  opens = λ other apart. refl;
  whole = λ other apart. refl;
  rest = λ other apart. refl;
}

pub OthersStay-then : {role : Role} {s0 s1 s2 : InputState}
    → OthersStay role s0 s1 → OthersStay role s1 s2 → OthersStay role s0 s2
OthersStay-then first next = record {
  opened = λ other apart. next.opened other apart ∙ first.opened other apart;
  opens = λ other apart. next.opens other apart ∙ first.opens other apart;
  whole = λ other apart. next.whole other apart ∙ first.whole other apart;
  rest = λ other apart. next.rest other apart ∙ first.rest other apart;
}

pub StaysAdmitted-then : {X : Type 0} {a0 a1 a2 : X → List ℕ → Type 0}
    → StaysAdmitted a0 a1 → StaysAdmitted a1 a2 → StaysAdmitted a0 a2
StaysAdmitted-then first next =
    record { each = λ x text admitted. next.each x text (first.each x text admitted) }
