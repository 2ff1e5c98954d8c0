-- Reading a text from its opening on.
use Rattle.std.proofs.Common.{◌≡◌, ℕ, ◌+◌, ◌<◌, ◌≤◌, true, false, List, [], ◌++◌, length, Option}
use Rattle.std.proofs.Common.{Result, Ok, Err, IsErrAnd, refl, sym, ap, subst, ◌∙◌, inl, inr, arith}
use Rattle.std.proofs.Common.{length-append, append-nil}
use Rattle.std.proofs.lemmas.List.{nil_from_length}
use Rattle.std.specs.declared.vec.Vec.{Vec}
use Rattle.shx_outside.specs.declared.role.Role.{Role}
use Rattle.shx_outside.specs.Counted.{Rose, next_count}
use Rattle.shx_outside.specs.Outside.{InputState}
use Rattle.shx_outside.specs.Told.{Took, IsAtEnd, OthersStay, StaysAdmitted, SameTexts}
use Rattle.shx_outside.proofs.ToldLemmas.{Took-then, OthersStay-same, OthersStay-then, StaysAdmitted-then}
use Rattle.text_input.specs.declared.read_fault.ReadFault.{ReadFault}
use Rattle.text_input.specs.declared.read_fault.ReadFault.TheVariants.{TooLong, Input, Memory}
use Rattle.text_input.specs.TextRead.{ReadsWhole, IsTooLong, TakesWithin, HasInputCause, IsTextRead}
use Rattle.text_input.specs.inner.Rest.{StaysOpened, HasRead, IsRestRead}

SameTexts-then : {s0 s1 s2 : InputState} → SameTexts s0 s1 → SameTexts s1 s2 → SameTexts s0 s2
SameTexts-then first next = record { each = λ name. next.each name ∙ first.each name }

StaysOpened-then : {role : Role} {s0 s1 s2 : InputState} {a0 a1 a2 : Role → List ℕ → Type 0}
    → StaysOpened role s0 s1 a0 a1 → StaysOpened role s1 s2 a1 a2 → StaysOpened role s0 s2 a0 a2
StaysOpened-then first next = record {
  opened = next.opened;
  opens = next.opens ∙ first.opens;
  whole = next.whole ∙ first.whole;
  others = OthersStay-then first.others next.others;
  admitted = StaysAdmitted-then first.admitted next.admitted;
  texts = SameTexts-then first.texts next.texts;
}

Took-within : {told rest : Option (List ℕ)} (bytes : List ℕ) (most : ℕ)
    → Took told rest bytes → length bytes ≤ most + 1 → TakesWithin told rest most
Took-within bytes most took within = record {
  front = λ text is.
      let t = took.told text is in
      record { taken = bytes; left = t.0; whole = t.2; rest_is = t.1; within = within };
}

Took-whole : {told rest : Option (List ℕ)} (bytes : List ℕ) (most : ℕ)
    → Took told rest bytes → IsAtEnd rest → length bytes ≤ most → ReadsWhole told rest most bytes
Took-whole bytes most took end within = record {
  at_end = end;
  whole = λ text is.
      let t = took.told text is in
      sym (t.2 ∙ ap (λ rest. bytes ++ rest) (end.told t.0 t.1) ∙ append-nil bytes);
  within = within;
}

Took-longer : {told rest : Option (List ℕ)} (bytes : List ℕ) (most : ℕ)
    → Took told rest bytes → most < length bytes → IsTooLong told most
Took-longer bytes most took longer = record {
  longer = λ text is.
      let t = took.told text is in
      omega (arith, ap length t.2, length-append bytes t.0, longer);
}

pub stays_opened : {role : Role} {s0 s1 : InputState} {a0 a1 : Role → List ℕ → Type 0}
    → s1.opened role ≡ true → s1.opens role ≡ s0.opens role → s1.whole role ≡ s0.whole role
    → OthersStay role s0 s1 → StaysAdmitted a0 a1 → SameTexts s0 s1 → StaysOpened role s0 s1 a0 a1
stays_opened opened opens whole others admitted texts = record {
  opened = opened;
  opens = opens;
  whole = whole;
  others = others;
  admitted = admitted;
  texts = texts;
}

pub HasRead-start : (role : Role) (most : ℕ) (state : InputState) (admits : Role → List ℕ → Type 0)
    (bytes : List ℕ) → state.opened role ≡ true → bytes ≡ []
    → HasRead role most state state admits admits bytes
HasRead-start role most state admits bytes opened none = record {
  stays = record {
    opened = opened;
    opens = refl;
    whole = refl;
    others = OthersStay-same role state;
    admitted = record { each = λ x text admitted. admitted };
    texts = record { each = λ name. refl };
  };
  taken = record { told = λ left is. (left, is, sym (ap (λ xs. xs ++ left) none)) };
  quiet = refl;
  within = omega (arith, ap length none);
}

module _ {role : Role} {most : ℕ} {s0 s1 s2 : InputState} {a0 a1 a2 : Role → List ℕ → Type 0}
    (bytes : List ℕ) (has : HasRead role most s0 s1 a0 a1 bytes) (stays : StaysOpened role s1 s2 a1 a2)
  where
    -- the inputs failed, and took nothing
    pub IsRestRead-failed : {T : Type 0} (result : Result T ReadFault)
        → s2.rest role ≡ s1.rest role → Rose s1.faults s2.faults → IsErrAnd result (λ fault. fault ≡ Input)
        → IsRestRead role most s0 s2 a0 a2 bytes result
    IsRestRead-failed (Ok value) same rose is = absurd is
    IsRestRead-failed (Err fault) same rose is = rw is record {
      stays = StaysOpened-then has.stays stays;
      read = tt;
      too_long = λ is. cc;
      within =
          subst (λ rest. TakesWithin (s0.rest role) rest most) (sym same)
          (Took-within bytes most has.taken (omega (arith, has.within)));
      cause = subst (λ n. Rose n s2.faults) has.quiet rose;
    }

    module _ (piece : List ℕ) (took : Took (s1.rest role) (s2.rest role) piece)
        (quiet : s2.faults ≡ s1.faults)
      where
        taken : Took (s0.rest role) (s2.rest role) (bytes ++ piece)
        taken = Took-then has.taken took

        -- nothing was left
        pub IsRestRead-whole : {T : Type 0} (value : T) → length piece ≡ 0 → IsAtEnd (s2.rest role)
            → IsRestRead role most s0 s2 a0 a2 bytes (Ok value)
        IsRestRead-whole value none end = record {
          stays = StaysOpened-then has.stays stays;
          read = Took-whole bytes most whole_taken end has.within;
          too_long = tt;
          within = Took-within bytes most whole_taken (omega (arith, has.within));
          cause = quiet ∙ has.quiet;
        } where
          whole_taken : Took (s0.rest role) (s2.rest role) bytes
          whole_taken =
              subst (Took (s0.rest role) (s2.rest role))
              (ap (λ xs. bytes ++ xs) (nil_from_length piece none) ∙ append-nil bytes) taken

        pub IsRestRead-memory : {T : Type 0} (bytes' : List ℕ) (result : Result T ReadFault)
            → length bytes + length piece ≤ most + 1 → IsErrAnd result (λ fault. fault ≡ Memory)
            → IsRestRead role most s0 s2 a0 a2 bytes' result
        IsRestRead-memory bytes' (Ok value) within is = absurd is
        IsRestRead-memory bytes' (Err fault) within is = rw is record {
          stays = StaysOpened-then has.stays stays;
          read = tt;
          too_long = λ is. cc;
          within =
              Took-within (bytes ++ piece) most taken (omega (arith, length-append bytes piece, within));
          cause = quiet ∙ has.quiet;
        }

        module _ (bytes' : List ℕ) (all : bytes' ≡ bytes ++ piece) where
          all_taken : Took (s0.rest role) (s2.rest role) bytes'
          all_taken = subst (Took (s0.rest role) (s2.rest role)) (sym all) taken

          pub IsRestRead-longer : {T : Type 0} → most < length bytes' → length bytes' ≤ most + 1
              → IsRestRead {T = T} role most s0 s2 a0 a2 bytes' (Err TooLong)
          IsRestRead-longer longer within = record {
            stays = StaysOpened-then has.stays stays;
            read = tt;
            too_long = λ _. Took-longer bytes' most all_taken longer;
            within = Took-within bytes' most all_taken within;
            cause = quiet ∙ has.quiet;
          }

          pub HasRead-on : length bytes' ≤ most → HasRead role most s0 s2 a0 a2 bytes'
          HasRead-on within = record {
            stays = StaysOpened-then has.stays stays;
            taken = all_taken;
            quiet = quiet ∙ has.quiet;
            within = within;
          }

-- ---- from the opening on

-- the text of a name was opened for a role
pub record HasOpened (role : Role) (name : List ℕ) (before after : InputState)
    (admits admits' : Role → List ℕ → Type 0) : Type 0 where
  pub opens : after.opens role ≡ next_count (before.opens role)
  pub whole : after.whole role ≡ before.text name
  pub rest : after.rest role ≡ before.text name
  pub quiet : after.faults ≡ before.faults
  pub others : OthersStay role before after
  pub admitted : StaysAdmitted admits admits'
  pub texts : SameTexts before after

-- the same count, for an answer of another type
same_cause : (T U : Type 0) (before now : ℕ) (fault : ReadFault)
    → HasInputCause {T = T} before now (Err fault) → HasInputCause {T = U} before now (Err fault)
same_cause T U before now TooLong cause = cause
same_cause T U before now Input cause = cause
same_cause T U before now Memory cause = cause

less_than_itself : (m n : ℕ) → n ≡ m → m < n → ⊥
less_than_itself m n same more = omega (arith, same, more)

-- the inputs did not open it
pub IsTextRead-closed : {Z : Type 0} {role : Role} {s0 s1 : InputState} {a0 a1 : Role → List ℕ → Type 0}
    (name : List ℕ) (most : ℕ) (result : Result (Vec ℕ Z) ReadFault)
    → s1.opened role ≡ false → s1.opens role ≡ s0.opens role → Rose s0.faults s1.faults
    → OthersStay role s0 s1 → StaysAdmitted a0 a1 → SameTexts s0 s1 → IsErrAnd result (λ fault. fault ≡ Input)
    → IsTextRead role name most s0 s1 a0 a1 result
IsTextRead-closed name most (Ok bytes) closed opens rose others admitted texts is = absurd is
IsTextRead-closed {role = role} {s0 = s0} {s1 = s1} name most (Err fault) closed opens rose others admitted
    texts is =
    rw is record {
      read = tt;
      too_long = λ is. cc;
      within = λ opened. cc;
      within_opened = λ more. absurd (less_than_itself (s0.opens role) (s1.opens role) opens more);
      opens = record { at_most = inl opens; opened = λ other. absurd (other refl) };
      whole = λ more. absurd (less_than_itself (s0.opens role) (s1.opens role) opens more);
      whole_opened = λ opened. cc;
      opened = λ other. absurd (other refl);
      cause = rose;
      others = others;
      admitted = admitted;
      texts = texts;
    }

within_told : {told told' rest : Option (List ℕ)} (most : ℕ)
    → told ≡ told' → TakesWithin told rest most → TakesWithin told' rest most
within_told {rest = rest} most is within = subst (λ told. TakesWithin told rest most) is within

module _ {role : Role} {s0 s1 s2 : InputState} {a0 a1 a2 : Role → List ℕ → Type 0} {Z : Type 0} {T : Type 0}
    (name : List ℕ) (most : ℕ) (has : HasOpened role name s0 s1 a0 a1)
  where
    -- and it was read to its end
    pub IsTextRead-whole : (value : T) (bytes : Vec ℕ Z)
        → IsRestRead role most s1 s2 a1 a2 bytes.items (Ok value)
        → IsTextRead role name most s0 s2 a0 a2 (Ok bytes)
    IsTextRead-whole value bytes rest = record {
      read = subst (λ told. ReadsWhole told (s2.rest role) most bytes.items) has.rest rest.read;
      too_long = tt;
      within = λ _. within_told most has.rest rest.within;
      within_opened = λ _. within_told most has.rest rest.within;
      opens = record {
        at_most = inr (rest.stays.opens ∙ has.opens);
        opened = λ _. rest.stays.opens ∙ has.opens;
      };
      whole = λ _. rest.stays.whole ∙ has.whole;
      whole_opened = λ _. rest.stays.whole ∙ has.whole;
      opened = λ _. rest.stays.opened;
      cause = rest.cause ∙ has.quiet;
      others = OthersStay-then has.others rest.stays.others;
      admitted = StaysAdmitted-then has.admitted rest.stays.admitted;
      texts = SameTexts-then has.texts rest.stays.texts;
    }

    -- or not to its end
    pub IsTextRead-part : (fault : ReadFault) (bytes : List ℕ) (result : Result (Vec ℕ Z) ReadFault)
        → IsRestRead {T = T} role most s1 s2 a1 a2 bytes (Err fault)
        → IsErrAnd result (λ told. told ≡ fault)
        → IsTextRead role name most s0 s2 a0 a2 result
    IsTextRead-part fault bytes (Ok value) rest is = absurd is
    IsTextRead-part fault bytes (Err told) rest is = rw is record {
      read = tt;
      too_long = λ is. subst (λ told. IsTooLong told most) has.rest (rest.too_long is);
      within = λ _. within_told most has.rest rest.within;
      within_opened = λ _. within_told most has.rest rest.within;
      opens = record {
        at_most = inr (rest.stays.opens ∙ has.opens);
        opened = λ _. rest.stays.opens ∙ has.opens;
      };
      whole = λ _. rest.stays.whole ∙ has.whole;
      whole_opened = λ _. rest.stays.whole ∙ has.whole;
      opened = λ _. rest.stays.opened;
      cause = subst (λ n. HasInputCause {T = Vec ℕ Z} n s2.faults (Err fault)) has.quiet
          (same_cause T (Vec ℕ Z) s1.faults s2.faults fault rest.cause);
      others = OthersStay-then has.others rest.stays.others;
      admitted = StaysAdmitted-then has.admitted rest.stays.admitted;
      texts = SameTexts-then has.texts rest.stays.texts;
    }
