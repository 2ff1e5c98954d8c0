use Rattle.std.proofs.Common.{◌≡◌, ◌-◌, Some, false, get_or, refl, ap, sym, ◌∙◌, arith}
use Rattle.std.proofs.lemmas.Grind.{common_steps}
use Rattle.shx_term.specs.NumberForm.{is_digit}
use Rattle.value_space.proofs.DigitLemmas.{ten_to}
use Rattle.value_space.proofs.NumeralLemmas.{fraction_behind, no_rest, no_fraction, fraction_behind-is}
use Rattle.value_space.proofs.numeral.read_fraction.Goals as goal
use Rattle.value_space.proofs.numeral.read_fraction.Goals.{in_default, in_default-2, in_default-3}

pub pow-unit-requires : goal.pow-unit-requires
pow-unit-requires c = omega (arith, ten_to (c.args.places - 1) 37 (omega arith))

pub loop-rest-init : goal.loop-rest-init
loop-rest-init c = record {
  fraction = ap (λ unit. fraction_behind (Some 0) unit c.args.text.now) c.pow-unit.ensures;
  rest = refl;
  room =
      record {
        sum =
            omega (arith, c.pow-unit.ensures, ten_to (c.args.places - 1) 37 (omega arith));
        below =
            omega arith;
      };
}

stops : (c : goal.Joined-rest-lt1) → is_digit (get_or c.loop-rest.rest.now 0 0) ≡ false
stops c =
    elim c.if-rest-lt1.branch [
      | in_default w ↦ grind (arith, common_steps)
      | in_default-2 w ↦ grind (arith, common_steps)
      | in_default-3 w ↦ grind (arith, common_steps)
    ]

pub returns-clause-fraction : goal.returns-clause-fraction
returns-clause-fraction c =
    sym (no_fraction c.loop-rest.fraction c.loop-rest.unit c.loop-rest.rest.now (stops c))
    ∙ c.loop-rest.invariant.fraction ∙ fraction_behind-is c.args.places c.args.text.now (omega arith)

pub returns-clause-rest : goal.returns-clause-rest
returns-clause-rest c = sym (no_rest c.loop-rest.rest.now (stops c)) ∙ c.loop-rest.invariant.rest
