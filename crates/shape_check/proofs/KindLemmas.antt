-- Literals whose value is out of reach: no boolean is one, and an integer that is one is well typed.
use Rattle.std.specs.Prelude.{◌≡◌, ℕ, Bool, true, false, ◌&&◌, List, Option, Some, None, codes, nat_eq}
use Rattle.std.specs.Prelude.{if◌then◌else◌}
use Rattle.std.specs.Cmp.{first_so}
use Rattle.std.specs.Cmp.Lexicographic.{pointwise}
use Rattle.std.proofs.Common.{refl, sym, ap, ◌∙◌}
use Rattle.std.proofs.lemmas.Bool.Decides.{Decides-eqb}
use Rattle.std.proofs.lemmas.Slice.Eq.{slice_eq-Decides}
use Rattle.shx_term.specs.declared.term.Literal.{Literal}
use Rattle.shx_term.specs.Datatypes.{datatypes, xsd}
use Rattle.shx_term.specs.NumberForm.{is_integer_form, is_wide_number}
use Rattle.shx_term.specs.WideLiterals.{is_wide}
use Rattle.value_space.specs.Numbers.{fraction_of, is_negative, whole_of}
use Rattle.value_space.specs.Values.{has_datatype, is_well_typed, number_value, value_of}
use Rattle.value_space.specs.declared.value.Value.{Value}
use Rattle.value_space.specs.declared.value.Value.TheVariants.{IllTyped, Num, Bool as Truth}
use Rattle.shape_check.specs.Laws.{BooleansHaveTruthValues, IntegersAreNumbers}

same_text : (a b : List ℕ) → pointwise nat_eq a b ≡ true → a ≡ b
same_text a b h = (slice_eq-Decides Decides-eqb a b (pointwise nat_eq a b) refl).0 h

narrow : (text iri : List ℕ) (tag : Option (List ℕ)) → iri ≡ xsd (codes "boolean")
    → is_wide (record { lexical = text; datatype = iri; tag = tag }) ≡ false
unfolding datatypes
narrow text iri None e = ap (λ i. is_wide (record { lexical = text; datatype = i; tag = None })) e
narrow text iri (Some tag) e = refl

pub boolean_is_narrow : (literal : Literal)
    → pointwise nat_eq literal.datatype (xsd (codes "boolean")) ≡ true → is_wide literal ≡ false
boolean_is_narrow literal h =
    narrow literal.lexical literal.datatype literal.tag (same_text literal.datatype (xsd (codes "boolean")) h)

typed : (text iri : List ℕ) (tag : Option (List ℕ)) → iri ≡ xsd (codes "integer")
    → is_wide (record { lexical = text; datatype = iri; tag = tag }) ≡ true
    → is_well_typed (value_of (record { lexical = text; datatype = iri; tag = tag })) ≡ true
unfolding datatypes
typed text iri None e wide =
    let form : is_integer_form text ≡ true =
    first_so (is_integer_form text) (is_wide_number text)
    (sym (ap (λ i. is_wide (record { lexical = text; datatype = i; tag = None })) e) ∙ wide) in
    ap (λ i. is_well_typed (value_of (record { lexical = text; datatype = i; tag = None }))) e
    ∙ ap (λ b. is_well_typed (if b && true then number_value text else IllTyped)) form
typed text iri (Some tag) e wide = refl

pub wide_integer-well_typed : (literal : Literal)
    → pointwise nat_eq literal.datatype (xsd (codes "integer")) ≡ true → is_wide literal ≡ true
    → is_well_typed (value_of literal) ≡ true
wide_integer-well_typed literal h =
    typed literal.lexical literal.datatype literal.tag (same_text literal.datatype (xsd (codes "integer")) h)

-- ---- the values of those that are accepted

same_datatype : (literal : Literal) (name : List ℕ) → literal.tag ≡ None
    → has_datatype literal (xsd name) ≡ true
    → (value_of literal ≡ value_of (record { lexical = literal.lexical; datatype = xsd name; tag = None }))
    × (is_well_typed (value_of literal) ≡ true)
same_datatype literal name none is =
    let named =
    both_first (pointwise nat_eq literal.datatype (xsd name)) (is_well_typed (value_of literal)) is in
    let datatype = same_text literal.datatype (xsd name) named.0 in (
      ap (λ tag. value_of (record { lexical = literal.lexical; datatype = literal.datatype; tag = tag })) none
          ∙ ap (λ iri. value_of (record { lexical = literal.lexical; datatype = iri; tag = None })) datatype,
      named.1,
    )
  where
    both_first : (a b : Bool) → a && b ≡ true → (a ≡ true) × (b ≡ true)
    both_first true b e = (refl, e)
    both_first false b e = cc

truth_among : (one other : Bool) (value : Value) → value ≡ (if one then Truth true
    else (if other then Truth false else IllTyped)) → is_well_typed value ≡ true
    → (truth : Bool) × (value ≡ Truth truth)
truth_among true other value is typed = (true, is)
truth_among false true value is typed = (false, is)
truth_among false false value is typed =
    let wrong : false ≡ true = sym (ap is_well_typed is) ∙ typed in
    cc

number_among : (fits : Bool) (text : List ℕ) (value : Value)
    → value ≡ (if fits then number_value text else IllTyped)
    → is_well_typed value ≡ true
    → (negative : Bool) × (whole : ℕ) × (fraction : ℕ) × (value ≡ Num negative whole fraction)
number_among true text value is typed = (is_negative text, whole_of text, fraction_of text, is)
number_among false text value is typed =
    let wrong : false ≡ true = sym (ap is_well_typed is) ∙ typed in
    cc

pub boolean_value : BooleansHaveTruthValues
unfolding datatypes
boolean_value literal none is =
    let found = same_datatype literal (codes "boolean") none is in
    truth_among _ _ (value_of literal) found.0 found.1

pub integer_value : IntegersAreNumbers
unfolding datatypes
integer_value literal none is =
    let found = same_datatype literal (codes "integer") none is in
    number_among _ literal.lexical (value_of literal) found.0 found.1
