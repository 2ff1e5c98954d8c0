-- No boolean is too long for its value.
use Rattle.std.specs.Prelude.{◌≡◌, ℕ, true, false, List, Option, Some, None, codes, nat_eq}
use Rattle.std.specs.Cmp.Lexicographic.{pointwise}
use Rattle.std.proofs.Common.{refl, ap}
use Rattle.std.proofs.lemmas.Bool.Decides.{Decides-eqb}
use Rattle.std.proofs.lemmas.Slice.Eq.{slice_eq-Decides}
use Rattle.shx_term.specs.declared.term.Literal.{Literal}
use Rattle.shx_term.specs.Datatypes.{datatypes, xsd}
use Rattle.shx_term.specs.WideLiterals.{is_wide}

-- whatever its tag
by_tag : (text iri : List ℕ) (tag : Option (List ℕ)) → iri ≡ xsd (codes "boolean")
    → is_wide (record { lexical = text; datatype = iri; tag = tag }) ≡ false
unfolding datatypes
by_tag text iri None is = ap (λ iri. is_wide (record { lexical = text; datatype = iri; tag = None })) is
by_tag text iri (Some tag) is = refl

pub boolean_not_wide : (literal : Literal)
    → pointwise nat_eq literal.datatype (xsd (codes "boolean")) ≡ true → is_wide literal ≡ false
boolean_not_wide literal is =
    let boolean = xsd (codes "boolean") in
    let same = slice_eq-Decides Decides-eqb literal.datatype boolean
    (pointwise nat_eq literal.datatype boolean) refl in
    by_tag literal.lexical literal.datatype literal.tag (same.0 is)
