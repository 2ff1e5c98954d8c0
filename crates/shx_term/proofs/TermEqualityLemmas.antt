-- Terms with the same parts are the same term.
use Rattle.std.specs.Prelude.{◌≡◌, ℕ, true, ◌&&◌, List, Option, Some, None, nat_eq}
use Rattle.std.specs.Cmp.{nat_eq_equiv, both_ways, first_so, second_so}
use Rattle.std.specs.Cmp.Derive.{both_true}
use Rattle.std.specs.Cmp.Lexicographic.{nat_list_eq_equiv, options_equiv, bytes_decides}
use Rattle.std.specs.Option.{option_eq}
use Rattle.std.proofs.Common.{ap, subst}
use Rattle.std.proofs.lemmas.Bool.{eqb-true}
use Rattle.shx_term.specs.declared.term.Term.{Term}
use Rattle.shx_term.specs.declared.term.Term.TheVariants.{Iri, Blank, Lit}
use Rattle.shx_term.specs.declared.term.BlankName.{BlankName}
use Rattle.shx_term.specs.declared.term.LocalName.{LocalName}
use Rattle.shx_term.specs.declared.term.LocalName.TheVariants.{Labelled, Anonymous}
use Rattle.shx_term.specs.declared.term.Literal.{Literal}
use Rattle.shx_term.specs.TermOrder.{rank_of, same_term}
use Rattle.shx_term.specs.inner.TermEquality.{same_text, same_name, same_blank, same_literal, same_parts}
use Rattle.shx_term.specs.inner.TermOrderLaws.{same_scope, same_term_exact, same_term_itself}

text_is_one : (a b : List ℕ) → same_text a b ≡ true → a ≡ b
text_is_one a b h = (bytes_decides a b).0 h

tag_is_one : (a b : Option (List ℕ)) → option_eq same_text a b ≡ true → a ≡ b
tag_is_one None None h = cc
tag_is_one None (Some b) h = cc
tag_is_one (Some a) None h = cc
tag_is_one (Some a) (Some b) h = ap Some (text_is_one a b h)

name_is_one : (a b : LocalName) → same_name a b ≡ true → a ≡ b
name_is_one (Labelled a) (Labelled b) h = ap Labelled (text_is_one a b h)
name_is_one (Labelled a) (Anonymous b) h = cc
name_is_one (Anonymous a) (Labelled b) h = cc
name_is_one (Anonymous a) (Anonymous b) h = ap Anonymous (eqb-true a b h)

blank_is_one : (a b : BlankName) → same_blank a b ≡ true → a ≡ b
blank_is_one a b h =
    let scopes = nat_eq (rank_of a.scope) (rank_of b.scope) in
    let s : a.scope ≡ b.scope =
    same_scope a.scope b.scope (eqb-true _ _ (first_so scopes (same_name a.name b.name) h)) in
    let n : a.name ≡ b.name = name_is_one a.name b.name (second_so scopes (same_name a.name b.name) h) in
    λ i. record { scope = s i; name = n i }

literal_is_one : (a b : Literal) → same_literal a b ≡ true → a ≡ b
literal_is_one a b h =
    let datatypes = same_text a.datatype b.datatype in
    let tags = option_eq same_text a.tag b.tag in
    let rest = second_so (same_text a.lexical b.lexical) (datatypes && tags) h in
    let l : a.lexical ≡ b.lexical = text_is_one _ _ (first_so _ (datatypes && tags) h) in
    let d : a.datatype ≡ b.datatype = text_is_one _ _ (first_so datatypes tags rest) in
    let t : a.tag ≡ b.tag = tag_is_one _ _ (second_so datatypes tags rest) in
    λ i. record { lexical = l i; datatype = d i; tag = t i }

parts_are_one : (a b : Term) → same_parts a b ≡ true → a ≡ b
parts_are_one (Iri a) (Iri b) h = ap Iri (text_is_one a b h)
parts_are_one (Iri a) (Blank b) h = cc
parts_are_one (Iri a) (Lit b) h = cc
parts_are_one (Blank a) (Iri b) h = cc
parts_are_one (Blank a) (Blank b) h = ap Blank (blank_is_one a b h)
parts_are_one (Blank a) (Lit b) h = cc
parts_are_one (Lit a) (Iri b) h = cc
parts_are_one (Lit a) (Blank b) h = cc
parts_are_one (Lit a) (Lit b) h = ap Lit (literal_is_one a b h)

name_itself : (a : LocalName) → same_name a a ≡ true
name_itself (Labelled a) = nat_list_eq_equiv.refl a
name_itself (Anonymous a) = nat_eq_equiv.refl a

parts_themselves : (a : Term) → same_parts a a ≡ true
parts_themselves (Iri a) = nat_list_eq_equiv.refl a
parts_themselves (Blank a) = both_true (nat_eq_equiv.refl (rank_of a.scope)) (name_itself a.name)
parts_themselves (Lit a) =
    both_true (nat_list_eq_equiv.refl a.lexical)
    (both_true (nat_list_eq_equiv.refl a.datatype) ((options_equiv nat_list_eq_equiv).refl a.tag))

pub same_parts-is : (a b : Term) → same_parts a b ≡ same_term a b
same_parts-is a b =
    both_ways (same_parts a b) (same_term a b)
    (λ h. subst (λ c. same_term a c ≡ true) (parts_are_one a b h) (same_term_itself a))
    (λ h. subst (λ c. same_parts a c ≡ true) (same_term_exact a b h) (parts_themselves a))
