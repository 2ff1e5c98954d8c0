-- The laws of the order of terms: it is total, and terms that compare as equal are one.
use Rattle.std.specs.Prelude.{◌≡◌, ℕ, true, List, Option, Some, None}
use Rattle.std.specs.Ordering.{nat_cmp}
use Rattle.std.specs.Cmp.{IsEquivalence, IsTotalOrder, eq_by_cmp_equiv, nat_cmp_total, on_total, then_total}
use Rattle.std.specs.Cmp.Lexicographic.{slice_cmp, nat_list_cmp_total}
use Rattle.std.proofs.Common.{refl, sym, ap}
use Rattle.std.proofs.lemmas.Map.Lookups.{CmpEqualImpliesEq, exact_pairs, exact_unsigned, exact_bytes}
use Rattle.std.proofs.lemmas.Map.Views.{tells_apart}
use Rattle.shx_term.specs.declared.term.Term.{Term}
use Rattle.shx_term.specs.declared.term.Term.TheVariants.{Iri, Blank, Lit}
use Rattle.shx_term.specs.declared.term.Scope.{Scope}
use Rattle.shx_term.specs.declared.term.Scope.TheVariants.{Data, Shapes}
use Rattle.shx_term.specs.declared.term.LocalName.{LocalName}
use Rattle.shx_term.specs.declared.term.LocalName.TheVariants.{Labelled, Anonymous}
use Rattle.shx_term.specs.TermOrder.{kind_of_name, kind_of, rank_of, scope_of, number_of_name, number_of}
use Rattle.shx_term.specs.TermOrder.{label_of, head_of, lexical_of, tag_rank, tag_text, tag_number_of, tag_of}
use Rattle.shx_term.specs.TermOrder.{term_cmp, same_term}

pub term_cmp_total : IsTotalOrder term_cmp
term_cmp_total =
    then_total (on_total kind_of nat_cmp_total)
    (then_total (on_total scope_of nat_cmp_total)
    (then_total (on_total number_of nat_cmp_total)
    (then_total (on_total head_of nat_list_cmp_total)
    (then_total (on_total lexical_of nat_list_cmp_total)
    (then_total (on_total tag_number_of nat_cmp_total)
    (on_total tag_of nat_list_cmp_total))))))

pub same_term_equiv : IsEquivalence same_term
same_term_equiv = eq_by_cmp_equiv term_cmp_total

abbrev Parts : Type 0
Parts = ℕ × (ℕ × (ℕ × (List ℕ × (List ℕ × (ℕ × List ℕ)))))

abbrev parts_of : Term → Parts
parts_of t =
    (kind_of t, (scope_of t, (number_of t, (head_of t, (lexical_of t, (tag_number_of t, tag_of t))))))

pub same_scope : (a b : Scope) → rank_of a ≡ rank_of b → a ≡ b
same_scope Data Data e = refl
same_scope Data Shapes e = cc
same_scope Shapes Data e = cc
same_scope Shapes Shapes e = refl

same_name : (a b : LocalName) → kind_of_name a ≡ kind_of_name b → number_of_name a ≡ number_of_name b
    → label_of a ≡ label_of b → a ≡ b
same_name (Labelled a) (Labelled b) k n l = ap Labelled l
same_name (Labelled a) (Anonymous b) k n l = cc
same_name (Anonymous a) (Labelled b) k n l = cc
same_name (Anonymous a) (Anonymous b) k n l = ap Anonymous n

same_tag : (a b : Option (List ℕ)) → tag_rank a ≡ tag_rank b → tag_text a ≡ tag_text b → a ≡ b
same_tag None None k t = refl
same_tag None (Some b) k t = cc
same_tag (Some a) None k t = cc
same_tag (Some a) (Some b) k t = ap Some t

name_is_no_iri : (n : LocalName) → kind_of_name n ≡ 0 → ⊥
name_is_no_iri (Labelled label) e = cc
name_is_no_iri (Anonymous number) e = cc

name_is_no_literal : (n : LocalName) → kind_of_name n ≡ 3 → ⊥
name_is_no_literal (Labelled label) e = cc
name_is_no_literal (Anonymous number) e = cc

iri_is_no_literal : (kind : ℕ) → kind ≡ 0 → kind ≡ 3 → ⊥
iri_is_no_literal kind e f = cc

same_parts : (a b : Term) → parts_of a ≡ parts_of b → a ≡ b
same_parts (Iri a) (Iri b) e = ap Iri (ap (λ (p : Parts). p.1.1.1.0) e)
same_parts (Iri a) (Blank b) e = absurd (name_is_no_iri b.name (sym (ap (λ (p : Parts). p.0) e)))
same_parts (Iri a) (Lit b) e = absurd (iri_is_no_literal 0 refl (ap (λ (p : Parts). p.0) e))
same_parts (Blank a) (Iri b) e = absurd (name_is_no_iri a.name (ap (λ (p : Parts). p.0) e))
same_parts (Blank a) (Blank b) e =
    let s : a.scope ≡ b.scope = same_scope a.scope b.scope (ap (λ (p : Parts). p.1.0) e) in
    let n : a.name ≡ b.name =
    same_name a.name b.name (ap (λ (p : Parts). p.0) e) (ap (λ (p : Parts). p.1.1.0) e)
    (ap (λ (p : Parts). p.1.1.1.0) e) in
    λ i. Blank (record { scope = s i; name = n i })
same_parts (Blank a) (Lit b) e = absurd (name_is_no_literal a.name (ap (λ (p : Parts). p.0) e))
same_parts (Lit a) (Iri b) e = absurd (iri_is_no_literal 0 refl (sym (ap (λ (p : Parts). p.0) e)))
same_parts (Lit a) (Blank b) e = absurd (name_is_no_literal b.name (sym (ap (λ (p : Parts). p.0) e)))
same_parts (Lit a) (Lit b) e =
    let d : a.datatype ≡ b.datatype = ap (λ (p : Parts). p.1.1.1.0) e in
    let l : a.lexical ≡ b.lexical = ap (λ (p : Parts). p.1.1.1.1.0) e in
    let t : a.tag ≡ b.tag =
    same_tag a.tag b.tag (ap (λ (p : Parts). p.1.1.1.1.1.0) e) (ap (λ (p : Parts). p.1.1.1.1.1.1) e) in
    λ i. Lit (record { lexical = l i; datatype = d i; tag = t i })

-- terms that compare as equal are one
pub term_cmp_exact : CmpEqualImpliesEq term_cmp
term_cmp_exact a b e =
    same_parts a b
    (exact_pairs nat_cmp _ exact_unsigned
    (exact_pairs nat_cmp _ exact_unsigned
    (exact_pairs nat_cmp _ exact_unsigned
    (exact_pairs (slice_cmp nat_cmp) _ exact_bytes
    (exact_pairs (slice_cmp nat_cmp) _ exact_bytes
    (exact_pairs nat_cmp (slice_cmp nat_cmp) exact_unsigned exact_bytes))))) (parts_of a) (parts_of b) e)

pub same_term_exact : (a b : Term) → same_term a b ≡ true → a ≡ b
same_term_exact = tells_apart term_cmp_exact

pub same_term_itself : (t : Term) → same_term t t ≡ true
same_term_itself = same_term_equiv.refl
