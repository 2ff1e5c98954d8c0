-- The table in code names the datatypes of the definition.
use Rattle.std.proofs.Common.{◌≡◌, ℕ, true, false, cond, List, [], ◌∷◌, map, drop, refl, sym, ap, ◌∙◌, nat_eq}
use Rattle.std.specs.Cmp.Lexicographic.{pointwise}
use Rattle.std.specs.Str.Pattern.{LacksTextAt}
use Rattle.std.proofs.lemmas.Slice.Eq.{slice_eq-Decides}
use Rattle.std.proofs.lemmas.Bool.Decides.{Decides-eqb}
use Rattle.shx_term.specs.Datatypes.{Datatype, space_among, xsd}
use Rattle.shx_term.specs.Datatypes.Space.{Opaques}
use Rattle.value_space.specs.declared.datatype.Datatype.{Datatype as Row}
use Rattle.value_space.specs.declared.datatype.Space.{Space}
use Rattle.value_space.specs.inner.Spaces.{space_meant, space_of_name}

abbrev row_meant : Row → Datatype
row_meant row = record { name = row.name.now; space = space_meant row.space }

space_of_name-meant : (rows : List Row) (name : List ℕ)
    → space_meant (space_of_name rows name) ≡ space_among (map row_meant rows) (xsd name)
unfolding space_of_name
space_of_name-meant [] name = refl
space_of_name-meant (row ∷ rows) name =
    elim (pointwise nat_eq name row.name.now) as (λ b. space_meant
    (cond b row.space (space_of_name rows name))
    ≡ cond b (space_meant row.space) (space_among (map row_meant rows) (xsd name)))
    [ true ↦ refl | false ↦ space_of_name-meant rows name ]

-- what a table that means these datatypes gives
pub space_meant-named : (rows : List Row) (name : List ℕ) (ds : List Datatype) (space : Space)
    → space ≡ space_of_name rows name → map row_meant rows ≡ ds
    → space_meant space ≡ space_among ds (xsd name)
space_meant-named rows name ds space named meant =
    ap space_meant named ∙ space_of_name-meant rows name ∙ ap (λ ds. space_among ds (xsd name)) meant

-- an IRI of another namespace names none
pub space_among-other : (ds : List Datatype) (iri : List ℕ) → LacksTextAt (xsd []) iri 0
    → space_among ds iri ≡ Opaques
space_among-other [] iri lacks = refl
space_among-other (d ∷ ds) iri lacks =
    let tells = slice_eq-Decides Decides-eqb iri (xsd d.name) (pointwise nat_eq iri (xsd d.name)) refl in
    elim (pointwise nat_eq iri (xsd d.name)) as (λ b. (b ≡ true → iri ≡ xsd d.name)
    → cond b d.space (space_among ds iri) ≡ Opaques)
    [ true ↦ (λ same. absurd (lacks d.name (same refl))) | false ↦ (λ same. space_among-other ds iri lacks) ]
    tells.0

pub space_among-xsd : (ds : List Datatype) (iri name : List ℕ) (k : ℕ) → iri ≡ xsd (drop k iri)
    → name ≡ drop k iri → space_among ds (xsd name) ≡ space_among ds iri
space_among-xsd ds iri name k whole rest =
    ap (λ n. space_among ds (xsd n)) rest ∙ ap (space_among ds) (sym whole)
