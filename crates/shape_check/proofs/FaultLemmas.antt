-- The faults of declarations, past the limit of shapes and within it.
use Rattle.std.specs.Prelude.{◌≡◌, ℕ, ◌+◌, ◌<◌, ◌≤◌, List, [], ◌∷◌, drop, flat_map, length, map}
use Rattle.std.proofs.Common.{refl, ap, ◌∙◌, arith, get_or, sym}
use Rattle.std.proofs.lemmas.List.{drop-map, drop_all, drop_more, get_or-map, length-map}
use Rattle.shx_term.specs.declared.limits.Limits.{Limits}
use Rattle.shx_term.specs.declared.term.Term.{Term}
use Rattle.shape_decl.specs.declared.declaration.ShapeDecl.{ShapeDecl}
use Rattle.graph_view.specs.Graph.{Graph}
use Rattle.shape_decl.specs.Declarations.{Declaration, declaration_of, declarations, told_decl}
use Rattle.shape_decl.specs.Shapes.{shape_nodes}
use Rattle.shape_check.specs.Faults.{faults, faults_before, faults_of, graph_faults, past_limit}

-- the nodes of declarations, as they are told
pub nodes-told : (decls : List ShapeDecl) → map (λ d. d.node) (map told_decl decls) ≡ map (λ d. d.node) decls
nodes-told [] = refl
nodes-told (d ∷ decls) = ap (λ rest. d.node ∷ rest) (nodes-told decls)

module _ (limits : Limits) (terms : List Term) where
  first_past : (ds past : List Declaration) (n : ℕ) (rest : List ℕ) → map (λ d. d.node) past ≡ n ∷ rest
      → faults_before terms ds past ≡ past_limit n ∷ []
  first_past ds [] n rest e = cc
  first_past ds (d ∷ past) n rest e =
      let same : d.node ≡ n = cc in
      ap (λ m. past_limit m ∷ []) same

  pub faults-past : (ds : List Declaration) (nodes : List ℕ) (n : ℕ) → map (λ d. d.node) ds ≡ nodes
      → limits.shapes < length nodes → n ≡ get_or nodes limits.shapes n
      → faults limits terms ds ≡ past_limit n ∷ []
  unfolding faults
  faults-past ds nodes n of_nodes past at =
      first_past ds (drop limits.shapes ds) n (drop (limits.shapes + 1) nodes)
      (sym (drop-map (λ d. d.node) limits.shapes ds)
      ∙ ap (drop limits.shapes) of_nodes
      ∙ drop_more nodes limits.shapes n past
      ∙ ap (λ m. m ∷ drop (limits.shapes + 1) nodes) (sym at))

  pub faults-within : (decls : List ShapeDecl) → length decls ≤ limits.shapes
      → faults limits terms (map told_decl decls)
      ≡ flat_map (faults_of terms (map told_decl decls)) (map told_decl decls)
  unfolding faults
  faults-within decls within =
      ap (faults_before terms (map told_decl decls))
      (drop-map told_decl limits.shapes decls ∙ ap (map told_decl) (drop_all limits.shapes decls within))

  pub faults-past_decl : (decls : List ShapeDecl) (d : ShapeDecl) → limits.shapes < length decls
      → d ≡ get_or decls limits.shapes d → faults limits terms (map told_decl decls) ≡ past_limit d.node ∷ []
  faults-past_decl decls d past at =
      let node = λ (e : ShapeDecl). e.node in
      let long : limits.shapes < length (map node decls) = omega (arith, past, length-map decls node) in
      faults-past (map told_decl decls) (map node decls) d.node (nodes-told decls) long
      (ap node at ∙ sym (get_or-map node decls limits.shapes d d.node past))

-- ---- of a graph

module _ (limits : Limits) (g : Graph) where
  pub all_declared : (nodes shapes : List ℕ) (ds : List Declaration) → nodes ≡ shapes → shapes ≡ shape_nodes g
      → ds ≡ map (declaration_of limits g) nodes → ds ≡ declarations limits g
  unfolding declarations
  all_declared nodes shapes ds same all each = each ∙ ap (map (declaration_of limits g)) (same ∙ all)

  pub graph_faults_are : (terms : List Term) (ds : List Declaration) → terms ≡ g.terms
      → ds ≡ declarations limits g → graph_faults limits g ≡ faults limits terms ds
  graph_faults_are terms ds of_terms of_shapes =
      ap (λ ts. faults limits ts (declarations limits g)) (sym of_terms)
      ∙ ap (faults limits terms) (sym of_shapes)
