use Rattle.std.specs.Prelude.{◌≡◌, ℕ, List, Vec, map, get_or}
use Rattle.std.specs.declared.alloc.Global.{Global}
use Rattle.std.proofs.Common.{refl, sym, ap, ◌∙◌, subst}
use Rattle.std.proofs.lemmas.Option.{same_Some}
use Rattle.shx_term.specs.declared.term.Term.{Term}
use Rattle.shape_decl.specs.Declarations.{Declaration, told_decl}
use Rattle.shape_eval.specs.declared.shape.PlanShape.{PlanShape}
use Rattle.shape_refs.specs.References.{siblings_of}
use Rattle.shape_refs.specs.Truth.{is_any_true}
use Rattle.shape_refs.proofs.PlaceLemmas.{told_at}
use Rattle.shape_refs.proofs.RowLemmas.{row_made}
use Rattle.shape_compile.specs.Meaning.{ShapeMeans}
use Rattle.shape_compile.proofs.plan_shape.plan_shape.Goals as goal

means_same : (terms : List Term) (ds : List Declaration) (nodes : List ℕ) (told d : Declaration)
    (sh : PlanShape) → told ≡ d → sh.node ≡ told.node → ShapeMeans terms ds nodes told sh
    → (sh.node ≡ d.node) × ShapeMeans terms ds nodes d sh
means_same terms ds nodes told d sh same node means = (
  node ∙ ap (λ (e : Declaration). e.node) same,
  subst (λ e. ShapeMeans terms ds nodes e sh) same means,
)

pub path_of-requires : goal.path_of-requires
path_of-requires c = λ told is.
    let decls = c.args.declared.now.decls.now in
    let item = c.index-declared-at.result in
    let here = told_at decls c.args.at item c.requires.at in
    c.requires.path (told_decl (get_or decls c.args.at item)) told here is

pub constraints_of-requires-clause-named : goal.constraints_of-requires-clause-named
constraints_of-requires-clause-named c =
    let decls = c.args.declared.now.decls.now in
    let item = c.index-declared-at.result in
    let here = told_at decls c.args.at item c.requires.at in
    c.requires.named (told_decl (get_or decls c.args.at item)) here

pub constraints_of-requires-clause-siblings : goal.constraints_of-requires-clause-siblings
constraints_of-requires-clause-siblings c =
    let decls = c.args.declared.now.decls.now in
    let item = c.index-declared-at.result in
    c.deref.ensures.value
    ∙ row_made (λ (row : Vec ℕ Global). row.items)
    (siblings_of c.args.declared.now.pool.now.terms (map told_decl decls)) told_decl decls c.args.at item
    c.requires.at c.args.order.now.siblings.items c.index-siblings.result.now c.requires.siblings
    c.index-siblings.ensures

pub constraints_of-requires-clause-built : goal.constraints_of-requires-clause-built
constraints_of-requires-clause-built c =
    let decls = c.args.declared.now.decls.now in
    let item = c.index-declared-at.result in
    let here = told_at decls c.args.at item c.requires.at in
    c.requires.built (told_decl (get_or decls c.args.at item)) here

pub returns : goal.returns
returns c = λ d at.
    let declared = c.args.declared.now in
    let decls = declared.decls.now in
    let item = c.index-declared-at.result in
    let told = told_decl (get_or decls c.args.at item) in
    let here = told_at decls c.args.at item c.requires.at in
    let same = same_Some told d (sym here ∙ at) in
    means_same declared.pool.now.terms (map told_decl decls) c.args.order.now.nodes.keys told d _ same refl
    (record {
      path = c.in_ok-path_of.ensures;
      severity = c.severity_of.ensures;
      messages = c.in_ok-from_slice.ensures.items ∙ c.values_of.ensures;
      deactivated = c.is_any_true.ensures ∙ ap (is_any_true declared.pool.now.terms) c.values_of-2.ensures;
      targets = c.in_ok-targets_of.ensures;
      constraints = c.in_ok-constraints_of.ensures.said;
      read = c.in_ok-constraints_of.ensures.read;
    })
