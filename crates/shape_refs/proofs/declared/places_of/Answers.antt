use Rattle.std.proofs.Common.{ap, ◌∙◌}
use Rattle.std.specs.Prelude.{nat_eq, List, [], map}
use Rattle.std.proofs.lemmas.List.{take_all}
use Rattle.indexmap.specs.IndexSet.{insert_all}
use Rattle.shape_decl.specs.declared.declaration.ShapeDecl.{ShapeDecl}
use Rattle.shape_refs.proofs.PlaceLemmas.{entered_all, entered_more}
use Rattle.shape_refs.proofs.declared.places_of.Goals as goal

pub loop-decl-preserved : goal.loop-decl-preserved
loop-decl-preserved c =
    entered_more (λ (d : ShapeDecl). d.node) c.args.decls.now c.loop-decl.decl-index c.decl-item.result
    c.loop-decl-test.true c.decl-item.is c.loop-decl.places.keys c.insert.new.self.keys c.loop-decl.invariant
    c.in_ok-insert.ensures.keys

pub returns : goal.returns
returns c =
    let decls = c.args.decls.now in
    c.loop-decl.invariant
    ∙ ap (λ (ds : List ShapeDecl). insert_all nat_eq [] (map (λ d. d.node) ds))
    (take_all c.loop-decl.decl-index decls c.loop-decl-test.false)
    ∙ entered_all (map (λ (d : ShapeDecl). d.node) decls) c.requires
