-- Which nodes are declared: each once, and what is named as a shape among them.
use Rattle.std.specs.Prelude.{◌≡◌, ℕ, nat_eq, List, [], ◌∷◌, map, filter}
use Rattle.std.proofs.Common.{refl, ap, inl, inr}
use Rattle.std.proofs.lemmas.Bool.{eqb-true}
use Rattle.shx_term.specs.declared.limits.Limits.{Limits}
use Rattle.shx_term.specs.IdOrder.{id_cmp}
use Rattle.shx_term.specs.TermKinds.{is_node}
use Rattle.shx_term.proofs.IdOrderLemmas.{id_cmp_total, in_term_order_lists}
use Rattle.graph_view.specs.Graph.{Graph}
use Rattle.graph_view.proofs.LookUpLemmas.{Contains-objects_of}
use Rattle.shape_decl.specs.Declarations.{declaration_of, declarations}
use Rattle.shape_decl.specs.Laws.{DeclarationsAreOfShapes, NamedMembersAreDeclared, NamedShapesAreDeclared}
use Rattle.shape_decl.specs.Laws.{ShapesAreDistinct}
use Rattle.shape_decl.specs.Shapes.{candidates, shape_nodes}
use Rattle.shape_decl.proofs.DistinctLemmas.{distinct_in_order}
use Rattle.shape_decl.proofs.ListLemmas.{lists_read}
use Rattle.shape_decl.proofs.ShapeLemmas.{shapes_listed}

nodes_of : (limits : Limits) (g : Graph) (nodes : List ℕ)
    → map (λ d. d.node) (map (declaration_of limits g) nodes) ≡ nodes
nodes_of limits g [] = refl
nodes_of limits g (node ∷ nodes) = ap (λ rest. node ∷ rest) (nodes_of limits g nodes)

pub declared_nodes : DeclarationsAreOfShapes
unfolding declarations
declared_nodes limits g = nodes_of limits g (shape_nodes g)

pub distinct_shapes : ShapesAreDistinct
unfolding shape_nodes
distinct_shapes g =
    distinct_in_order (id_cmp g.terms) (id_cmp_total g.terms) nat_eq (λ a b h. eqb-true a b h) (shape_nodes g)
    (in_term_order_lists g.terms (filter (is_node g.terms) (candidates g))).sorted

pub named_shape : NamedShapesAreDeclared
named_shape g known node p value named held is_node =
    ((shapes_listed g known).each value).1 (record {
      node = is_node;
      cause = inr (inr (inl (record {
        triple = record { s = node; p = p; o = value };
        held = (Contains-objects_of g node p value).0 held;
        predicate = named;
        is = refl;
      })));
    })

pub named_member : NamedMembersAreDeclared
named_member g known node p head members member named held list inside is_node =
    ((shapes_listed g known).each member).1 (record {
      node = is_node;
      cause = inr (inr (inr (record {
        triple = record { s = node; p = p; o = head };
        held = (Contains-objects_of g node p head).0 held;
        predicate = named;
        members = members;
        list = (lists_read g head members).0 list;
        is = inside;
      })));
    })
