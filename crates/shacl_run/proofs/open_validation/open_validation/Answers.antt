use Rattle.std.proofs.Common.{refl, sym, ◌∙◌, subst}
use Rattle.shx_term.specs.TripleTerms.{terms_of}
use Rattle.shx_term.proofs.HeldLemmas.{with_terms_grow}
use Rattle.graph_view.specs.Graph.{Graph}
use Rattle.shape_eval.specs.Plan.{IsKnownPlan}
use Rattle.shape_eval.specs.Planned.{plan_of}
use Rattle.shape_text.specs.TextReadings.{States}
use Rattle.shape_text.proofs.ReadingLemmas.{graph}
use Rattle.shacl_run.proofs.open_validation.open_validation.Goals as goal

pub returns-clause-opened : goal.returns-clause-opened
returns-clause-opened c =
    let document = graph c.read_turtle.new.pool.terms c.in-Ok.document.triples.items in
    let (end, is, names) = c.in-Ok.ensures.states in
    let made = c.in_ok-validation_over.ensures in (
      States document end,
      is,
      record {
        document = document;
        end = end;
        is = refl;
        stored = record {
          stores = made.stores;
          names_are = made.names end names;
          plan_is = made.plan;
          start = record {
            kept = refl;
            group = refl;
            changes = refl;
            made = refl;
            line = refl;
            refused = refl;
            halted = refl;
          };
          limits_are = record {
            triples = made.triple_limit;
            terms = made.term_limit ∙ c.read_turtle.ensures.limit ∙ c.requires.limit;
          };
          format_is = made.format;
        };
      },
    )

pub validation_over-requires-clause-plan : goal.validation_over-requires-clause-plan
validation_over-requires-clause-plan c =
    let (end, is, names) = c.in-Ok.ensures.states in
    let held = c.args.accepted.pool.terms in
    let shapes = (plan_of c.args.accepted.plan).shapes in
    let grown = with_terms_grow held (terms_of end.triples) in
    subst (λ (g : Graph). IsKnownPlan g.terms shapes) (sym is.2)
    (subst (λ ts. IsKnownPlan ts shapes) (sym grown.1)
    (c.plans_stay_known.ensures held grown.0 shapes c.requires.known))
