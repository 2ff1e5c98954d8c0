use Rattle.std.specs.Prelude.{◌<◌, ◌^◌, map}
use Rattle.std.proofs.Common.{subst}
use Rattle.shape_decl.specs.Declarations.{told_decl}
use Rattle.shape_compile.proofs.FaultlessLemmas.{AreReady-faultless}
use Rattle.shape_compile.proofs.compiling.stand_ready.Goals as goal

pub returns : goal.returns
returns c =
    AreReady-faultless
    (record {
      well_formed = c.accepted_shapes_are_well_formed.ensures.graph;
      of_shapes = c.shapes_are_declared_once.ensures.nodes;
      distinct = c.shapes_are_declared_once.ensures.distinct;
      listed = c.shapes_are_listed.ensures;
      shapes = c.named_shapes_are_declared.ensures.values;
      members = c.named_shapes_are_declared.ensures.members;
      values = c.values_stand_under_their_predicates.ensures.values;
      lists = c.lists_stand_under_their_parameters.ensures;
      nest = c.paths_nest_within_their_limit.ensures;
      numbers = c.declared_numbers_have_terms.ensures;
    })
    c.args.limits.now c.args.pool.now.terms (map told_decl c.args.decls.now) c.len.ensures.vocabulary
    (subst (λ n. n < 2 ^ 32) c.len.ensures.count c.len.type_inv) c.requires
