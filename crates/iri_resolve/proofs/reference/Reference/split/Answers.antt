use Rattle.std.proofs.Common.{ap, ◌∙◌}
use Rattle.std.specs.List.{before_first}
use Rattle.iri_resolve.specs.Characters.{is_question_mark}
use Rattle.iri_resolve.specs.Parts.{part_after, scheme_of, without_scheme, authority_of, path_of}
use Rattle.iri_resolve.proofs.reference.Reference.split.Goals as goal

pub returns : goal.returns
returns c =
    let hierarchy = c.cut-2.ensures.before ∙ ap (before_first is_question_mark) c.cut.ensures.before in
    let scheme = c.cut_scheme.ensures.scheme ∙ ap scheme_of hierarchy in
    let rest = c.cut_scheme.ensures.rest ∙ ap without_scheme hierarchy in
    let authority = c.cut_authority.ensures.authority ∙ ap authority_of rest in
    let path = c.cut_authority.ensures.path ∙ ap path_of rest in
    let query = c.cut-2.ensures.after ∙ ap (part_after is_question_mark) c.cut.ensures.before in
    let fragment = c.cut.ensures.after in
    λ i. record {
      scheme = scheme i;
      authority = authority i;
      path = path i;
      query = query i;
      fragment =
          fragment i;
    }
