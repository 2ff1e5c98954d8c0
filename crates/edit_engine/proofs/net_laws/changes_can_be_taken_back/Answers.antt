use Rattle.std.proofs.Common.{refl}
use Rattle.shx_term.proofs.SetLemmas.{SameMembers-itself}
use Rattle.edit_engine.specs.Nets.{graph_after}
use Rattle.edit_engine.proofs.CourseLemmas.{course_back, course_forth, course_made, course_redone}
use Rattle.edit_engine.proofs.CourseLemmas.{course_undone}
use Rattle.edit_engine.proofs.SoundLemmas.{IsSound-whole}
use Rattle.edit_engine.proofs.TakenBackLemmas.{triples_back}
use Rattle.edit_engine.proofs.net_laws.changes_can_be_taken_back.Goals as goal

pub returns-clause-back : goal.returns-clause-back
returns-clause-back c = course_back

pub returns-clause-forth : goal.returns-clause-forth
returns-clause-forth c = course_forth

pub returns-clause-made : goal.returns-clause-made
returns-clause-made c = course_made

pub returns-clause-undone : goal.returns-clause-undone
returns-clause-undone c = course_undone

pub returns-clause-redone : goal.returns-clause-redone
returns-clause-redone c = course_redone

pub returns-clause-given_back : goal.returns-clause-given_back
returns-clause-given_back c = λ most g net whole fits.
    triples_back g (graph_after g net) net (IsSound-whole most g whole) fits (record {
      terms = refl;
      triples = SameMembers-itself (graph_after g net).triples;
      count = refl;
    })
