use Rattle.std.specs.Prelude.{[], ◌∷◌}
use Rattle.std.proofs.Common.{sym, ap, ◌∙◌, subst}
use Rattle.std.proofs.lemmas.Result.{on_ok_weaker}
use Rattle.indexmap.specs.IndexSet.{insert_key}
use Rattle.path_eval.specs.inner.Reached.{Joins}
use Rattle.path_eval.specs.inner.StateLaws.{same_state}
use Rattle.path_eval.proofs.JoinLemmas.{Joins-insert}
use Rattle.path_eval.proofs.states.States.add.Goals as goal

pub returns : goal.returns
returns c =
    let seen = c.args.self.now in
    let state = c.args.state in
    on_ok_weaker c.insert.result
    (λ added. subst (Joins seen (state ∷ []))
    (sym (added ∙ ap (λ held. insert_key same_state held state) c.self.view_is)) (Joins-insert seen state))
    c.insert.ensures.added
