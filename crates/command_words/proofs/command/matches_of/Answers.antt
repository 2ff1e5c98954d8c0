use Rattle.std.proofs.Common.{◌∙◌, ap, subst, sym, ⊎_elim}
use Rattle.clap.specs.Kinds.{IsAmong}
use Rattle.clap.specs.Faults.{fault_of, is_simple_and_free}
use Rattle.clap.specs.Simple.{is_simple, matches_of}
use Rattle.command_words.specs.Words.{texts_of}
use Rattle.command_words.proofs.CommandLemmas.{read_at_err, read_at_ok}
use Rattle.command_words.proofs.ReadLemmas.{each_allowed}
use Rattle.command_words.proofs.command.matches_of.Goals as goal

pub returns-in-Ok : goal.returns-in-Ok
returns-in-Ok c =
    let words = texts_of c.args.words.now in
    let app = c.in_ok-command.ensures in
    let quiet = c.in-Ok.ensures.kinds (ap is_simple_and_free app) in
    read_at_ok words _ (each_allowed c.args.words.now c.requires)
    (sym (ap (λ a. fault_of a words) app) ∙ quiet)
    ((c.in-Ok.ensures.matches (ap is_simple app)).0 ∙ ap (λ a. matches_of a words) app)

pub returns : goal.returns
returns c =
    let words = texts_of c.args.words.now in
    let app = c.in_ok-command.ensures in
    let fails = c.in-Err.ensures.kinds (ap is_simple_and_free app) in
    ⊎_elim (λ memory. absurd (c.in_default.not-OutOfMemory (c.kind.ensures ∙ memory)))
    (λ among. read_at_err words _ (each_allowed c.args.words.now c.requires)
    (subst (IsAmong _) (ap (λ a. fault_of a words) app) among)) fails
