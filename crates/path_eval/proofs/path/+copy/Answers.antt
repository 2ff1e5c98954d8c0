use Rattle.std.specs.Prelude.{map}
use Rattle.std.proofs.Common.{sym, ap, ◌∙◌}
use Rattle.path_eval.specs.Route.{route_of, sequence, alternative}
use Rattle.path_eval.proofs.RouteLemmas.{route_Seq, route_Alt}
use Rattle.path_eval.proofs.path.+copy.Goals as goal

pub Path::copy-returns-in_ok-copy_all-in-Seq : goal.Path::copy-returns-in_ok-copy_all-in-Seq
Path::copy-returns-in_ok-copy_all-in-Seq t c =
    route_Seq c.in_ok-copy_all-in-Seq.field-0
    ∙ ap sequence (c.in_ok-copy_all-in-Seq.ensures ∙ ap (map route_of) c.deref.ensures.value)
    ∙ sym (route_Seq c.in-Seq.parts) ∙ ap route_of (sym c.in-Seq.is)

pub Path::copy-returns-in_ok-copy_all-in-Alt : goal.Path::copy-returns-in_ok-copy_all-in-Alt
Path::copy-returns-in_ok-copy_all-in-Alt t c =
    route_Alt c.in_ok-copy_all-in-Alt.field-0
    ∙ ap alternative (c.in_ok-copy_all-in-Alt.ensures ∙ ap (map route_of) c.deref-in-Alt.ensures.value)
    ∙ sym (route_Alt c.in-Alt.members) ∙ ap route_of (sym c.in-Alt.is)
