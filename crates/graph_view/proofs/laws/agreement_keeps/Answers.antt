use Rattle.std.specs.Prelude.{Contains}
use Rattle.graph_view.proofs.AgreeLemmas.{Agree-term, Agree-known, Agree-fewer, Agree-both}
use Rattle.graph_view.proofs.laws.agreement_keeps.Goals as goal

pub returns-clause-term : goal.returns-clause-term
returns-clause-term c = λ g h keys id agree inside. Agree-term g h id agree inside

pub returns-clause-known : goal.returns-clause-known
returns-clause-known c = λ g h keys ids agree known. Agree-known g h ids agree known

pub returns-clause-fewer : goal.returns-clause-fewer
returns-clause-fewer c = λ g h keys fewer among agree. Agree-fewer (Contains fewer) among agree

pub returns-clause-both : goal.returns-clause-both
returns-clause-both c = Agree-both
