use Rattle.std.proofs.Common.{rules}
use Rattle.iri_resolve.proofs.PathLemmas.{take-last_slash, take-no_slash}
use Rattle.iri_resolve.proofs.dot_segments.kept_len.Goals as goal

pub returns-in-Some-clause-kept : goal.returns-in-Some-clause-kept
returns-in-Some-clause-kept c =
    take-last_slash c.args.path.now c.in-Some.at (search rules) (search rules) (search rules)

pub returns-in-None-clause-kept : goal.returns-in-None-clause-kept
returns-in-None-clause-kept c = take-no_slash c.args.path.now (search rules)
