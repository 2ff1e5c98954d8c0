use Rattle.std.proofs.Common.{◌≡◌, ℕ, List, ◌∙◌, true, ap, subst, sym, rules}
use Rattle.iri_resolve.specs.Characters.{is_allowed}
use Rattle.iri_resolve.specs.Resolution.{IsAbsolute, resolved}
use Rattle.iri_resolve.proofs.ResolvedAbsoluteLemmas.{resolved-IsAbsolute}
use Rattle.iri_resolve.proofs.resolution.resolve.Goals as goal

pub returns : goal.returns
returns c =
    let reference = c.args.reference.now in
    let same : c.new.result ≡ resolved c.args.base.now reference =
    c.new.ensures ∙ c.in_ok-text.ensures ∙ ap (λ (base : List ℕ). resolved base reference) c.as_str.ensures in
    let allowed : is_allowed reference ≡ true = search rules in
    record {
      resolved = same;
      absolute = subst IsAbsolute (sym same)
          (resolved-IsAbsolute c.args.base.now reference c.requires allowed);
      refused = tt;
      allowed = allowed;
    }
