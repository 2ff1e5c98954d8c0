use Rattle.std.proofs.Common.{◌≡◌, ℕ, List, ◌++◌, ◌∙◌, sym, ap, true, false, is_some, rules}
use Rattle.std.specs.Option.{option_copied}
use Rattle.std.proofs.lemmas.Result.{IfOk-weaker}
use Rattle.iri_resolve.specs.Parts.{written}
use Rattle.iri_resolve.specs.Reference.{parts_in}
use Rattle.iri_resolve.specs.Resolution.{target_of}
use Rattle.iri_resolve.proofs.ResolvedLemmas.{resolved-itself, resolved-over}
use Rattle.iri_resolve.proofs.resolution.target.Goals as goal

pub returns-then-is_some : goal.returns-then-is_some
returns-then-is_some c =
    let parts = c.split-parts.result in
    let scheme : is_some (option_copied parts.scheme) ≡ true = search rules in
    let itself =
    resolved-itself c.args.base.now c.args.reference.now (parts_in parts) c.split-parts.ensures scheme in
    IfOk-weaker c.from_str.result _ _ (λ text is. is ∙ sym itself) c.from_str.ensures.ok

pub returns : goal.returns
returns c =
    let parts = c.split-parts.result in
    let scheme : is_some (option_copied parts.scheme) ≡ false = search rules in
    let over = resolved-over c.args.base.now c.args.reference.now (parts_in parts) c.split-parts.ensures
    (parts_in c.split.result) c.split.ensures scheme in
    c.in_ok-push_target.ensures
    ∙ ap (λ (xs : List ℕ). xs ++ written (target_of (parts_in c.split.result) (parts_in parts)))
    c.in_ok-out.ensures.bytes
    ∙ sym over
