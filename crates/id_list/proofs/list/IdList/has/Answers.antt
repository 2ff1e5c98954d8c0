use Rattle.std.specs.Prelude.{◌≡◌, ◌==◌, ℕ, Bool, List}
use Rattle.std.specs.List.{list_any}
use Rattle.std.proofs.Common.{rules, ap, ◌∙◌}
use Rattle.id_list.proofs.list.IdList.has.Goals as goal

pub returns-in-Some : goal.returns-in-Some
returns-in-Some c =
    let among : List ℕ → Bool = list_any (λ other. other == c.args.id) in
    let found : c.contains-in-Some.result ≡ among c.in-Some.set.keys = search rules in
    found ∙ c.deref-listed.result.now.same c.in-Some.set c.in-Some.is c.args.id
    ∙ ap (λ listed. among listed.ids.items) c.deref-listed.ensures ∙ ap among c.self.view_is
