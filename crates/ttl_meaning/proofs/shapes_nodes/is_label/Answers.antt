use Rattle.std.proofs.Common.{◌≡◌, ◌++◌, codes, sym, ap, ◌∙◌, subst, length, nat_eq, rules}
use Rattle.std.specs.Bool.{Decides}
use Rattle.ttl_meaning.specs.ShapesNodes.{IsLabel}
use Rattle.ttl_meaning.proofs.ShapesNodeLemmas.{label_is_whole, no_label_at_none, no_label_at_other}
use Rattle.ttl_meaning.proofs.shapes_nodes.is_label.Goals as goal
use Rattle.ttl_meaning.proofs.shapes_nodes.is_label.Goals.{then-eq, else-eq}

pub returns-in-Ok : goal.returns-in-Ok
returns-in-Ok c =
    let text = c.args.text.now in
    let name = c.deref.result.now in
    let is : codes "_:" ++ text ≡ name = search rules in
    elim c.if-eq.branch [
      | then-eq w ↦
          let whole : w.len.result ≡ length name = search rules in
          label_is_whole text name is c.deref.utf8 c.in-Ok.token c.in-Ok.ensures.found
          (sym c.eq.ensures ∙ w.if-eq.true) c.if-eq.result
          (w.result-is ∙ ap (λ n. nat_eq c.in-Ok.token.end n) whole)
      | else-eq w ↦
          subst (λ r. Decides r (IsLabel text)) (sym (w.result-is ∙ w.if-eq.false))
          (no_label_at_other text name is c.deref.utf8 c.in-Ok.token c.in-Ok.ensures.found
          (sym c.eq.ensures ∙ w.if-eq.false))
    ]

pub returns : goal.returns
returns c =
    let text = c.args.text.now in
    let name = c.deref.result.now in
    let is : codes "_:" ++ text ≡ name = search rules in
    no_label_at_none text name is c.deref.utf8 c.in-Err.field-0.at c.in-Err.ensures.none
