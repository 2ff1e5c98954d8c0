use Rattle.std.proofs.Common.{List, [], ◌∷◌, ◌++◌, reverse, sym, ap, ◌∙◌, subst}
use Rattle.ttl_meaning.specs.declared.context.Context.{Context as kept_context}
use Rattle.ttl_meaning.specs.declared.context.Context.TheVariants.{Open as AnOpen}
use Rattle.ttl_meaning.specs.State.{Open}
use Rattle.ttl_meaning.specs.inner.Placed.{AreContexts}
use Rattle.ttl_meaning.proofs.ItemLemmas.{item_kept, kept_contexts}
use Rattle.ttl_meaning.proofs.reader_state.ReaderState.begin_statement.Goals as goal

pub returns : goal.returns
returns c = λ pool.
    let one =
    c.in_ok-push.ensures.items ∙ ap (λ (l : List kept_context). l ++ (AnOpen ∷ [])) c.clear.ensures.items in
    item_kept (λ s. record s { contexts = Open ∷ [] }) _ pool _ _ c.if-is_some.ensures
    (kept_contexts (Open ∷ []) c.push.new.self c.args.self.now pool
    (subst (λ l. AreContexts pool.terms (reverse l) (Open ∷ [])) (sym one) (tt, tt)))
