use Rattle.std.proofs.Common.{refl}
use Rattle.std.proofs.lemmas.Result.{on_ok_weaker}
use Rattle.shx_term.specs.declared.term.Term.TheVariants.{Iri}
use Rattle.ttl_meaning.specs.declared.placed.Placed.TheVariants.{Term}
use Rattle.ttl_meaning.specs.State.{AnIri, put, begin_verb}
use Rattle.ttl_meaning.specs.Terms.{typed}
use Rattle.ttl_meaning.proofs.ItemLemmas.{sound_where_kept, kept_node, kept_verb, string_ends}
use Rattle.ttl_meaning.proofs.reader_state.ReaderState.use_iri.Goals as goal

pub returns-in-Node-clause-does : goal.returns-in-Node-clause-does
returns-in-Node-clause-does c =
    let iri = c.args.iri in
    rw c.in-Node.is
    (on_ok_weaker _ (sound_where_kept (put (AnIri iri)) _ _ _ _)
    (on_ok_weaker _ (kept_node (Term (Iri iri)) (AnIri iri) _ _ _ _ (λ _. refl)) c.put.ensures.does))

pub returns-in-Verb-clause-does : goal.returns-in-Verb-clause-does
returns-in-Verb-clause-does c =
    let iri = c.args.iri in
    rw c.in-Verb.is
    (on_ok_weaker _ (sound_where_kept (begin_verb iri) _ c.args.pool.now _ _)
    (on_ok_weaker _ (kept_verb (Term (Iri iri)) iri _ _ _ (λ _. refl)) c.begin_verb.ensures))

pub returns-in-Datatype-clause-does : goal.returns-in-Datatype-clause-does
returns-in-Datatype-clause-does c =
    let taken = c.take_held-lexical.ensures in
    rw c.in-Datatype.is
    (on_ok_weaker _
    (string_ends (λ held. typed held c.args.iri) _ _ _ _ _ _ _ _ taken.said taken.at
    (rw c.interned.ensures at c.typed.ensures) (taken.kept c.args.pool.now))
    c.put_literal.ensures.does)
