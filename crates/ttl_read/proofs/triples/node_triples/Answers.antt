use Rattle.std.proofs.Common.{◌≡◌, ◌+◌, suc, refl, sym, ◌∙◌, subst, arith}
use Rattle.ttl_tokens.specs.Form.{Maybe}
use Rattle.ttl_read.specs.Grammar.{begins_verb, object, predicate_object_list}
use Rattle.ttl_read.specs.inner.Reads.{Parses}
use Rattle.ttl_read.specs.inner.Stops.{predicates_go_on}
use Rattle.ttl_read.proofs.AnswerLemmas.{handed_on, passed_on, then_parses}
use Rattle.ttl_read.proofs.HereLemmas.{found, found_here, here_stops, not_found, refuses_unless}
use Rattle.ttl_read.proofs.ReadLemmas.{nothing_goes_on, maybe_reads, maybe_reads_none, maybe_refuses}
use Rattle.ttl_read.proofs.ReadLemmas.{then_reads, then_refuses}
use Rattle.ttl_read.proofs.TriplesLemmas.{no_verb_list, verb_goes_on}
use Rattle.ttl_read.proofs.triples.node_triples.Goals as goal

pub returns-in_err-property_list-clause-parses : goal.returns-in_err-property_list-clause-parses
returns-in_err-property_list-clause-parses c =
    let list = predicate_object_list c.args.text.now (object c.args.text.now (suc c.args.depth)) in
    passed_on _ _ c.in_err-property_list.field-0.0 c.from_residual.result c.from_residual.ensures.1
    c.in_err-property_list.ensures.parses (λ n. then_refuses (nothing_goes_on (Maybe list)) n)

pub returns-then-is_some-clause-parses : goal.returns-then-is_some-clause-parses
returns-then-is_some-clause-parses c =
    let text = c.args.text.now in
    let m = c.property_list.new.reader in
    let token = found c.next_verb.result (sym c.is_some.ensures ∙ c.if-is_some.true) in
    let verb = found_here m begins_verb token.0 c.utf8.text c.in_ok-property_list.ensures.advances.stands
    (sym c.next_verb.ensures ∙ token.1) in
    let stop = here_stops predicates_go_on verb.0 (verb_goes_on token.0 verb.1) in
    let same : c.args.depth + 1 ≡ suc c.args.depth = omega arith in
    let list = predicate_object_list text (object text (suc c.args.depth)) in
    let parses = subst (λ d. Parses text (predicate_object_list text (object text d)) predicates_go_on m
    c.property_list.new.pool c.predicate_object_list.new.reader c.predicate_object_list.new.pool
    c.predicate_object_list.result) same c.predicate_object_list.ensures.parses in
    then_parses (nothing_goes_on (Maybe list)) c.in_ok-property_list.ensures.parses
    _ _ c.predicate_object_list.result
    (handed_on c.predicate_object_list.result parses (λ a. maybe_reads stop a) (λ n. maybe_refuses stop n))

pub returns-else-is_some-clause-parses : goal.returns-else-is_some-clause-parses
returns-else-is_some-clause-parses c =
    let text = c.args.text.now in
    let m = c.property_list.new.reader in
    let o = object text (suc c.args.depth) in
    let list = predicate_object_list text o in
    let none = not_found c.next_verb.result (sym c.is_some.ensures ∙ c.if-is_some.false) in
    then_reads (nothing_goes_on (Maybe list)) c.in_ok-property_list.ensures.parses
    (maybe_reads_none (refuses_unless text begins_verb list predicates_go_on m c.property_list.new.pool
    c.utf8.text c.in_ok-property_list.ensures.advances.stands refl (no_verb_list text o)
    (sym c.next_verb.ensures ∙ none)))
