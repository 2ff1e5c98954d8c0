-- In a cycle of calls `c.requires.0.0` is that the text is UTF-8, and `c.requires.1.1` what is required.
use Rattle.std.proofs.Common.{◌≡◌, true, refl, sym, ◌∙◌, arith}
use Rattle.std.proofs.lemmas.Bool.{or_right}
use Rattle.ttl_tokens.specs.Form.{Then}
use Rattle.ttl_meaning.specs.Items.{behind_member, first_cell, next_cell, end_list, empty_list, open_node}
use Rattle.ttl_read.specs.declared.reader.Reader.{Reader}
use Rattle.ttl_tokens.specs.declared.token.TokenKind.TheVariants.{Semicolon, Comma, OpenSquare, OpenRound}
use Rattle.ttl_tokens.specs.declared.token.TokenKind.TheVariants.{CloseRound}
use Rattle.ttl_read.specs.Grammar.{begins_verb, mark, object, sign, verb_objects, is_kind}
use Rattle.ttl_read.specs.inner.Reads.{Passes}
use Rattle.ttl_read.specs.inner.Stops.{goes_on, list_goes_on, stops_nowhere, verbs_go_on}
use Rattle.ttl_read.proofs.AnswerLemmas.{alone_parses, alone_passed_on, handed_on, leads_alone, passed_on}
use Rattle.ttl_read.proofs.AnswerLemmas.{passes_then_parses, right_parses, then_alone}
use Rattle.ttl_read.proofs.CollectionLemmas.{do_avoids, members_avoid, members_read, no_close}
use Rattle.ttl_read.proofs.CollectionLemmas.{no_first_member, no_members, no_next_member, no_other_member}
use Rattle.ttl_read.proofs.CollectionLemmas.{square_avoids}
use Rattle.ttl_read.proofs.HereLemmas.{advances_on, advances_then, found, found_here, here_stops, is_here}
use Rattle.ttl_read.proofs.HereLemmas.{mark_passes, none_nowhere, not_found, pass_advances, refuses_unless}
use Rattle.ttl_read.proofs.HereLemmas.{sign_passes}
use Rattle.ttl_read.proofs.KeepsTermsLemmas.{keeps_then}
use Rattle.ttl_read.proofs.KindLemmas.{IsObject-object, kind_is}
use Rattle.ttl_read.proofs.ObjectLemmas.{another_object, collection_object, commas_avoid, no_bracket}
use Rattle.ttl_read.proofs.ObjectLemmas.{no_comma, no_other_object, other_object, property_list_object}
use Rattle.ttl_read.proofs.PassLemmas.{behind_nowhere, do_passes, nowhere_refuses, passes_reads, refuses_then}
use Rattle.ttl_read.proofs.PassLemmas.{then_nowhere}
use Rattle.ttl_read.proofs.ReadLemmas.{goes_first, goes_on_with, goes_to_end, left_reads, maybe_reads}
use Rattle.ttl_read.proofs.ReadLemmas.{maybe_reads_none, maybe_refuses, passes_then_reads}
use Rattle.ttl_read.proofs.ReadLemmas.{passes_then_refuses, reads_before, refuses_before, then_reads}
use Rattle.ttl_read.proofs.ReadLemmas.{then_refuses}
use Rattle.ttl_read.proofs.TriplesLemmas.{fewer_verbs, more_predicates, more_verbs, no_more_predicates}
use Rattle.ttl_read.proofs.TriplesLemmas.{no_semicolon, no_verb, semicolons_avoid}
use Rattle.ttl_read.proofs.+objects.Goals as goal

pub collection::collection-returns-in_ok-empty_list-in-Some-clause-advances
    : goal.collection::collection-returns-in_ok-empty_list-in-Some-clause-advances
collection::collection-returns-in_ok-empty_list-in-Some-clause-advances t c =
    let here = is_here c.args.reader.now c.requires.0.0 c.requires.1.1.0 c.requires.1.1.1.0 in
    let m : Reader = record { tokens = c.pass.new.self; reading = c.args.reader.now.reading } in
    let close = found_here m (is_kind CloseRound) c.in-Some.close c.requires.0.0 c.pass.ensures.stands
    (sym c.next_of.ensures ∙ c.in-Some.is) in
    advances_then
    (pass_advances (is_kind OpenRound) c.pass.new.self here c.requires.1.1.1.1 refl c.pass.ensures.stands
    c.pass.ensures.place)
    (pass_advances (is_kind CloseRound) c.pass-in-Some.new.self close.0 close.1 refl
    c.pass-in-Some.ensures.stands c.pass-in-Some.ensures.place)

pub collection::collection-returns-in_ok-empty_list-in-Some-clause-parses
    : goal.collection::collection-returns-in_ok-empty_list-in-Some-clause-parses
collection::collection-returns-in_ok-empty_list-in-Some-clause-parses t c =
    let text = c.args.text.now in
    let o = object text c.args.depth in
    let is = IsObject-object text c.args.depth in
    let here = is_here c.args.reader.now c.requires.0.0 c.requires.1.1.0 c.requires.1.1.1.0 in
    let m : Reader = record { tokens = c.pass.new.self; reading = c.args.reader.now.reading } in
    let close = found_here m (is_kind CloseRound) c.in-Some.close c.requires.0.0 c.pass.ensures.stands
    (sym c.next_of.ensures ∙ c.in-Some.is) in
    let first = mark_passes OpenRound m c.args.pool.now here c.requires.1.1.1.1 refl
    c.pass.ensures.place in
    let none = no_members o c.args.pool.now stops_nowhere is close.0 close.1 in
    passes_then_reads first
    (left_reads (passes_reads (sign_passes CloseRound empty_list close.0 close.1
    c.in_ok-empty_list-in-Some.ensures.does c.pass-in-Some.ensures.place)) none)

pub collection::collection-returns-in-None-clause-parses
    : goal.collection::collection-returns-in-None-clause-parses
collection::collection-returns-in-None-clause-parses t c =
    let text = c.args.text.now in
    let here = is_here c.args.reader.now c.requires.0.0 c.requires.1.1.0 c.requires.1.1.1.0 in
    let m : Reader = record { tokens = c.pass.new.self; reading = c.args.reader.now.reading } in
    let first = mark_passes OpenRound m c.args.pool.now here c.requires.1.1.1.1 refl
    c.pass.ensures.place in
    let none = refuses_unless text (is_kind CloseRound) (sign CloseRound empty_list) stops_nowhere m
    c.args.pool.now c.requires.0.0 c.pass.ensures.stands refl (λ t e. e)
    (sym c.next_of.ensures ∙ c.in-None.is) in
    passes_then_parses first _ _ _ _ c.members.result
    (right_parses none _ _ _ c.members.result c.members.ensures.parses)

pub collection::member-returns-in_err-object-clause-parses
    : goal.collection::member-returns-in_err-object-clause-parses
collection::member-returns-in_err-object-clause-parses t c =
    passed_on _ _ c.in_err-object.field-0.0 c.from_residual.result c.from_residual.ensures.1
    c.in_err-object.ensures.parses (λ n. then_refuses (do_avoids behind_member goes_on) n)

pub collection::member-returns-clause-parses : goal.collection::member-returns-clause-parses
collection::member-returns-clause-parses t c =
    let m = c.object.new.reader in
    let r : Reader = record { tokens = m.tokens; reading = c.behind_member.new.self } in
    then_reads (do_avoids behind_member goes_on) c.in_ok-object.ensures.parses
    (passes_reads (do_passes c.args.text.now behind_member m c.object.new.pool r c.object.new.pool
    (c.in_ok-behind_member.ensures c.object.new.pool) refl))

pub collection::members-returns-in_err-member-clause-parses
    : goal.collection::members-returns-in_err-member-clause-parses
collection::members-returns-in_err-member-clause-parses t c =
    let text = c.args.text.now in
    let is = IsObject-object text c.args.depth in
    let m : Reader = record { tokens = c.args.reader.now.tokens; reading = c.first_cell.new.self } in
    let cell = do_passes text first_cell c.args.reader.now c.args.pool.now m c.first_cell.new.pool
    c.in_ok-first_cell.ensures.does refl in
    passed_on _ _ c.in_err-member.field-0.0 c.from_residual-in_err-member.result
    c.from_residual-in_err-member.ensures.1 c.in_err-member.ensures.parses
    (λ n. no_first_member is (passes_then_refuses cell n))

pub collection::members-loop-close-init : goal.collection::members-loop-close-init
collection::members-loop-close-init t c =
    let text = c.args.text.now in
    let o = object text c.args.depth in
    let is = IsObject-object text c.args.depth in
    let m : Reader = record { tokens = c.args.reader.now.tokens; reading = c.first_cell.new.self } in
    let cell = do_passes text first_cell c.args.reader.now c.args.pool.now m c.first_cell.new.pool
    c.in_ok-first_cell.ensures.does refl in
    record {
      keeps = keeps_then c.in_ok-first_cell.ensures.keeps c.in_ok-member.ensures.keeps;
      on = c.in_ok-member.ensures.advances;
      goes = goes_first (members_avoid o is) (passes_then_reads cell c.in_ok-member.ensures.parses);
    }

pub collection::members-returns-in_err-end_list-clause-keeps
    : goal.collection::members-returns-in_err-end_list-clause-keeps
collection::members-returns-in_err-end_list-clause-keeps t c =
    keeps_then c.loop-close.invariant.keeps c.in_err-end_list.ensures.keeps

pub collection::members-returns-in-Some-clause-keeps
    : goal.collection::members-returns-in-Some-clause-keeps
collection::members-returns-in-Some-clause-keeps t c =
    keeps_then c.loop-close.invariant.keeps c.in_ok-end_list.ensures.keeps

pub collection::members-returns-in-Some-clause-parses
    : goal.collection::members-returns-in-Some-clause-parses
collection::members-returns-in-Some-clause-parses t c =
    let text = c.args.text.now in
    let o = object text c.args.depth in
    let is = IsObject-object text c.args.depth in
    let m = c.loop-close.reader in
    let close = found_here m (is_kind CloseRound) c.in-Some.close c.requires.0.0
    c.loop-close.invariant.on.stands (sym c.next_of.ensures ∙ c.in-Some.is) in
    members_read is c.loop-close.invariant.goes
    (no_next_member o c.loop-close.pool goes_on is close.0 close.1)
    (sign_passes CloseRound end_list close.0 close.1 c.in_ok-end_list.ensures.does c.pass.ensures.place)

pub collection::members-loop-close-preserved : goal.collection::members-loop-close-preserved
collection::members-loop-close-preserved t c =
    let text = c.args.text.now in
    let o = object text c.args.depth in
    let is = IsObject-object text c.args.depth in
    let m = c.loop-close.reader in
    let next : Reader = record { tokens = m.tokens; reading = c.next_cell.new.self } in
    let stop = no_close text m c.requires.0.0 c.loop-close.invariant.on.stands
    (sym c.next_of.ensures ∙ c.in_default.is) in
    let cell = do_passes text next_cell m c.loop-close.pool next c.next_cell.new.pool
    c.in_ok-next_cell.ensures.does refl in
    record {
      keeps = keeps_then c.loop-close.invariant.keeps
          (keeps_then c.in_ok-next_cell.ensures.keeps c.in_ok-member-2.ensures.keeps);
      on = advances_then c.loop-close.invariant.on c.in_ok-member-2.ensures.advances;
      goes = goes_on_with (members_avoid o is) stop c.loop-close.invariant.goes
          (passes_then_reads cell c.in_ok-member-2.ensures.parses);
    }

pub collection::members-returns-in_err-member-2-clause-parses
    : goal.collection::members-returns-in_err-member-2-clause-parses
collection::members-returns-in_err-member-2-clause-parses t c =
    let text = c.args.text.now in
    let is = IsObject-object text c.args.depth in
    let m = c.loop-close.reader in
    let next : Reader = record { tokens = m.tokens; reading = c.next_cell.new.self } in
    let stop = no_close text m c.requires.0.0 c.loop-close.invariant.on.stands
    (sym c.next_of.ensures ∙ c.in_default.is) in
    let cell = do_passes text next_cell m c.loop-close.pool next c.next_cell.new.pool
    c.in_ok-next_cell.ensures.does refl in
    passed_on _ _ c.in_err-member-2.field-0.0 c.from_residual-in_err-member-2.result
    c.from_residual-in_err-member-2.ensures.1 c.in_err-member-2.ensures.parses
    (λ n. no_other_member is stop c.loop-close.invariant.goes (passes_then_refuses cell n))

pub collection::property_list-returns-in_err-predicate_object_list-clause-parses
    : goal.collection::property_list-returns-in_err-predicate_object_list-clause-parses
collection::property_list-returns-in_err-predicate_object_list-clause-parses t c =
    let text = c.args.text.now in
    let here = is_here c.args.reader.now c.requires.0.0 c.requires.1.1.0 c.requires.1.1.1.0 in
    let m : Reader = record { tokens = c.pass.new.self; reading = c.open_node.new.self } in
    let first : Passes text (sign OpenSquare open_node) c.args.reader.now c.args.pool.now m
    c.open_node.new.pool =
    sign_passes OpenSquare open_node here c.requires.1.1.1.1 c.in_ok-open_node.ensures.does
    c.pass.ensures.place in
    passed_on _ _ c.in_err-predicate_object_list.field-0.0
    c.from_residual-in_err-predicate_object_list.result c.from_residual-in_err-predicate_object_list.ensures.1
    c.in_err-predicate_object_list.ensures.parses
    (λ n. nowhere_refuses (behind_nowhere first (refuses_then square_avoids n)))

pub collection::property_list-returns-clause-parses : goal.collection::property_list-returns-clause-parses
collection::property_list-returns-clause-parses t c =
    let text = c.args.text.now in
    let here = is_here c.args.reader.now c.requires.0.0 c.requires.1.1.0 c.requires.1.1.1.0 in
    let m : Reader = record { tokens = c.pass.new.self; reading = c.open_node.new.self } in
    let first : Passes text (sign OpenSquare open_node) c.args.reader.now c.args.pool.now m
    c.open_node.new.pool =
    sign_passes OpenSquare open_node here c.requires.1.1.1.1 c.in_ok-open_node.ensures.does
    c.pass.ensures.place in
    let result = c.close_square.result in
    alone_parses _ _ _ _ _ _ _ result
    (then_alone first _ _ _ result
    (leads_alone square_avoids c.in_ok-predicate_object_list.ensures.parses _ _ result
    (c.close_square.ensures.parses c.predicate_object_list.new.pool)))

pub object::object-returns-in_default-clause-parses : goal.object::object-returns-in_default-clause-parses
object::object-returns-in_default-clause-parses t c =
    let text = c.args.text.now in
    let o = object text c.args.depth in
    nowhere_refuses (none_nowhere text o c.in_default.field-0 c.args.reader.now c.args.pool.now c.requires.0.0
    c.requires.1.1 c.in_default.is (IsObject-object text c.args.depth).some)

pub object::object-returns-then-depth-eq0-clause-parses
    : goal.object::object-returns-then-depth-eq0-clause-parses
object::object-returns-then-depth-eq0-clause-parses t c =
    let k = c.in-Ok.token.kind in
    let here = is_here c.args.reader.now c.requires.0.0 c.requires.1.1 c.in-Ok.is in
    let bracket : is_kind OpenRound k ≡ true = sym c.eq.ensures ∙ c.if-eq.true in
    no_bracket c.args.depth c.args.pool.now here (rw (kind_is OpenRound k bracket) refl) c.if-depth-eq0.true

pub object::object-returns-then-eq-clause-parses
    : goal.object::object-returns-then-eq-clause-parses
object::object-returns-then-eq-clause-parses t c =
    let here = is_here c.args.reader.now c.requires.0.0 c.requires.1.1 c.in-Ok.is in
    let bracket : is_kind OpenRound c.in-Ok.token.kind ≡ true =
    sym c.eq.ensures ∙ c.if-eq.true in
    collection_object c.args.depth (omega arith) here bracket _ _ _ c.collection.result
    c.collection.ensures.parses

pub object::object-returns-then-depth-eq0-2-clause-parses
    : goal.object::object-returns-then-depth-eq0-2-clause-parses
object::object-returns-then-depth-eq0-2-clause-parses t c =
    let k = c.in-Ok.token.kind in
    let here = is_here c.args.reader.now c.requires.0.0 c.requires.1.1 c.in-Ok.is in
    let bracket : is_kind OpenSquare k ≡ true = sym c.eq-2.ensures ∙ c.if-eq-2.true in
    no_bracket c.args.depth c.args.pool.now here (rw (kind_is OpenSquare k bracket) refl)
    c.if-depth-eq0-2.true

pub object::object-returns-then-eq-2-clause-parses
    : goal.object::object-returns-then-eq-2-clause-parses
object::object-returns-then-eq-2-clause-parses t c =
    let here = is_here c.args.reader.now c.requires.0.0 c.requires.1.1 c.in-Ok.is in
    let bracket : is_kind OpenSquare c.in-Ok.token.kind ≡ true =
    sym c.eq-2.ensures ∙ c.if-eq-2.true in
    property_list_object c.args.depth (omega arith) here bracket _ _ _ c.property_list.result
    c.property_list.ensures.parses

pub object::object-returns-clause-parses : goal.object::object-returns-clause-parses
object::object-returns-clause-parses t c =
    let here = is_here c.args.reader.now c.requires.0.0 c.requires.1.1 c.in-Ok.is in
    other_object c.args.depth here (sym c.eq.ensures ∙ c.if-eq.false) (sym c.eq-2.ensures ∙ c.if-eq-2.false)
    _ _ _ c.plain_object.result c.plain_object.ensures.parses

pub object::object_list-returns-in_err-object-clause-parses
    : goal.object::object_list-returns-in_err-object-clause-parses
object::object_list-returns-in_err-object-clause-parses t c =
    let text = c.args.text.now in
    let o = object text c.args.depth in
    passed_on _ _ c.in_err-object.field-0.0 c.from_residual.result c.from_residual.ensures.1
    c.in_err-object.ensures.parses (λ n. then_refuses (commas_avoid o) n)

pub object::object_list-loop-comma-init : goal.object::object_list-loop-comma-init
object::object_list-loop-comma-init t c =
    let text = c.args.text.now in
    let o = object text c.args.depth in
    record {
      keeps = c.in_ok-object.ensures.keeps;
      on = c.in_ok-object.ensures.advances;
      goes = goes_first (commas_avoid o) c.in_ok-object.ensures.parses;
    }

pub object::object_list-loop-comma-preserved : goal.object::object_list-loop-comma-preserved
object::object_list-loop-comma-preserved t c =
    let m = c.loop-comma.reader in
    let next : Reader = record { tokens = c.pass.new.self; reading = m.reading } in
    let comma = found_here m (is_kind Comma) c.in-Some.comma c.requires.0.0 c.loop-comma.invariant.on.stands
    (sym c.next_of.ensures ∙ c.in-Some.is) in
    let passed = pass_advances (is_kind Comma) c.pass.new.self comma.0 comma.1 refl c.pass.ensures.stands
    c.pass.ensures.place in
    record {
      keeps = keeps_then c.loop-comma.invariant.keeps c.in_ok-object-2.ensures.keeps;
      on = advances_then (advances_then c.loop-comma.invariant.on passed) c.in_ok-object-2.ensures.advances;
      goes = another_object next comma.0 comma.1 refl c.pass.ensures.place c.loop-comma.invariant.goes
          c.in_ok-object-2.ensures.parses;
    }

pub object::object_list-returns-in_err-object-2-clause-keeps
    : goal.object::object_list-returns-in_err-object-2-clause-keeps
object::object_list-returns-in_err-object-2-clause-keeps t c =
    keeps_then c.loop-comma.invariant.keeps c.in_err-object-2.ensures.keeps

pub object::object_list-returns-in_err-object-2-clause-parses
    : goal.object::object_list-returns-in_err-object-2-clause-parses
object::object_list-returns-in_err-object-2-clause-parses t c =
    let m = c.loop-comma.reader in
    let next : Reader = record { tokens = c.pass.new.self; reading = m.reading } in
    let comma = found_here m (is_kind Comma) c.in-Some.comma c.requires.0.0 c.loop-comma.invariant.on.stands
    (sym c.next_of.ensures ∙ c.in-Some.is) in
    passed_on _ _ c.in_err-object-2.field-0.0 c.from_residual-in_err-object-2.result
    c.from_residual-in_err-object-2.ensures.1 c.in_err-object-2.ensures.parses
    (λ n. no_other_object next comma.0 comma.1 refl c.pass.ensures.place c.loop-comma.invariant.goes n)

pub object::object_list-returns-clause-parses : goal.object::object_list-returns-clause-parses
object::object_list-returns-clause-parses t c =
    let text = c.args.text.now in
    let o = object text c.args.depth in
    goes_to_end (commas_avoid o) c.loop-comma.invariant.goes
    (refuses_unless text (is_kind Comma) (Then (mark Comma) o) goes_on c.loop-comma.reader c.loop-comma.pool
    c.requires.0.0 c.loop-comma.invariant.on.stands refl (no_comma o)
    (sym c.next_of.ensures ∙ c.in_default.is))

pub triples::more_objects-returns-then-is_some-clause-parses
    : goal.triples::more_objects-returns-then-is_some-clause-parses
triples::more_objects-returns-then-is_some-clause-parses t c =
    let token = found c.next_verb.result (sym c.is_some.ensures ∙ c.if-is_some.true) in
    let verb = found_here c.args.reader.now begins_verb token.0 c.requires.0.0 c.requires.1.1
    (sym c.next_verb.ensures ∙ token.1) in
    let stop = here_stops verbs_go_on verb.0
    (or_right (list_goes_on token.0) (begins_verb token.0.kind) verb.1) in
    handed_on c.verb_objects.result c.verb_objects.ensures.parses
    (λ a. maybe_reads stop (reads_before fewer_verbs a))
    (λ n. maybe_refuses stop (refuses_before fewer_verbs n))

pub triples::more_objects-returns-else-is_some-clause-parses
    : goal.triples::more_objects-returns-else-is_some-clause-parses
triples::more_objects-returns-else-is_some-clause-parses t c =
    let text = c.args.text.now in
    let o = object text c.args.depth in
    let none = not_found c.next_verb.result (sym c.is_some.ensures ∙ c.if-is_some.false) in
    maybe_reads_none (refuses_unless text begins_verb (verb_objects text o) verbs_go_on c.args.reader.now
    c.args.pool.now c.requires.0.0 c.requires.1.1 refl (no_verb text o) (sym c.next_verb.ensures ∙ none))

pub triples::predicate_object_list-returns-in_err-verb_objects-clause-parses
    : goal.triples::predicate_object_list-returns-in_err-verb_objects-clause-parses
triples::predicate_object_list-returns-in_err-verb_objects-clause-parses t c =
    let text = c.args.text.now in
    let o = object text c.args.depth in
    passed_on _ _ c.in_err-verb_objects.field-0.0 c.from_residual.result c.from_residual.ensures.1
    c.in_err-verb_objects.ensures.parses
    (λ n. then_refuses (semicolons_avoid text o) (refuses_before fewer_verbs n))

pub triples::predicate_object_list-loop-semicolon-init
    : goal.triples::predicate_object_list-loop-semicolon-init
triples::predicate_object_list-loop-semicolon-init t c =
    let text = c.args.text.now in
    let o = object text c.args.depth in
    record {
      keeps = c.in_ok-verb_objects.ensures.keeps;
      on = c.in_ok-verb_objects.ensures.advances;
      goes = goes_first (semicolons_avoid text o)
          (reads_before fewer_verbs c.in_ok-verb_objects.ensures.parses);
    }

pub triples::predicate_object_list-loop-semicolon-smaller
    : goal.triples::predicate_object_list-loop-semicolon-smaller
triples::predicate_object_list-loop-semicolon-smaller t c =
    let m = c.loop-semicolon.reader in
    let semicolon = found_here m (is_kind Semicolon) c.in-Some.semicolon c.requires.0.0
    c.loop-semicolon.invariant.on.stands (sym c.next_of.ensures ∙ c.in-Some.is) in
    let passed = pass_advances (is_kind Semicolon) c.pass.new.self semicolon.0 semicolon.1 refl
    c.pass.ensures.stands c.pass.ensures.place in
    let further = passed.further in
    let on = c.in_ok-more_objects.ensures.further in
    let within = c.in_ok-more_objects.ensures.stands.within in
    omega (arith, further, on, within)

pub triples::predicate_object_list-loop-semicolon-preserved
    : goal.triples::predicate_object_list-loop-semicolon-preserved
triples::predicate_object_list-loop-semicolon-preserved t c =
    let m = c.loop-semicolon.reader in
    let semicolon = found_here m (is_kind Semicolon) c.in-Some.semicolon c.requires.0.0
    c.loop-semicolon.invariant.on.stands (sym c.next_of.ensures ∙ c.in-Some.is) in
    let next : Reader = record { tokens = c.pass.new.self; reading = m.reading } in
    let passed = pass_advances (is_kind Semicolon) c.pass.new.self semicolon.0 semicolon.1 refl
    c.pass.ensures.stands c.pass.ensures.place in
    record {
      keeps = keeps_then c.loop-semicolon.invariant.keeps c.in_ok-more_objects.ensures.keeps;
      on = advances_on c.more_objects.new.reader.tokens (advances_then c.loop-semicolon.invariant.on passed)
          c.in_ok-more_objects.ensures.stands c.in_ok-more_objects.ensures.further;
      goes = more_predicates next semicolon.0 semicolon.1 refl c.pass.ensures.place
          c.loop-semicolon.invariant.goes c.in_ok-more_objects.ensures.parses;
    }

pub triples::predicate_object_list-returns-in_err-more_objects-clause-keeps
    : goal.triples::predicate_object_list-returns-in_err-more_objects-clause-keeps
triples::predicate_object_list-returns-in_err-more_objects-clause-keeps t c =
    keeps_then c.loop-semicolon.invariant.keeps c.in_err-more_objects.ensures.keeps

pub triples::predicate_object_list-returns-in_err-more_objects-clause-parses
    : goal.triples::predicate_object_list-returns-in_err-more_objects-clause-parses
triples::predicate_object_list-returns-in_err-more_objects-clause-parses t c =
    let m = c.loop-semicolon.reader in
    let semicolon = found_here m (is_kind Semicolon) c.in-Some.semicolon c.requires.0.0
    c.loop-semicolon.invariant.on.stands (sym c.next_of.ensures ∙ c.in-Some.is) in
    let next : Reader = record { tokens = c.pass.new.self; reading = m.reading } in
    passed_on _ _ c.in_err-more_objects.field-0.0 c.from_residual-in_err-more_objects.result
    c.from_residual-in_err-more_objects.ensures.1 c.in_err-more_objects.ensures.parses
    (λ n. no_more_predicates next semicolon.0 semicolon.1 refl c.pass.ensures.place
    c.loop-semicolon.invariant.goes n)

pub triples::predicate_object_list-returns-clause-parses
    : goal.triples::predicate_object_list-returns-clause-parses
triples::predicate_object_list-returns-clause-parses t c =
    let text = c.args.text.now in
    let o = object text c.args.depth in
    goes_to_end (semicolons_avoid text o) c.loop-semicolon.invariant.goes
    (refuses_unless text (is_kind Semicolon) (more_verbs text o) verbs_go_on c.loop-semicolon.reader
    c.loop-semicolon.pool
    c.requires.0.0 c.loop-semicolon.invariant.on.stands refl (no_semicolon text o)
    (sym c.next_of.ensures ∙ c.in_default.is))

pub triples::verb_objects-returns-in_err-verb-clause-parses
    : goal.triples::verb_objects-returns-in_err-verb-clause-parses
triples::verb_objects-returns-in_err-verb-clause-parses t c =
    let result = c.from_residual.result in
    alone_parses _ _ _ _ _ _ _ result
    (alone_passed_on _ _ c.in_err-verb.field-0.0 result c.from_residual.ensures.1 c.in_err-verb.ensures.parses
    (λ n. then_nowhere n))

pub triples::verb_objects-returns-clause-parses : goal.triples::verb_objects-returns-clause-parses
triples::verb_objects-returns-clause-parses t c =
    passes_then_parses c.in_ok-verb.ensures.parses _ _ _ _ c.object_list.result c.object_list.ensures.parses
