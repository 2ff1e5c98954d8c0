use Rattle.std.proofs.Common.{rules, ◌≡◌, ◌<◌, ◌≤◌, length, arith}
use Rattle.std.proofs.lemmas.Bool.Decides.{nat_tests}
use Rattle.std.specs.Str.{IsUtf8}
use Rattle.ttl_tokens.proofs.PlaceLemmas.{is_behind, behind_le, rest_le, token_rest, token_at}
use Rattle.ttl_tokens.proofs.PlaceLemmas.{token_at_end, no_token_at, behind_begins}
use Rattle.ttl_tokens.proofs.AheadLemmas.{known_behind, word_behind}
use Rattle.ttl_tokens.proofs.scan.next_token_after.Goals as goal
use Rattle.ttl_tokens.proofs.scan.next_token_after.Goals.{then-ahead-start, else-ahead-start}

pub overflow_sub-start : goal.overflow_sub-start
overflow_sub-start c =
    behind_le c.args.text.now c.args.at _
    (is_behind _ _ _ _ c.requires.within c.range_from.ensures.value c.range_from.utf8
    c.skip_blanks-behind.utf8 c.skip_blanks-behind.ensures)

pub returns-then-is_empty-clause-found : goal.returns-then-is_empty-clause-found
returns-then-is_empty-clause-found c =
    let none : length c.skip_blanks-behind.result.now ≡ 0 = grind (arith, nat_tests) in
    token_at_end c.args.text.now c.args.at _
    (is_behind _ _ _ _ c.requires.within c.range_from.ensures.value c.range_from.utf8
    c.skip_blanks-behind.utf8 c.skip_blanks-behind.ensures) none

pub overflow_sub-end : goal.overflow_sub-end
overflow_sub-end c =
    let utf8 : IsUtf8 c.in-Some.rest.now = search rules in
    let inner : length c.in-Some.rest.now ≤ length c.skip_blanks-behind.result.now =
    rest_le _ _ (token_rest _ _ _ c.skip_blanks-behind.utf8 utf8 c.in-Some.ensures) in
    let outer : length c.skip_blanks-behind.result.now ≤ length c.args.text.now =
    behind_le c.args.text.now c.args.at _
    (is_behind _ _ _ _ c.requires.within c.range_from.ensures.value c.range_from.utf8
    c.skip_blanks-behind.utf8 c.skip_blanks-behind.ensures) in
    omega (arith, inner, outer)

pub terminal-requires : goal.terminal-requires
terminal-requires c = λ is. elim c.if-ahead-start.branch [
  | then-ahead-start w ↦
      known_behind c.args.text.now c.args.at _ c.args.ahead.now
      (is_behind _ _ _ _ c.requires.within c.range_from.ensures.value c.range_from.utf8
      c.skip_blanks-behind.utf8 c.skip_blanks-behind.ensures) c.requires.known
      (grind (arith, nat_tests)) (grind (arith, nat_tests))
  | else-ahead-start w ↦ absurd (grind (arith, nat_tests))
]

pub behind_start-requires-clause-boundary : goal.behind_start-requires-clause-boundary
behind_start-requires-clause-boundary c =
    behind_begins c.args.text.now c.args.at _
    (is_behind _ _ _ _ c.requires.within c.range_from.ensures.value c.range_from.utf8
    c.skip_blanks-behind.utf8 c.skip_blanks-behind.ensures)

pub behind_start-requires-clause-none : goal.behind_start-requires-clause-none
behind_start-requires-clause-none c =
    word_behind c.args.text.now c.args.at _ _ _
    (is_behind _ _ _ _ c.requires.within c.range_from.ensures.value c.range_from.utf8
    c.skip_blanks-behind.utf8 c.skip_blanks-behind.ensures) (search rules) c.in-Some.ensures

pub returns-then-is_word-clause-found : goal.returns-then-is_word-clause-found
returns-then-is_word-clause-found c =
    let utf8 : IsUtf8 c.in-Some.rest.now = search rules in
    token_at c.args.text.now c.args.at _ _ _
    (is_behind _ _ _ _ c.requires.within c.range_from.ensures.value c.range_from.utf8
    c.skip_blanks-behind.utf8 c.skip_blanks-behind.ensures) utf8 c.in-Some.ensures

pub returns-else-not-is_known-clause-found : goal.returns-else-not-is_known-clause-found
returns-else-not-is_known-clause-found c =
    let utf8 : IsUtf8 c.in-Some.rest.now = search rules in
    token_at c.args.text.now c.args.at _ _ _
    (is_behind _ _ _ _ c.requires.within c.range_from.ensures.value c.range_from.utf8
    c.skip_blanks-behind.utf8 c.skip_blanks-behind.ensures) utf8 c.in-Some.ensures

pub returns-in-None-clause-none : goal.returns-in-None-clause-none
returns-in-None-clause-none c =
    let some : 0 < length c.skip_blanks-behind.result.now = grind (arith, nat_tests) in
    no_token_at c.args.text.now c.args.at _
    (is_behind _ _ _ _ c.requires.within c.range_from.ensures.value c.range_from.utf8
    c.skip_blanks-behind.utf8 c.skip_blanks-behind.ensures) some c.in-None.ensures
