use Rattle.std.proofs.Common.{◌≡◌, codes, Bool, List, ℕ, true, false, nat_eq, refl, sym, ap, ◌∙◌}
use Rattle.std.specs.Cmp.Lexicographic.{pointwise}
use Rattle.ttl_read.proofs.AnswerLemmas.{then_alone, alone_passed_on}
use Rattle.ttl_read.proofs.DirectiveLemmas.{at_prefix_alone, at_base_alone, other_tag_nowhere}
use Rattle.ttl_read.proofs.DirectiveLemmas.{prefix_and_dot, base_and_dot}
use Rattle.ttl_read.proofs.HereLemmas.{is_here}
use Rattle.ttl_read.proofs.PassLemmas.{then_nowhere, or_nowhere}
use Rattle.ttl_read.proofs.statement.tagged_directive.Goals as goal

-- what a comparison with a word found of the token's text
compared : (word other given : List ℕ) (equal is : Bool) → given ≡ word → equal ≡ pointwise nat_eq given other
    → equal ≡ is → pointwise nat_eq word other ≡ is
compared word other given equal is same found test =
    ap (λ w. pointwise nat_eq w other) (sym same) ∙ sym found ∙ test

pub returns-in_err-prefix_binding-clause-parses : goal.returns-in_err-prefix_binding-clause-parses
returns-in_err-prefix_binding-clause-parses c =
    let here = is_here c.args.reader.now c.utf8.text c.requires.stands c.requires.next in
    let word = compared _ _ _ _ true c.range-word.ensures.value c.eq.ensures c.if-eq.true in
    let result = c.from_residual.result in
    λ pool. at_prefix_alone here c.requires.kind word _ refl c.pass.ensures.place pool _ _ result
    (alone_passed_on _ _ c.in_err-prefix_binding.field-0.0 result c.from_residual.ensures.1
    (c.in_err-prefix_binding.ensures.parses pool) (λ n. then_nowhere n))

pub returns-then-eq-clause-parses : goal.returns-then-eq-clause-parses
returns-then-eq-clause-parses c =
    let here = is_here c.args.reader.now c.utf8.text c.requires.stands c.requires.next in
    let word = compared _ _ _ _ true c.range-word.ensures.value c.eq.ensures c.if-eq.true in
    λ pool. at_prefix_alone here c.requires.kind word _ refl c.pass.ensures.place pool _ _ c.dot.result
    (then_alone (c.in_ok-prefix_binding.ensures.parses pool) _ _ _ c.dot.result (c.dot.ensures.parses pool))

pub returns-in_err-base_setting-clause-parses : goal.returns-in_err-base_setting-clause-parses
returns-in_err-base_setting-clause-parses c =
    let here = is_here c.args.reader.now c.utf8.text c.requires.stands c.requires.next in
    let word = compared _ _ _ _ true c.range-word.ensures.value c.eq-2.ensures c.if-eq-2.true in
    let passed = c.from_residual-in_err-base_setting in
    λ pool. at_base_alone here c.requires.kind word _ refl c.pass-then-eq-2.ensures.place pool _ _
    passed.result
    (alone_passed_on _ _ c.in_err-base_setting.field-0.0 passed.result passed.ensures.1
    (c.in_err-base_setting.ensures.parses pool) (λ n. then_nowhere n))

pub returns-then-eq-2-clause-parses : goal.returns-then-eq-2-clause-parses
returns-then-eq-2-clause-parses c =
    let here = is_here c.args.reader.now c.utf8.text c.requires.stands c.requires.next in
    let word = compared _ _ _ _ true c.range-word.ensures.value c.eq-2.ensures c.if-eq-2.true in
    let dot = c.dot-then-eq-2 in
    λ pool. at_base_alone here c.requires.kind word _ refl c.pass-then-eq-2.ensures.place pool _ _ dot.result
    (then_alone (c.in_ok-base_setting.ensures.parses pool) _ _ _ dot.result (dot.ensures.parses pool))

pub returns-clause-parses : goal.returns-clause-parses
returns-clause-parses c =
    let text = c.args.text.now in
    let here = is_here c.args.reader.now c.utf8.text c.requires.stands c.requires.next in
    let value = c.range-word.ensures.value in
    let prefix = compared _ _ _ _ false value c.eq.ensures c.if-eq.false in
    let base = compared _ _ _ _ false value c.eq-2.ensures c.if-eq-2.false in
    λ pool. or_nowhere (other_tag_nowhere (codes "@prefix") (prefix_and_dot text) pool here prefix)
    (other_tag_nowhere (codes "@base") (base_and_dot text) pool here base)
