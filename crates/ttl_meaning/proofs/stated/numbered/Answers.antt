use Rattle.std.proofs.Common.{◌≡◌, ◌∙◌, ap, arith, length}
use Rattle.std.proofs.lemmas.Result.{err_from_is_err_and}
use Rattle.shx_term.specs.Pool.{with_term}
use Rattle.ttl_meaning.specs.IsStated.{triple_of}
use Rattle.shx_term.proofs.NumberedLemmas.{numbered-in_turn}
use Rattle.ttl_meaning.proofs.PlacedLemmas.{IsPlaced-kept}
use Rattle.ttl_meaning.proofs.StatedLemmas.{past_limit}
use Rattle.ttl_meaning.proofs.stated.numbered.Goals as goal

pub returns-clause-triple : goal.returns-clause-triple
returns-clause-triple c = λ s p o is_s is_p is_o.
    let first = c.in_ok-s.ensures in
    let second = c.in_ok-p.ensures in
    let third = c.in_ok-o.ensures in
    let verb = IsPlaced-kept _ _ first.keeps c.args.verb.now p is_p in
    let object =
    IsPlaced-kept _ _ second.keeps c.args.object o
    (IsPlaced-kept _ _ first.keeps c.args.object o is_o) in
    numbered-in_turn c.number.new.pool.terms c.number-2.new.pool.terms c.into_number.new.pool.terms
    (triple_of s p o) c.in_ok-s.s c.in_ok-p.p c.in_ok-o.o (second.entered p verb) (third.entered o object)
    (first.found s is_s) (second.found p verb) (third.found o object)

pub returns-clause-places : goal.returns-clause-places
returns-clause-places c = λ s p is_s is_p.
    let first = c.in_ok-s.ensures in
    let second = c.in_ok-p.ensures in
    let third = c.in_ok-o.ensures in
    let verb = IsPlaced-kept _ _ first.keeps c.args.verb.now p is_p in
    (third.keeps.each _ _ (second.keeps.each _ _ (first.id s is_s)), third.keeps.each _ _ (second.id p verb))

pub returns-in_err-o-clause-full : goal.returns-in_err-o-clause-full
returns-in_err-o-clause-full c = λ s p o is_s is_p is_o.
    let first = c.in_ok-s.ensures in
    let second = c.in_ok-p.ensures in
    let verb = IsPlaced-kept _ _ first.keeps c.args.verb.now p is_p in
    let object =
    IsPlaced-kept _ _ second.keeps c.args.object o
    (IsPlaced-kept _ _ first.keeps c.args.object o is_o) in
    let terms : c.number-2.new.pool.terms ≡ with_term (with_term c.args.pool.now.terms s) p =
    second.entered p verb ∙ ap (λ xs. with_term xs p) (first.entered s is_s) in
    let exit = err_from_is_err_and c.from_residual-in_err-o.result c.from_residual-in_err-o.ensures.1 in
    rw (exit.1, exit.2) (λ full.
    let past = past_limit c.number-2.new.pool o (c.in_err-o.ensures.full o object full) in
    omega (arith, past, first.keeps.limit, second.keeps.limit, ap (λ xs. length (with_term xs o)) terms))
