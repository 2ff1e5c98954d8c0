use Rattle.std.proofs.Common.{◌≡◌, ◌∙◌, ℕ, zero, suc, ◌<◌, true, false, List, [], ◌∷◌, length, get_or, IsUtf8}
use Rattle.std.proofs.Common.{sym, subst, arith}
use Rattle.std.specs.Borrow.{Bor}
use Rattle.std.specs.List.{list_any}
use Rattle.std.proofs.lemmas.Bool.{or_left, or_right}
use Rattle.std.proofs.lemmas.List.{get_or_default}
use Rattle.std.proofs.lemmas.List.Elements.{AllWithin-more}
use Rattle.command_words.specs.Words.{is_barred, texts_of}
use Rattle.command_words.specs.inner.Allowed.{IsAllowed}
use Rattle.command_words.proofs.words.may_stand.Goals as goal

barred_at : (words : List (Bor (List ℕ))) (k : ℕ) (d : Bor (List ℕ)) → k < length words
    → is_barred (get_or words k d).now ≡ true → list_any is_barred (texts_of words) ≡ true
barred_at [] k d inside h = absurd (omega arith)
barred_at (w ∷ ws) zero d inside h = or_left (is_barred w.now) (list_any is_barred (texts_of ws)) h
barred_at (w ∷ ws) (suc k) d inside h =
    or_right (is_barred w.now) (list_any is_barred (texts_of ws)) (barred_at ws k d (omega arith) h)

allowed_at : (words : List (Bor (List ℕ))) (k : ℕ) (d e : Bor (List ℕ)) → k < length words
    → IsUtf8 (get_or words k e).now → is_barred (get_or words k e).now ≡ false
    → IsAllowed (get_or words k d).now
allowed_at words k d e inside utf8 stands =
    subst (λ (w : Bor (List ℕ)). IsAllowed w.now) (get_or_default words k e d inside)
    (record { utf8 = utf8; stands = stands })

pub returns-then-is_barred-clause-no : goal.returns-then-is_barred-clause-no
returns-then-is_barred-clause-no c = λ answer.
    barred_at c.args.words.now c.loop-word.word-index _ c.loop-word-test.true
    (sym c.is_barred.ensures.barred ∙ c.if-is_barred.true)

pub loop-word-preserved : goal.loop-word-preserved
loop-word-preserved c =
    let words = c.args.words.now in
    let at = c.loop-word.word-index in
    AllWithin-more (λ (word : Bor (List ℕ)). IsAllowed word.now) words 0 at c.loop-word.invariant
    (λ d. allowed_at words at d _ c.loop-word-test.true c.is_barred.ensures.utf8
    (sym c.is_barred.ensures.barred ∙ c.if-is_barred.false))

pub returns-clause-yes : goal.returns-clause-yes
returns-clause-yes c = λ answer k d inside. c.loop-word.invariant k d (omega arith) (omega arith)
