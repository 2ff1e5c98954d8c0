use Rattle.std.proofs.Common.{refl}
use Rattle.std.specs.Str.{chars}
use Rattle.ttl_tokens.specs.declared.token.TokenKind.TheVariants.{WordA, WordTrue, WordFalse, WordPrefix}
use Rattle.ttl_tokens.specs.declared.token.TokenKind.TheVariants.{WordBase}
use Rattle.ttl_tokens.proofs.WordLemmas.{no_word, word_found}
use Rattle.ttl_tokens.proofs.words.word.Goals as goal

pub returns-in-Some : goal.returns-in-Some
unfolding chars
returns-in-Some c = word_found WordA _ _ refl c.in-Some.ensures

pub returns-in-Some-written : goal.returns-in-Some-written
unfolding chars
returns-in-Some-written c = word_found WordTrue _ _ refl c.in-Some-written.ensures

pub returns-in-Some-written-2 : goal.returns-in-Some-written-2
unfolding chars
returns-in-Some-written-2 c = word_found WordFalse _ _ refl c.in-Some-written-2.ensures

pub returns-in-Some-in_any_case : goal.returns-in-Some-in_any_case
unfolding chars
returns-in-Some-in_any_case c = word_found WordPrefix _ _ refl c.in-Some-in_any_case.ensures

pub returns-in-Some-in_any_case-2 : goal.returns-in-Some-in_any_case-2
unfolding chars
returns-in-Some-in_any_case-2 c = word_found WordBase _ _ refl c.in-Some-in_any_case-2.ensures

pub returns : goal.returns
unfolding chars
returns c =
    no_word c.in_default.ensures c.in_default-written.ensures c.in_default-written-2.ensures
    c.in_default-in_any_case.ensures c.in_default-in_any_case-2.ensures
