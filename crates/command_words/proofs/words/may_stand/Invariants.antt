use Rattle.std.specs.List.{AllWithin}
use Rattle.command_words.specs.inner.Allowed.{IsAllowed}
use Rattle.command_words.proofs.words.may_stand.Given as goal

abbrev pub invariant-loop-word : goal.invariant-loop-word
invariant-loop-word l = AllWithin (λ word. IsAllowed word.now) l.words 0 l.word-index
