use Rattle.std.proofs.Common.{◌≡◌, take}
use Rattle.command_words.specs.Words.{texts_of}
use Rattle.command_words.proofs.words.word_texts.Given as goal

abbrev pub invariant-loop-word : goal.invariant-loop-word
invariant-loop-word l = texts_of l.texts.items ≡ take l.word-index l.words
