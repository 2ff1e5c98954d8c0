use Rattle.std.proofs.Common.{◌≡◌, ◌∙◌, ℕ, List, Option, Some, None, option_map, option_and_then}
use Rattle.std.proofs.Common.{if◌then◌else◌, ap, subst, sym}
use Rattle.std.specs.Borrow.{Bor}
use Rattle.std.specs.List.{All}
use Rattle.clap.specs.Words.{found_of}
use Rattle.clap.specs.declared.parser.matches.Found.{Found}
use Rattle.command_words.specs.Asked.{Asked}
use Rattle.command_words.specs.Words.{Seen, asked, command_words, nothing_seen, read_from, texts_of}
use Rattle.command_words.specs.inner.Allowed.{IsAllowed}
use Rattle.command_words.specs.inner.Found.{AreRead, HasSeen}
use Rattle.command_words.proofs.ReadLemmas.{each_allowed, none_barred}
use Rattle.command_words.proofs.words.read_words.Goals as goal

-- matches are asked what the reading of the words asks for
answered : (words : List (Bor (List ℕ))) (found : Found) (answer : Option Asked)
    → All (λ word. IsAllowed word.now) words
    → AreRead (Some found) (read_from nothing_seen (texts_of words))
    → ((seen : Seen) → HasSeen found seen → answer ≡ asked seen) → answer ≡ command_words (texts_of words)
answered words found answer allowed read asks =
    go (read_from nothing_seen (texts_of words)) read
    ∙ sym (ap (λ b. if b then None else option_and_then asked (read_from nothing_seen (texts_of words)))
    (none_barred (texts_of words) (each_allowed words allowed)))
  where
    go : (reading : Option Seen) → AreRead (Some found) reading → answer ≡ option_and_then asked reading
    go None h = absurd h
    go (Some seen) h = asks seen h

pub matches_of-requires : goal.matches_of-requires
matches_of-requires c = c.may_stand.ensures.yes c.if-not-may_stand.false

pub returns-in-Some-clause-asked : goal.returns-in-Some-clause-asked
returns-in-Some-clause-asked c =
    let words = c.args.words.now in
    answered words (found_of c.in-Some.matches) _ (c.may_stand.ensures.yes c.if-not-may_stand.false)
    (subst (λ matches. AreRead (option_map found_of matches)
    (read_from nothing_seen (texts_of words))) c.in-Some.is
    c.in_ok-matches.ensures) c.asked_by.ensures.asked
