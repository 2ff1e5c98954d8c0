use Rattle.std.proofs.Common.{refl, ◌∙◌}
use Rattle.std.proofs.lemmas.Bool.{false≢true}
use Rattle.std.proofs.lemmas.List.Elements.{All-nil}
use Rattle.shx_term.specs.ValidTriples.{IsValidTermTriple}
use Rattle.shx_term.proofs.MemberLemmas.{none_in_empty}
use Rattle.ttl_meaning.proofs.reader_state.ReaderState.new.Goals as goal

pub returns : goal.returns
returns c = record {
  fault = refl;
  keeps = λ _. record {
    fault = refl;
    scope = refl;
    base = c.new.ensures ∙ c.in_ok-copy.ensures;
    prefixes = λ name. rw c.new-2.ensures.empty refl;
    labels = λ label.
        rw c.new-3.ensures.empty (λ e. absurd (false≢true e), λ h. absurd (none_in_empty label h));
    next = refl;
    contexts = rw c.new-4.ensures.items tt;
    held = c.new-5.ensures.bytes;
    held_at = refl;
    stated = c.new-6.ensures _ refl refl refl;
    valid = All-nil IsValidTermTriple;
    vocabulary = c.len.ensures.vocabulary;
  };
}
