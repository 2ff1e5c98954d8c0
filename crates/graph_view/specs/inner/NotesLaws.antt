-- The two kinds of notes keep the laws of notes.
use Rattle.std.proofs.Common.{List, ◌++◌, inl, inr}
use Rattle.std.proofs.lemmas.List.Elements.{Contains-append_cases, Contains-append_left}
use Rattle.std.proofs.lemmas.List.Elements.{Contains-append_right}
use Rattle.shx_term.specs.Members.{Adds, SameMembers}
use Rattle.shx_term.proofs.SetLemmas.{Adds-none, Adds-then, Adds-same}
use Rattle.graph_view.specs.declared.key.Key.{Key}
use Rattle.graph_view.specs.Notes.{IsNoting}

pub reads_laws : IsNoting {N = List Key} Adds
reads_laws = record { none = Adds-none; then = Adds-then; same = Adds-same }

pub reads_more : (a b keys more : List Key) → SameMembers a keys → Adds a b more
    → SameMembers b (keys ++ more)
reads_more a b keys more is adds = record {
  each = λ x. (
    λ c. elim ((adds.each x).0 c) [
      | inl held ↦ Contains-append_left keys more x ((is.each x).0 held)
      | inr added ↦ Contains-append_right keys more x added
    ],
    λ c. (adds.each x).1 (elim (Contains-append_cases keys more x c) [
      | inl held ↦ inl ((is.each x).1 held)
      | inr added ↦ inr added
    ]),
  );
}

pub unnoted_laws : {N : Type 0} → IsNoting {N = N} (λ a b keys. Unit)
unnoted_laws = record {
  none = λ a. tt;
  then = λ keys more one other. tt;
  same = λ keys others alike one. tt;
}
