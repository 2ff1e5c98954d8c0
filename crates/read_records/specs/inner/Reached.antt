-- Steps of the searches along answers.
use Rattle.std.specs.Prelude.{◌≡◌, false, List, ◌++◌, Contains, ◌↔◌, ◌⊎◌}
use Rattle.graph_view.specs.declared.key.Key.{Key}
use Rattle.graph_view.specs.Key.{is_answer}
use Rattle.comp_core.specs.declared.pair.Pair.{Pair}
use Rattle.comp_core.specs.Pairs.{answer_key}
use Rattle.read_records.specs.Recall.{Answer, RecallState, kept_of}
use Rattle.std.specs.Prelude.{Some}

-- these are there beside what was, which stands as it stood
pub record Gains (old new : List Pair) (Gained : Pair → Type 0) : Type 0 where
  pub more : List Pair
  pub behind : new ≡ old ++ more
  pub each : (p : Pair) → Contains new p ↔ (Contains old p ⊎ Gained p)

-- what is kept of the pair was read from one of these keys
pub record IsReadFrom (state : RecallState) (keys : List Key) (p : Pair) : Type 0 where
  pub answer : Answer
  pub kept : kept_of state p ≡ Some answer
  pub key : Key
  pub among : Contains keys key
  pub read : Contains answer.reads key

abbrev pub AddsReaders : RecallState → List Key → List Pair → List Pair → Type 0
AddsReaders state keys old new = Gains old new (IsReadFrom state keys)

-- of some keys the answers are there, and the parts of the graph
pub record AddsParts (keys : List Key) (old new : List Pair) (before after : List Key) : Type 0 where
  pub answers : Gains old new (λ p. Contains keys (answer_key p))
  pub parts : (key : Key)
      → Contains after key ↔ (Contains before key ⊎ (Contains keys key × (is_answer key ≡ false)))
