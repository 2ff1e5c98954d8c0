-- What is remembered of pairs: their results, and what these were read from. Something is kept for some
-- pairs. Beside it there is what is staged: for a pair an answer, which hides what is kept; or a mask, under
-- which nothing is remembered of it.
use Rattle.std.specs.Prelude.{◌≡◌, ℕ, false, List, [], ◌∷◌, Option, Some, None, Contains, ◌⊎◌, filter}
use Rattle.std.specs.Prelude.{flat_map, if◌then◌else◌, is_some, length}
use Rattle.std.specs.FinMap.{FinMap, from_entries}
use Rattle.std.specs.Map.{values_of}
use Rattle.std.specs.declared.cmp.Ordering.{Ordering}
use Rattle.std.specs.Ordering.{nat_cmp, ordering_then}
use Rattle.shx_term.specs.declared.triple.Triple.{Triple}
use Rattle.graph_view.specs.declared.key.Key.{Key}
use Rattle.graph_view.specs.Key.{is_answer}
use Rattle.graph_view.specs.Reads.{IsTouchedBy}
use Rattle.comp_core.specs.declared.pair.Pair.{Pair}
use Rattle.comp_core.specs.Memo.{Remembered}
use Rattle.comp_core.specs.Pairs.{answer_key, same_pair}
use Rattle.read_records.specs.declared.reader.Reader.{Reader}
use Rattle.read_records.specs.declared.reader.Reader.TheVariants.{OfPair, OfTarget}
use Rattle.read_records.specs.Store.{Stored, change_for, changed_to, kept_for}

-- the results of a pair, and the keys that they were read from
abbrev pub Answer : Type 0
Answer = Remembered (List Key)

-- what is kept, and what is staged
abbrev pub RecallState : Type 0
RecallState = Stored Answer

-- ---- what is remembered

-- what is kept of a pair, whether it is masked or not
abbrev pub kept_of : RecallState → Pair → Option Answer
kept_of state p = kept_for state (OfPair p)

-- what is staged for it: an answer, or `None` where it is masked
abbrev pub staged_of : RecallState → Pair → Option (Option Answer)
staged_of state p = change_for state (OfPair p)

-- what is remembered of it: what is staged for it, or what is kept where nothing is
abbrev pub recalled : RecallState → Pair → Option Answer
recalled state p = changed_to (staged_of state p) (kept_of state p)

-- how many answers are kept
abbrev pub kept_count : RecallState → ℕ
kept_count state = length (filter (λ kept. is_some kept) (values_of state.kept))

-- ---- what is kept, as a finite map

-- by shape, and then by node
abbrev pub pair_cmp : Pair → Pair → Ordering
pair_cmp a b = ordering_then (nat_cmp a.shape b.shape) (nat_cmp a.node b.node)

abbrev pub entry_of : Pair → Option Answer → List (Pair × Answer)
entry_of p None = []
entry_of p (Some answer) = (p, answer) ∷ []

abbrev pub entry_at : RecallState → Reader → List (Pair × Answer)
entry_at state (OfTarget n) = []
entry_at state (OfPair p) = entry_of p (kept_of state p)

-- each pair of which something is kept, with what is
abbrev pub all_kept : RecallState → FinMap pair_cmp Answer
all_kept state = from_entries (flat_map (λ e. entry_at state e.0) state.kept)

-- ---- what changes

-- the same is kept
pub record KeepsSame (old new : RecallState) : Type 0 where
  pub each : (p : Pair) → kept_of new p ≡ kept_of old p

-- the same is staged, and the same pairs are masked
pub record StagesSame (old new : RecallState) : Type 0 where
  pub each : (p : Pair) → staged_of new p ≡ staged_of old p

-- this answer is staged for a pair, in the place of what was; for all others the same
pub record StagesAnswer (old new : RecallState) (p : Pair) (answer : Answer) : Type 0 where
  pub each : (q : Pair) → staged_of new q ≡ (if same_pair p q then Some (Some answer) else staged_of old q)

-- ---- answers that rest on others

-- what is known of a pair was read from what was found of another
pub record RestsOn (known : Pair → Option Answer) (p d : Pair) : Type 0 where
  pub answer : Answer
  pub is : known p ≡ Some answer
  pub read : Contains answer.reads (answer_key d)

-- from a pair past these to another, each of which rests on the next
abbrev pub LeadsTo : (Pair → Option Answer) → Pair → List Pair → Pair → Type 0
LeadsTo known p [] q = p ≡ q
LeadsTo known p (d ∷ ds) q = RestsOn known p d × LeadsTo known d ds q

-- what is kept of the pair was read from a key that one of the triples touches
pub record IsTouchedAt (state : RecallState) (changed : List Triple) (p : Pair) : Type 0 where
  pub answer : Answer
  pub kept : kept_of state p ≡ Some answer
  pub triple : Triple
  pub changes : Contains changed triple
  pub touched : IsTouchedBy triple answer.reads

-- that is so of the pair, or of one on which it rests in however many steps
pub record IsReached (state : RecallState) (changed : List Triple) (p : Pair) : Type 0 where
  pub last : Pair
  pub past : List Pair
  pub leads : LeadsTo (kept_of state) p past last
  pub touched : IsTouchedAt state changed last

-- a key that was read for what is remembered of a pair to which one leads whose answer is among these keys
pub record IsReadBelow (state : RecallState) (keys : List Key) (key : Key) : Type 0 where
  pub first : Pair
  pub among : Contains keys (answer_key first)
  pub past : List Pair
  pub last : Pair
  pub leads : LeadsTo (recalled state) first past last
  pub answer : Answer
  pub is : recalled state last ≡ Some answer
  pub read : Contains answer.reads key

-- one of these keys, or one that was read for what is remembered of a pair whose answer is among them, in
-- however many steps; the keys of answers left out
pub record IsReadInAll (state : RecallState) (keys : List Key) (key : Key) : Type 0 where
  pub part : is_answer key ≡ false
  pub read : Contains keys key ⊎ IsReadBelow state keys key

-- one of the triples reaches the pair, for which nothing was staged, and which is masked now
pub record IsNewlyMasked (old new : RecallState) (changed : List Triple) (p : Pair) : Type 0 where
  pub reached : IsReached old changed p
  pub before : staged_of old p ≡ None
  pub now : staged_of new p ≡ Some None

-- no pair is masked beside those that were, but some that the triples reach; what is staged stays
pub record MasksAtMost (old new : RecallState) (changed : List Triple) : Type 0 where
  pub each : (p : Pair)
      → (staged_of new p ≡ staged_of old p) ⊎ IsNewlyMasked old new changed p

-- each pair is masked that the triples reach, but those for which something is staged
pub record MasksReached (old new : RecallState) (changed : List Triple) : Type 0 where
  pub each : (p : Pair) → IsReached old changed p → staged_of old p ≡ None → staged_of new p ≡ Some None

-- what was remembered is kept, and nothing else is
pub record KeepsRecalled (old new : RecallState) : Type 0 where
  pub each : (p : Pair) → kept_of new p ≡ recalled old p
