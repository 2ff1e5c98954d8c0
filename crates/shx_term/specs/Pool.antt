-- What a pool holds: a list of distinct terms, where a term's number is its place, and how many it may hold.
use Rattle.std.specs.Prelude.{◌≡◌, ℕ, ◌<◌, ◌≤◌, ◌^◌, Bool, false, List, [], ◌∷◌, ◌++◌}
use Rattle.std.specs.Prelude.{if◌then◌else◌, codes, length, fold}
use Rattle.std.specs.List.{list_any}
use Rattle.shx_term.specs.declared.pool.PoolFault.{PoolFault}
use Rattle.shx_term.specs.declared.pool.PoolFault.TheVariants.{Full, Memory}
use Rattle.shx_term.specs.declared.term.Term.{Term}
use Rattle.shx_term.specs.TermOrder.{same_term}
use Rattle.shx_term.specs.Vocabulary.{HasVocabulary}

pub record Pooled : Type 0 where
  pub terms : List Term
  pub limit : ℕ

-- whether the term is among these
abbrev pub is_held : List Term → Term → Bool
is_held terms t = list_any (same_term t) terms

-- the terms, with t behind them where it is new
abbrev pub with_term : List Term → Term → List Term
with_term terms t = if is_held terms t then terms else terms ++ t ∷ []

-- the same for each of a list, in turn
abbrev pub with_terms : List Term → List Term → List Term
with_terms terms ts = fold with_term terms ts

-- as many terms as the limit are held, and t is none of them
pub record IsFullFor (pool : Pooled) (t : Term) : Type 0 where
  pub at_limit : length pool.terms ≡ pool.limit
  pub absent : is_held pool.terms t ≡ false

-- fewer terms than the limit are held, and t is none of them
pub record HasRoomFor (pool : Pooled) (t : Term) : Type 0 where
  pub below_limit : length pool.terms < pool.limit
  pub absent : is_held pool.terms t ≡ false

-- what is so of every pool: it holds no more than its limit, which is a number of 32 bits, and begins with
-- the vocabulary
pub record IsPool (terms : List Term) (limit : ℕ) : Type 0 where
  pub within : length terms ≤ limit
  pub limit_fits : limit < 2 ^ 32
  pub vocabulary : HasVocabulary terms

-- how a fault is printed
abbrev pub fault_text : PoolFault → List ℕ
fault_text Full = codes "the pool is full"
fault_text Memory = codes "out of memory"
