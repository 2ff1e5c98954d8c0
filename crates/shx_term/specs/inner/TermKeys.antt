-- What the hashers of terms have read when they begin.
use Rattle.std.specs.Prelude.{◌≡◌, ℕ, List, length}
use Rattle.std.specs.Hash.FoldHasher as folding
use Rattle.std.specs.declared.hash.FoldHasher.{FoldHasher}
use Rattle.shx_term.specs.declared.term_keys.TermKeys.{TermKeys}

abbrev pub first_hasher : TermKeys → FoldHasher
first_hasher keys = keys.first

-- a hasher that has read a key, and nothing else
abbrev pub keyed : List ℕ → FoldHasher
keyed key = folding.write folding.initial key

-- under some key of 16 bytes
pub record IsDrawn (keys : TermKeys) : Type 0 where
  pub key : List ℕ
  pub long : length key ≡ 16
  pub begins : first_hasher keys ≡ keyed key
