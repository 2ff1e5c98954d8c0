-- What becomes of the keys that are read: notes of which a later state has more than an earlier one.
use Rattle.std.specs.Prelude.{List, [], ◌++◌}
use Rattle.shx_term.specs.Members.{SameMembers}
use Rattle.graph_view.specs.declared.key.Key.{Key}

-- what is noted in two steps is noted in one, and of keys the members count alone
pub record IsNoting {N : Type 0} (notes : N → N → List Key → Type 0) : Type 0 where
  pub none : (a : N) → notes a a []
  pub then : {a b c : N} (keys more : List Key) → notes a b keys → notes b c more → notes a c (keys ++ more)
  pub same : {a b : N} (keys others : List Key) → SameMembers keys others → notes a b keys → notes a b others
