-- What a walk over a form says, whatever may follow the form: the next token decides.
use Rattle.std.specs.Prelude.{◌≡◌, ℕ, Bool, true, false, List}
use Rattle.ttl_tokens.specs.Form.{Then, is_empty, begins}
use Rattle.ttl_tokens.specs.Walks.{Never, Same}
use Rattle.ttl_tokens.specs.declared.token.Token.{Token}
use Rattle.ttl_read.specs.Grammar.{Step, One, Do, Place, Rule, StepsTo}

-- whether an item takes no token, and which tokens it takes
abbrev pub is_done : Step → Bool
is_done (One test act) = false
is_done (Do act) = true

abbrev pub may_take : Step → Token → Bool
may_take (One test act) t = test t
may_take (Do act) t = false

abbrev pub takes_no_token : Rule → Bool
takes_no_token f = is_empty is_done f

abbrev pub may_begin : Rule → Token → Bool
may_begin f t = begins is_done may_take f t

-- the form takes a token, and begins with none of these
pub record Avoids (stop : Token → Bool) (g : Rule) : Type 0 where
  pub some : takes_no_token g ≡ false
  pub other : (t : Token) → stop t ≡ true → may_begin g t ≡ false

-- whatever comes behind f and begins with none of these tokens: at x, it comes at y
pub record Leads (text : List ℕ) (f : Rule) (stop : Token → Bool) (x y : Place) : Type 0 where
  pub on : (g : Rule) → Avoids stop g → Same (StepsTo text) (Then f g) x g y

-- ... at x, f and it are nowhere
pub record Fails (text : List ℕ) (f : Rule) (stop : Token → Bool) (x : Place) : Type 0 where
  pub none : (g : Rule) → Avoids stop g → Never (StepsTo text) (Then f g) x
