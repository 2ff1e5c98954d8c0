-- What the reader of statements finds: that they have no fault, or which one.
use Rattle.std.specs.Prelude.{◌≡◌, ℕ, ◌≤◌, Bool, false, length, None, Result, Ok, Err}
use Rattle.shx_term.specs.Pool.{Pooled}
use Rattle.ttl_tokens.specs.declared.token.Token.{Token}
use Rattle.ttl_tokens.specs.declared.token.TokenKind.TheVariants.{End}
use Rattle.ttl_tokens.specs.declared.token.NoToken.{NoToken}
use Rattle.ttl_tokens.specs.Form.{Times}
use Rattle.ttl_meaning.specs.inner.IsReading.{IsReading}
use Rattle.ttl_meaning.specs.IsStated.{Bounds, terms_with}
use Rattle.ttl_meaning.specs.State.{State}
use Rattle.ttl_read.specs.declared.fault.TtlFault.{TtlFault}
use Rattle.ttl_read.specs.declared.fault.TtlFault.TheVariants.{At, Memory}
use Rattle.ttl_read.specs.declared.reader.Reader.{Reader}
use Rattle.ttl_read.specs.Documents.{Setting, IsAtEnd, BeginsAt, Reaches}
use Rattle.ttl_read.specs.Grammar.{Place, is_kind}
use Rattle.ttl_read.specs.inner.Reads.{place, start_of_next}
use Rattle.ttl_read.specs.Unique.{Settled, One, HasOneCauseAt}

-- whether the end comes next
abbrev pub is_end_next : Result Token NoToken → Bool
is_end_next (Ok token) = is_kind End token.kind
is_end_next (Err none) = false

-- behind a statement that has a derivation, by the state that is kept: no fault, or this one
abbrev pub IsJudged : Reader → Pooled → ℕ → Result (Unit {0}) TtlFault → Type 0
IsJudged r p start (Ok u) =
    (t : Setting) (x y : Place) → IsReading t.bounds y.state r.reading p → Settled t x y → One t x y
IsJudged r p start (Err (At code at)) =
    (t : Setting) (x y : Place) → IsReading t.bounds y.state r.reading p → Settled t x y
    → HasOneCauseAt t x start code at
IsJudged r p start (Err Memory) = Unit

-- one statement without fault, or its fault
abbrev pub IsSound : Setting → Reader → Pooled → Reader → Pooled → Result (Unit {0}) TtlFault → Type 0
IsSound t r p r' p' (Ok u) =
    (s : State) → IsReading t.bounds s r.reading p
    → (s' : State) × IsReading t.bounds s' r'.reading p' × One t (place r s) (place r' s')
IsSound t r p r' p' (Err (At code at)) =
    (s : State) → IsReading t.bounds s r.reading p
    → HasOneCauseAt t (place r s) (start_of_next r.tokens.next) code at
IsSound t r p r' p' (Err Memory) = Unit

-- from one reader another is reached by statements without fault
pub record Led (t : Setting) (r : Reader) (p : Pooled) (s : State) (r' : Reader) (p' : Pooled) : Type 0 where
  pub state : State
  pub reads : IsReading t.bounds state r'.reading p'
  pub count : ℕ
  pub statements : Times (One t) count (place r s) (place r' state)

-- a state within the limits, without a fault
pub record IsGood (bounds : Bounds) (s : State) : Type 0 where
  pub terms : s.fault ≡ None
  pub triples : length s.triples ≤ bounds.triples
  pub room : length (terms_with bounds s.triples) ≤ bounds.terms

-- of the statements from here on, the first that has a fault has this one; the pool holds the terms of those
-- before it
pub record LedWrong (t : Setting) (x : Place) (pool : Pooled) (code at : ℕ) : Type 0 where
  pub reached : Place
  pub count : ℕ
  pub statements : Times (One t) count x reached
  pub start : ℕ
  pub begins : BeginsAt t.text reached.at start
  pub more : IsAtEnd t.text reached.at → ⊥
  pub cause : HasOneCauseAt t reached start code at
  pub terms : IsGood t.bounds x.state → pool.terms ≡ terms_with t.bounds reached.state.triples

-- statements without fault to the end, or the fault of the first that has one
abbrev pub Concludes : Setting → Reader → Pooled → Reader → Pooled → Result (Unit {0}) TtlFault → Type 0
Concludes t r p r' p' (Ok u) =
    (s : State) → IsReading t.bounds s r.reading p
    → Led t r p s r' p' × IsAtEnd t.text r'.tokens.place
Concludes t r p r' p' (Err (At code at)) =
    (s : State) → IsReading t.bounds s r.reading p → LedWrong t (place r s) p' code at
Concludes t r p r' p' (Err Memory) = Unit

-- ---- the pool

-- where a good state was kept, statements without fault lead on from it to a place whose terms the pool holds
abbrev pub Holds : Setting → Reader → Pooled → State → Pooled → Type 0
Holds t r p s p' =
    IsGood t.bounds s → IsReading t.bounds s r.reading p
    → (y : Place) × Reaches t (place r s) y × (p'.terms ≡ terms_with t.bounds y.state.triples)
