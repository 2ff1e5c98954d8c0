-- Laws of what a reader answers: its result is that of the call that reads a part.
use Rattle.std.proofs.Common.{◌≡◌, ◌≤◌, ℕ, Bool, List, sym, subst, Result, Ok, Err}
use Rattle.std.proofs.Common.{OnOk}
use Rattle.std.specs.Prelude.{IsErrAnd}
use Rattle.shx_term.specs.Pool.{Pooled}
use Rattle.ttl_tokens.specs.declared.token.Token.{Token}
use Rattle.ttl_tokens.specs.Form.{Then, Or}
use Rattle.ttl_read.specs.declared.reader.Reader.{Reader}
use Rattle.ttl_read.specs.declared.reader.Refused.{Refused}
use Rattle.ttl_read.specs.declared.reader.Refused.TheVariants.{Syntax, Memory}
use Rattle.ttl_read.specs.declared.reader.Tokens.{Tokens}
use Rattle.ttl_read.specs.inner.Follows.{Avoids}
use Rattle.ttl_read.specs.Grammar.{Rule}
use Rattle.ttl_read.specs.inner.Reads.{Stands, Advances, Passes, IsNowhere, ParsesAlone, Reads, Refuses}
use Rattle.ttl_read.specs.inner.Reads.{Parses}
use Rattle.ttl_read.proofs.HereLemmas.{advances_on}
use Rattle.ttl_read.proofs.PassLemmas.{then_passes, behind_nowhere, left_passes, right_passes, or_nowhere}
use Rattle.ttl_read.proofs.PassLemmas.{passes_reads, nowhere_refuses, reads_then_passes, reads_then_nowhere}
use Rattle.ttl_read.proofs.ReadLemmas.{then_reads, behind_refuses, nothing_goes_on, left_reads, right_reads}
use Rattle.ttl_read.proofs.ReadLemmas.{or_refuses}

-- ---- forms that nothing follows

-- the result of a part is that of the whole
pub alone_handed_on : {text : List ℕ} {f g : Rule} {r m r' : Reader} {p q p' : Pooled}
    (result : Result (Unit {0}) Refused) → ParsesAlone text f m q r' p' result
    → (Passes text f m q r' p' → Passes text g r p r' p') → (IsNowhere text f m q → IsNowhere text g r p)
    → ParsesAlone text g r p r' p' result
alone_handed_on (Ok u) a passes nowhere = passes a
alone_handed_on (Err Syntax) a passes nowhere = nowhere a
alone_handed_on (Err Memory) a passes nowhere = tt

-- f was passed, and the answer is on what comes behind it
pub then_alone : {text : List ℕ} {f : Rule} {r m : Reader} {p q : Pooled} → Passes text f r p m q → (g : Rule)
    (r' : Reader) (p' : Pooled) (result : Result (Unit {0}) Refused) → ParsesAlone text g m q r' p' result
    → ParsesAlone text (Then f g) r p r' p' result
then_alone a g r' p' result b = alone_handed_on result b (λ b. then_passes a b) (λ n. behind_nowhere a n)

-- f leads to g, which comes next, and the answer is on g
pub leads_alone : {text : List ℕ} {f g : Rule} {stop : Token → Bool} {r m : Reader} {p q : Pooled}
    → Avoids stop g → Reads text f stop r p m q → (r' : Reader) (p' : Pooled)
    (result : Result (Unit {0}) Refused) → ParsesAlone text g m q r' p' result
    → ParsesAlone text (Then f g) r p r' p' result
leads_alone avoids a r' p' result b =
    alone_handed_on result b (λ b. reads_then_passes avoids a b) (λ n. reads_then_nowhere avoids a n)

-- f is nowhere, and the answer is on g
pub right_alone : {text : List ℕ} {f : Rule} {r : Reader} {p : Pooled} → IsNowhere text f r p → (g : Rule)
    (r' : Reader) (p' : Pooled) (result : Result (Unit {0}) Refused) → ParsesAlone text g r p r' p' result
    → ParsesAlone text (Or f g) r p r' p' result
right_alone n g r' p' result a = alone_handed_on result a (λ a. right_passes n a) (λ m. or_nowhere n m)

-- g is nowhere, and the answer is on f
pub left_alone : {text : List ℕ} {g : Rule} {r : Reader} {p : Pooled} → IsNowhere text g r p → (f : Rule)
    (r' : Reader) (p' : Pooled) (result : Result (Unit {0}) Refused) → ParsesAlone text f r p r' p' result
    → ParsesAlone text (Or f g) r p r' p' result
left_alone n f r' p' result a = alone_handed_on result a (λ a. left_passes a n) (λ m. or_nowhere m n)

-- ---- whatever may follow

-- the result of a part is that of the whole
pub handed_on : {text : List ℕ} {f g : Rule} {next stop : Token → Bool} {r m r' : Reader} {p q p' : Pooled}
    (result : Result (Unit {0}) Refused)
    → Parses text f next m q r' p' result → (Reads text f next m q r' p' → Reads text g stop r p r' p')
    → (Refuses text f next m q → Refuses text g stop r p) → Parses text g stop r p r' p' result
handed_on (Ok u) a reads refuses = reads a
handed_on (Err Syntax) a reads refuses = refuses a
handed_on (Err Memory) a reads refuses = tt

-- a form that nothing follows, with whatever follows it
pub alone_parses : (text : List ℕ) (f : Rule) (stop : Token → Bool) (r : Reader) (p : Pooled) (r' : Reader)
    (p' : Pooled) (result : Result (Unit {0}) Refused) → ParsesAlone text f r p r' p' result
    → Parses text f stop r p r' p' result
alone_parses text f stop r p r' p' (Ok u) a = passes_reads a
alone_parses text f stop r p r' p' (Err Syntax) n = nowhere_refuses n
alone_parses text f stop r p r' p' (Err Memory) n = tt

-- f was read, and the answer is on what comes behind it
pub then_parses : {text : List ℕ} {f g : Rule} {next stop : Token → Bool} {r m : Reader} {p q : Pooled}
    → ((h : Rule) → Avoids stop h → Avoids next (Then g h)) → Reads text f next r p m q → (r' : Reader)
    (p' : Pooled) (result : Result (Unit {0}) Refused) → Parses text g stop m q r' p' result
    → Parses text (Then f g) stop r p r' p' result
then_parses avoids a r' p' result b =
    handed_on result b (λ b. then_reads avoids a b) (λ n. behind_refuses avoids a n)

-- ... where nothing goes on with f
pub passes_then_parses : {text : List ℕ} {f : Rule} {r m : Reader} {p q : Pooled} → Passes text f r p m q
    → (g : Rule) (stop : Token → Bool) (r' : Reader) (p' : Pooled) (result : Result (Unit {0}) Refused)
    → Parses text g stop m q r' p' result → Parses text (Then f g) stop r p r' p' result
passes_then_parses a g stop r' p' result b = then_parses (nothing_goes_on g) (passes_reads a) r' p' result b

-- f is refused, and the answer is on g
pub right_parses : {text : List ℕ} {f : Rule} {stop : Token → Bool} {r : Reader} {p : Pooled}
    → Refuses text f stop r p → (g : Rule) (r' : Reader) (p' : Pooled) (result : Result (Unit {0}) Refused)
    → Parses text g stop r p r' p' result → Parses text (Or f g) stop r p r' p' result
right_parses n g r' p' result a = handed_on result a (λ a. right_reads n a) (λ m. or_refuses n m)

-- g is refused, and the answer is on f
pub left_parses : {text : List ℕ} {g : Rule} {stop : Token → Bool} {r : Reader} {p : Pooled}
    → Refuses text g stop r p → (f : Rule) (r' : Reader) (p' : Pooled) (result : Result (Unit {0}) Refused)
    → Parses text f stop r p r' p' result → Parses text (Or f g) stop r p r' p' result
left_parses n f r' p' result a = handed_on result a (λ a. left_reads a n) (λ m. or_refuses m n)

-- ---- further on

-- past a token, and not back from there
pub answer_advances : {text : List ℕ} {a b : Tokens} → Advances text a b → (c : Tokens)
    (result : Result (Unit {0}) Refused) → OnOk result (Stands text c) → OnOk result (b.place ≤ c.place)
    → OnOk result (Advances text a c)
answer_advances first c (Ok u) stands further = advances_on c first stands further
answer_advances first c (Err e) stands further = tt

-- ---- behind a `?`

-- where a part is refused, so is the whole
pub passed_on : {text : List ℕ} {f g : Rule} {next stop : Token → Bool} {r m : Reader} {p q : Pooled}
    (r' : Reader) (p' : Pooled) (e : Refused) (result : Result (Unit {0}) Refused)
    → IsErrAnd result (λ x. x ≡ e)
    → Parses text f next m q m q (Err e) → (Refuses text f next m q → Refuses text g stop r p)
    → Parses text g stop r p r' p' result
passed_on r' p' e (Ok u) is a refuses = absurd is
passed_on {text = text} {f = f} {next = next} {m = m} {q = q} r' p' e (Err Syntax) is a refuses =
    refuses (subst (λ x. Parses text f next m q m q (Err x)) (sym is) a)
passed_on r' p' e (Err Memory) is a refuses = tt

-- ... where nothing follows the whole
pub passed_on_alone : {text : List ℕ} {f g : Rule} {next : Token → Bool} {r m : Reader} {p q : Pooled}
    (r' : Reader) (p' : Pooled) (e : Refused) (result : Result (Unit {0}) Refused)
    → IsErrAnd result (λ x. x ≡ e)
    → Parses text f next m q m q (Err e) → (Refuses text f next m q → IsNowhere text g r p)
    → ParsesAlone text g r p r' p' result
passed_on_alone r' p' e (Ok u) is a nowhere = absurd is
passed_on_alone {text = text} {f = f} {next = next} {m = m} {q = q} r' p' e (Err Syntax) is a nowhere =
    nowhere (subst (λ x. Parses text f next m q m q (Err x)) (sym is) a)
passed_on_alone r' p' e (Err Memory) is a nowhere = tt

-- ... nor the part
pub alone_passed_on : {text : List ℕ} {f g : Rule} {r m : Reader} {p q : Pooled}
    (r' : Reader) (p' : Pooled) (e : Refused) (result : Result (Unit {0}) Refused)
    → IsErrAnd result (λ x. x ≡ e)
    → ParsesAlone text f m q m q (Err e) → (IsNowhere text f m q → IsNowhere text g r p)
    → ParsesAlone text g r p r' p' result
alone_passed_on r' p' e (Ok u) is a nowhere = absurd is
alone_passed_on {text = text} {f = f} {m = m} {q = q} r' p' e (Err Syntax) is a nowhere =
    nowhere (subst (λ x. ParsesAlone text f m q m q (Err x)) (sym is) a)
alone_passed_on r' p' e (Err Memory) is a nowhere = tt
