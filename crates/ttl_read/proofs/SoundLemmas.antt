-- The fault of a statement, or that it has none.
use Rattle.std.proofs.Common.{◌≡◌, ℕ, ◌≤◌, length, arith, refl, sym, ap, ◌∙◌, subst, Option, Some, None}
use Rattle.std.proofs.Common.{Result, Ok, Err, is_err, true, OnErr}
use Rattle.std.specs.Str.{IsUtf8}
use Rattle.shx_term.specs.Pool.{Pooled}
use Rattle.ttl_tokens.specs.Walks.{Never, Only}
use Rattle.ttl_meaning.specs.declared.fault.TermFault.{TermFault}
use Rattle.ttl_meaning.specs.declared.reader_state.ReaderState.{ReaderState}
use Rattle.ttl_meaning.specs.declared.stated.Excess.{Excess}
use Rattle.ttl_meaning.specs.declared.stated.Excess.TheVariants.{Triples, Terms}
use Rattle.ttl_meaning.specs.inner.IsReading.{IsReading}
use Rattle.ttl_meaning.specs.IsStated.{IsWithin}
use Rattle.ttl_meaning.specs.State.{State}
use Rattle.ttl_read.specs.declared.fault.TtlFault.{TtlFault}
use Rattle.ttl_read.specs.declared.fault.TtlFault.TheVariants.{At, Memory}
use Rattle.ttl_read.specs.declared.reader.Reader.{Reader}
use Rattle.ttl_read.specs.Depth.{IsTooDeep, IsNotTooDeep}
use Rattle.ttl_read.specs.Documents.{Setting, BadTerm, TooManyTriples, TooManyTerms, TooDeep, NoStatement}
use Rattle.ttl_read.specs.Documents.{code_of_term}
use Rattle.ttl_read.specs.Grammar.{Place, StepsTo, statement}
use Rattle.ttl_read.specs.inner.Reads.{Passes, IsNowhere, place, start_of_next}
use Rattle.ttl_read.specs.Unique.{Settled, One, HasOneCauseAt}
use Rattle.ttl_read.proofs.NestLemmas.{derived_shallow, derived_within}
use Rattle.ttl_read.proofs.UniqueLemmas.{one_cause, one_statement, one_deep, one_nowhere}
use Rattle.ttl_read.specs.inner.Sound.{IsJudged, IsSound}

-- ---- behind a derived statement

pub term_judged : (t : Setting) (x y : Place) (r : ReaderState) (p : Pooled) (start code : ℕ)
    (fault : TermFault)
    → IsReading t.bounds y.state r p → Settled t x y → r.fault ≡ Some fault
    → code ≡ code_of_term fault.kind → HasOneCauseAt t x start code fault.at
term_judged t x y r p start code fault reads settled is number = (
  BadTerm fault,
  one_cause t x y (BadTerm fault) settled (
    y,
    settled.derived,
    sym reads.fault
        ∙ is,
  ),
  sym number,
  refl,
)

pub triples_judged : (t : Setting) (x y : Place) (r : ReaderState) (p : Pooled) (start : ℕ)
    → IsReading t.bounds y.state r p → Settled t x y → r.fault ≡ None → r.stated.excess ≡ Some Triples
    → HasOneCauseAt t x start 8 start
triples_judged t x y r p start reads settled none many =
    let free : y.state.fault ≡ None = sym reads.fault ∙ none in
    let within = subst (λ (e : Option Excess). IsWithin e t.bounds y.state.triples r.stated p) many
    (reads.keeps free).stated.within in
    (TooManyTriples, one_cause t x y TooManyTriples settled (y, settled.derived, free, within.1), refl, refl)

pub terms_judged : (t : Setting) (x y : Place) (r : ReaderState) (p : Pooled) (start : ℕ)
    → IsReading t.bounds y.state r p → Settled t x y → r.fault ≡ None → r.stated.excess ≡ Some Terms
    → HasOneCauseAt t x start 9 start
terms_judged t x y r p start reads settled none many =
    let free : y.state.fault ≡ None = sym reads.fault ∙ none in
    let within = subst (λ (e : Option Excess). IsWithin e t.bounds y.state.triples r.stated p) many
    (reads.keeps free).stated.within in (
      TooManyTerms,
      one_cause t x y TooManyTerms settled (y, settled.derived, free, within.1, within.2),
      refl,
      refl,
    )

-- no fault and no limit passed
pub sound_judged : (t : Setting) (x y : Place) (r : ReaderState) (p : Pooled) → IsReading t.bounds y.state r p
    → Settled t x y → r.fault ≡ None → r.stated.excess ≡ None → length p.terms ≤ p.limit → One t x y
sound_judged t x y r p reads settled none fits within =
    let free : y.state.fault ≡ None = sym reads.fault ∙ none in
    let stated = (reads.keeps free).stated in
    let all = subst (λ (e : Option Excess). IsWithin e t.bounds y.state.triples r.stated p) fits
    stated.within in
    one_statement t x y settled (record {
      derived = settled.derived;
      terms = free;
      triples = all.1;
      room = omega (arith, within, stated.limit, ap length all.2);
    })

-- ---- a statement

-- what is derived within the limit has no bracket too many, so no derivation leads elsewhere
settled_where : (t : Setting) (x y : Place) → IsUtf8 t.text
    → Only (StepsTo t.text) (statement t.text t.depth) x y → Settled t x y
settled_where t x y utf8 only =
    let shallow = derived_shallow t.text t.depth utf8 x y only.takes in
    record {
      derived = (shallow, (t.depth, only.takes));
      only = λ n z other. only.only z (derived_within t.text t.depth utf8 n x z shallow other);
    }

-- what is known behind it is what is known of it
pub sound_where_judged : (t : Setting) (r : Reader) (p : Pooled) (r' : Reader) (p' : Pooled) (start : ℕ)
    (result : Result (Unit {0}) TtlFault)
    → IsUtf8 t.text → Passes t.text (statement t.text t.depth) r p r' p'
    → start ≡ start_of_next r.tokens.next → IsJudged r' p' start result → IsSound t r p r' p' result
sound_where_judged t r p r' p' start (Ok u) utf8 passes begins judged = λ s reads.
    let behind = passes.on t.bounds s reads in (
      behind.0,
      behind.1,
      judged t (place r s) (place r' behind.0) behind.1
          (settled_where t (place r s) (place r' behind.0) utf8 behind.2),
    )
sound_where_judged t r p r' p' start (Err (At code at)) utf8 passes begins judged = λ s reads.
    let behind = passes.on t.bounds s reads in
    subst (λ (n : ℕ). HasOneCauseAt t (place r s) n code at) begins
    (judged t (place r s) (place r' behind.0) behind.1
    (settled_where t (place r s) (place r' behind.0) utf8 behind.2))
sound_where_judged t r p r' p' start (Err Memory) utf8 passes begins judged = tt

pub deep_where : (t : Setting) (r : Reader) (s : State) (start at : ℕ) → IsUtf8 t.text
    → IsTooDeep t.text t.depth r.tokens.place at → HasOneCauseAt t (place r s) start 7 at
deep_where t r s start at utf8 deep = (TooDeep at, one_deep t (place r s) at utf8 deep, refl, refl)

pub nowhere_where : (t : Setting) (r : Reader) (p : Pooled) (s : State) (start : ℕ) → IsUtf8 t.text
    → IsNotTooDeep t.text t.depth r.tokens.place → IsNowhere t.text (statement t.text t.depth) r p
    → IsReading t.bounds s r.reading p → start ≡ start_of_next r.tokens.next
    → HasOneCauseAt t (place r s) (start_of_next r.tokens.next) 2 start
nowhere_where t r p s start utf8 shallow none reads begins =
    (NoStatement, one_nowhere t (place r s) (shallow, nowhere), refl, sym begins)
  where
    nowhere : (n : ℕ) → Never (StepsTo t.text) (statement t.text n) (place r s)
    nowhere n = record {
      none = λ z other.
          (none.none t.bounds s reads).none z
          (derived_within t.text t.depth utf8 n (place r s) z shallow other);
    }

-- ---- where the pool is cut back

pub on_any_error : {P : Type 0} (result : Result (Unit {0}) TtlFault) → P → OnErr result P
on_any_error (Ok u) is = tt
on_any_error (Err e) is = is

-- of the pool behind it a fault says nothing
pub sound_at_fault : (t : Setting) (r : Reader) (p : Pooled) (r' : Reader) (p' q : Pooled)
    (result : Result (Unit {0}) TtlFault)
    → is_err result ≡ true → IsSound t r p r' p' result → IsSound t r p r' q result
sound_at_fault t r p r' p' q (Ok u) is sound = absurd (cc)
sound_at_fault t r p r' p' q (Err (At code at)) is sound = sound
sound_at_fault t r p r' p' q (Err Memory) is sound = tt
