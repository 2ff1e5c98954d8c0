-- A text is read in one way, and what a document states has numbers.
use Rattle.std.proofs.Common.{◌≡◌, ℕ, zero, suc, ◌≤◌, List, [], ◌∷◌, length, Some, None, refl, sym, ap}
use Rattle.std.proofs.Common.{◌∙◌, subst, arith}
use Rattle.std.specs.Prelude.{All}
use Rattle.std.specs.List.{cons_option}
use Rattle.shx_outside.specs.declared.role.Role.{Role}
use Rattle.shx_term.specs.declared.limits.Limits.{Limits}
use Rattle.shx_term.specs.declared.term.Scope.{Scope}
use Rattle.shx_term.specs.declared.term.Term.{Term}
use Rattle.shx_term.specs.declared.triple.Triple.{Triple}
use Rattle.shx_term.specs.declared.triple.TermTriple.{TermTriple}
use Rattle.shx_term.specs.Pool.{Pooled}
use Rattle.shx_term.specs.TripleTerms.{numbered, numbered_all}
use Rattle.shx_term.specs.ValidTriples.{IsValidTermTriple}
use Rattle.shx_term.proofs.MemberLemmas.{All_of_each, each_of_All}
use Rattle.graph_view.specs.Graph.{Graph, IsKnownTriple}
use Rattle.graph_view.specs.Valid.{IsValidTriple}
use Rattle.graph_view.proofs.ValidLemmas.{IsKnownTriple-valid, valid_numbered}
use Rattle.ttl_tokens.specs.Form.{Times}
use Rattle.ttl_meaning.specs.declared.document.Document.{Document}
use Rattle.ttl_meaning.specs.State.{State}
use Rattle.ttl_read.specs.Documents.{Setting, setting, IsStatement, start_of}
use Rattle.ttl_read.specs.Grammar.{Place}
use Rattle.ttl_read.specs.Unique.{IsOneFault}
use Rattle.ttl_read.specs.Stated.{States as states_document}
use Rattle.report_write.specs.declared.answer.Answer.TheVariants.{TextFault}
use Rattle.shape_text.specs.declared.refusal.Refusal.TheVariants.{Text}
use Rattle.shape_text.specs.TextReadings.{TextReading, States, Faulty, Long, IsReadAs, IsKnownDocument}
use Rattle.shape_text.specs.TextReadings.{numbered_from, setting_of}
use Rattle.shape_text.specs.Refusal.{RefusesAs}

module _ (limits : Limits) (base : List ℕ) (scope : Scope) (held : List Term) (text : List ℕ) where
  pub read_once : (a b : TextReading) → IsReadAs limits base scope held text a
      → IsReadAs limits base scope held text b → a ≡ b
  read_once (States document end) (States document' end') is is' =
      let ends : end ≡ end' = is.1.only end' is'.1.is in
      let documents : document ≡ document' =
      is.2 ∙ ap (λ (s : State). numbered_from held s.triples) ends ∙ sym is'.2 in
      λ i. States (documents i) (ends i)
  read_once (States document end) (Faulty code at) is is' = absurd (is.1.sound code at is'.1.is)
  read_once (States document end) Long is is' = absurd (omega (arith, is.0, is'))
  read_once (Faulty code at) (States document end) is is' = absurd (is.1.none end is'.1.is)
  read_once (Faulty code at) (Faulty code' at') is is' =
      let same = is.1.only code' at' is'.1.is in λ i. Faulty (same.0 i) (same.1 i)
  read_once (Faulty code at) Long is is' = absurd (omega (arith, is.0, is'))
  read_once Long (States document end) is is' = absurd (omega (arith, is, is'.0))
  read_once Long (Faulty code at) is is' = absurd (omega (arith, is, is'.0))
  read_once Long Long is is' = refl

-- ---- what a document states

-- no more triples have numbers than there are
numbered_few : (terms : List Term) (ts : List TermTriple) → length (numbered_all terms ts) ≤ length ts
numbered_few terms [] = omega arith
numbered_few terms (t ∷ ts) =
    elim (numbered terms t) as (λ o. length (cons_option o (numbered_all terms ts)) ≤ length (t ∷ ts)) [
      | None ↦ omega (arith, numbered_few terms ts)
      | Some u ↦ omega (arith, numbered_few terms ts)
    ]

-- triples over the numbers of valid ones have terms
numbered_known : (terms : List Term) (ts : List TermTriple) → All IsValidTermTriple ts
    → All (IsKnownTriple terms) (numbered_all terms ts)
numbered_known terms ts valid =
    let all = valid_numbered terms ts valid in
    All_of_each (IsKnownTriple terms) (numbered_all terms ts) (λ u c.
    IsKnownTriple-valid terms u (each_of_All (IsValidTriple terms) (numbered_all terms ts) all u c))

-- statements keep to the limit of triples
few_behind : (t : Setting) (n : ℕ) (x y : Place) → Times (IsStatement t) n x y
    → length x.state.triples ≤ t.bounds.triples → length y.state.triples ≤ t.bounds.triples
few_behind t zero x y e few = subst (λ (z : Place). length z.state.triples ≤ t.bounds.triples) e few
few_behind t (suc n) x y s few = few_behind t n s.0 y s.2 s.1.triples

abbrev pub graph : List Term → List Triple → Graph
graph terms triples = record { terms = terms; triples = triples }

-- what a reader of a text answers, in terms of what the text is read as
module _ (limits : Limits) (base : List ℕ) (scope : Scope) (text : List ℕ) (pool : Pooled)
    (limit : pool.limit ≡ limits.terms) where
  same_setting : setting text limits pool ≡ setting_of limits pool.terms text
  same_setting = λ i. setting text limits (record { terms = pool.terms; limit = limit i })

  pub fault_read : (role : Role) (code at : ℕ) → length text ≤ limits.text
      → IsOneFault (setting text limits pool) scope base code at
      → RefusesAs role (IsReadAs limits base scope pool.terms text) (Text (TextFault role code at))
  fault_read role code at within one =
      let one' = subst (λ (t : Setting). IsOneFault t scope base code at) same_setting one in
      (Faulty code at, (within, one'), refl)

  pub document_known : (document : Document) (pool' : Pooled)
      → states_document (setting text limits pool) scope base document pool'
      → IsKnownDocument limits.triples (graph pool'.terms document.triples.items)
  document_known document pool' states =
      let t = setting text limits pool in
      let reached = states.1.is.1 in
      let few : length states.0.triples ≤ limits.triples =
      subst (λ (s : State). length s.triples ≤ limits.triples) reached.3
      (few_behind t reached.1.0 (start_of text scope base) reached.0 reached.1.1 (omega arith)) in
      subst (λ (ts : List Triple). IsKnownDocument limits.triples (graph pool'.terms ts))
      (sym states.2.triples)
      (record {
        known = numbered_known pool'.terms states.0.triples states.2.valid;
        few = omega (arith, numbered_few pool'.terms states.0.triples, few);
      })
