-- The tokens of a line, one behind the other, up to its end.
use Rattle.std.proofs.Common.{◌≡◌, ℕ, Bool, true, false, List, Result, Ok, Err}
use Rattle.std.proofs.Common.{refl, sym, ◌∙◌, subst, true≢false, IfOk, IfErr, MatchOption, IsTrue, ◌↔◌}
use Rattle.std.specs.Result.{result_ok}
use Rattle.std.specs.Str.{IsUtf8}
use Rattle.ttl_tokens.specs.declared.token.NoToken.{NoToken}
use Rattle.ttl_tokens.specs.declared.token.Token.{Token}
use Rattle.ttl_tokens.specs.declared.token.TokenKind.{TokenKind}
use Rattle.ttl_tokens.specs.declared.token.TokenKind.TheVariants.{Dot, End}
use Rattle.ttl_tokens.specs.Tokens.{IsTokenAt, IsNoTokenAt}
use Rattle.ttl_tokens.proofs.OneTokenLemmas.{one_token, token_or_none}
use Rattle.ttl_read.specs.Grammar.{begins_verb, is_kind}
use Rattle.ttl_read.specs.ReadTerm.{GoesTo}
use Rattle.ttl_read.proofs.GoesToLemmas.{IsPlace, goes_within, one_end}
use Rattle.ttl_read.proofs.KindLemmas.{kind_is}
use Rattle.script_lines.specs.declared.line_form.Terms.{Terms}
use Rattle.script_lines.specs.Forms.{Comes, EndsAt, IsTriple, is_subject}
use Rattle.script_lines.specs.inner.Parts.{IsStop}

module _ (line : List ℕ) (utf8 : IsUtf8 line) (at : ℕ) where
  -- ---- one token

  -- a token comes next, or none
  pub token_known : (found : Result Token NoToken) → IfOk found (IsTokenAt line at)
      → IfErr found (λ none. IsNoTokenAt line at none.at)
      → MatchOption (result_ok found) ((token : Token) → IsTokenAt line at token → ⊥) (IsTokenAt line at)
  token_known (Ok token) here none = here
  token_known (Err fault) here none = λ token is. token_or_none line at fault.at token utf8 is none

  -- the token that comes next is not of these kinds
  pub comes_not : (kinds : TokenKind → Bool) (token : Token) → IsTokenAt line at token
      → kinds token.kind ≡ false → (other : Token) → Comes line at kinds other → ⊥
  comes_not kinds token here differs other comes =
      let same : other ≡ token = one_token line at other token utf8 comes.next here in
      true≢false (sym comes.kind ∙ subst (λ (t : Token). kinds t.kind ≡ false) (sym same) differs)

  -- no token comes next
  pub comes_none : (kinds : TokenKind → Bool) → ((token : Token) → IsTokenAt line at token → ⊥)
      → (other : Token) → Comes line at kinds other → ⊥
  comes_none kinds none other comes = none other comes.next

  -- ---- the end

  pub ends_here : (token : Token) → IsTokenAt line at token → (end : Bool) → end ≡ is_kind End token.kind
      → IsTrue end ↔ EndsAt line at
  ends_here token here end is = (
    λ holds. record { last = token; next = here; end = kind_is End token.kind (sym is ∙ holds) },
    λ ends.
        let same : ends.last ≡ token = one_token line at ends.last token utf8 ends.next here in
        is ∙ rw (sym same, ends.end) refl,
  )

  pub ends_nowhere : (fault : ℕ) → IsNoTokenAt line at fault → IsTrue false ↔ EndsAt line at
  ends_nowhere fault none = (
    λ holds. absurd (true≢false (sym holds)),
    λ ends. absurd (token_or_none line at fault ends.last utf8 ends.next none),
  )

  -- ---- a dot, and the end

  pub stops_here : (dot : Token) → IsTokenAt line at dot → is_kind Dot dot.kind ≡ true → (ends : Bool)
      → IsTrue ends ↔ EndsAt line dot.end → IsTrue ends ↔ IsStop line at
  stops_here dot here kind ends known = (
    λ holds. record { dot = dot; dotted = record { next = here; kind = kind }; ends = known.0 holds },
    λ stop.
        let same : stop.dot ≡ dot = one_token line at stop.dot dot utf8 stop.dotted.next here in
        known.1 (subst (λ (t : Token). EndsAt line t.end) same stop.ends),
  )

  pub stops_not : ((dot : Token) → Comes line at (is_kind Dot) dot → ⊥) → IsTrue false ↔ IsStop line at
  stops_not none = (λ holds. absurd (true≢false (sym holds)), λ stop. absurd (none stop.dot stop.dotted))

  -- ---- a triple

  pub no_subject : ((token : Token) → Comes line at is_subject token → ⊥) → (terms : Terms)
      → IsTriple line at terms → ⊥
  no_subject none terms t = none terms.subject t.subject

  module _ (s : Token) (subject : Comes line at is_subject s) where
    same_subject : (terms : Terms) → IsTriple line at terms → terms.subject ≡ s
    same_subject terms t = one_token line at terms.subject s utf8 t.subject.next subject.next

    verb : (terms : Terms) → IsTriple line at terms → Comes line s.end begins_verb terms.predicate
    verb terms t =
        subst (λ (u : Token). Comes line u.end begins_verb terms.predicate) (same_subject terms t) t.predicate

    pub no_predicate : ((token : Token) → Comes line s.end begins_verb token → ⊥) → (terms : Terms)
        → IsTriple line at terms → ⊥
    no_predicate none terms t = none terms.predicate (verb terms t)

    module _ (p : Token) (predicate : Comes line s.end begins_verb p) where
      object_here : (terms : Terms) → IsTriple line at terms → IsTokenAt line p.end terms.object
      object_here terms t =
          let same : terms.predicate ≡ p =
          one_token line s.end terms.predicate p utf8 (verb terms t).next predicate.next in
          subst (λ (u : Token). IsTokenAt line u.end terms.object) same t.object

      pub no_object : ((token : Token) → IsTokenAt line p.end token → ⊥) → (terms : Terms)
          → IsTriple line at terms → ⊥
      no_object none terms t = none terms.object (object_here terms t)

      module _ (o : Token) (object : IsTokenAt line p.end o) where
        goes : (terms : Terms) (t : IsTriple line at terms) → GoesTo line o t.behind
        goes terms t =
            let same : terms.object ≡ o =
            one_token line p.end terms.object o utf8 (object_here terms t) object in
            subst (λ (u : Token). GoesTo line u t.behind) same t.object_goes

        pub no_term : ((end : ℕ) → GoesTo line o end → ⊥) → (terms : Terms) → IsTriple line at terms → ⊥
        no_term none terms t = none t.behind (goes terms t)

        module _ (behind : ℕ) (term : GoesTo line o behind) where
          pub term_place : IsPlace line behind
          term_place = goes_within line o (p.end, object) behind term

          stop : (terms : Terms) → IsTriple line at terms → IsStop line behind
          stop terms t =
              let same : t.behind ≡ behind = one_end line o utf8 t.behind behind (goes terms t) term in
              subst (λ n. IsStop line n) same (record { dot = t.dot; dotted = t.dotted; ends = t.ends })

          pub no_stop : (stops : Bool) → IsTrue stops ↔ IsStop line behind → stops ≡ false
              → (terms : Terms) → IsTriple line at terms → ⊥
          no_stop stops known goes_on terms t = true≢false (sym (known.1 (stop terms t)) ∙ goes_on)

          pub a_triple : (stops : Bool) → IsTrue stops ↔ IsStop line behind → stops ≡ true
              → IsTriple line at (record { subject = s; predicate = p; object = o })
          a_triple stops known holds =
              let stop = known.0 holds in
              record {
                subject = subject;
                predicate = predicate;
                object = object;
                behind = behind;
                object_goes = term;
                dot = stop.dot;
                dotted = stop.dotted;
                ends = stop.ends;
              }
