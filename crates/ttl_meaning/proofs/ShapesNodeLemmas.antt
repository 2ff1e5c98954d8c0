-- Whether a text is the label of a blank node, by the token that stands at its start behind `_:`.
use Rattle.std.proofs.Common.{◌≡◌, ℕ, Bool, true, false, nat_eq, List, ◌++◌, length, codes, sym, ap, subst}
use Rattle.std.proofs.Common.{◌∙◌, true≢false, arith}
use Rattle.std.specs.Bool.{Decides}
use Rattle.std.specs.Str.{IsUtf8}
use Rattle.std.proofs.lemmas.Bool.Decides.{nat_tests}
use denote.Enum.Bare.{sameb, same_true}
use Rattle.ttl_tokens.specs.contracts.token.TokenKind.{the_type}
use Rattle.ttl_tokens.specs.declared.token.Token.{Token}
use Rattle.ttl_tokens.specs.declared.token.TokenKind.TheVariants.{BlankLabel}
use Rattle.ttl_tokens.specs.Tokens.{IsTokenAt, IsNoTokenAt}
use Rattle.ttl_tokens.proofs.OneTokenLemmas.{one_token, token_or_none}
use Rattle.ttl_meaning.specs.ShapesNodes.{IsLabel}

module _ (text name : List ℕ) (is : codes "_:" ++ text ≡ name) (utf8 : IsUtf8 name) where
  begins : (label : IsLabel text) → IsTokenAt name 0 label.token
  begins label = subst (λ (l : List ℕ). IsTokenAt l 0 label.token) is label.begins

  -- no token stands there
  pub no_label_at_none : (fault : ℕ) → IsNoTokenAt name 0 fault → Decides false (IsLabel text)
  no_label_at_none fault none = (
    λ holds. absurd (true≢false (sym holds)),
    λ label. absurd (token_or_none name 0 fault label.token utf8 (begins label) none),
  )

  module _ (token : Token) (here : IsTokenAt name 0 token) where
    same : (label : IsLabel text) → label.token ≡ token
    same label = one_token name 0 label.token token utf8 (begins label) here

    -- it has another kind
    pub no_label_at_other : sameb the_type token.kind BlankLabel ≡ false → Decides false (IsLabel text)
    no_label_at_other other = (
      λ holds. absurd (true≢false (sym holds)),
      λ label.
          let kind : token.kind ≡ BlankLabel = ap (λ (t : Token). t.kind) (sym (same label)) ∙ label.kind in
          absurd (true≢false (rw kind at other)),
    )

    -- it is a label, and it is one of this text where it ends with it
    pub label_is_whole : sameb the_type token.kind BlankLabel ≡ true → (whole : Bool)
        → whole ≡ nat_eq token.end (length name) → Decides whole (IsLabel text)
    label_is_whole kind whole told = (
      λ holds.
          let ends : token.end ≡ length name =
          let test : nat_eq token.end (length name) ≡ true = sym told ∙ holds in grind (arith, nat_tests) in
          record {
            token = token;
            begins = subst (λ (l : List ℕ). IsTokenAt l 0 token) (sym is) here;
            kind = same_true the_type tt token.kind BlankLabel kind;
            whole = ends ∙ ap length (sym is);
          },
      λ label.
          let ends : token.end ≡ length name =
          ap (λ (t : Token). t.end) (sym (same label)) ∙ label.whole ∙ ap length is in
          told ∙ (let test : nat_eq token.end (length name) ≡ true = grind (arith, nat_tests) in test),
    )
