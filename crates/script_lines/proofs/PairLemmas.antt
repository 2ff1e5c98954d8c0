-- The tokens of a pair, one behind the other, up to the end of the line.
use Rattle.std.proofs.Common.{◌≡◌, ℕ, Bool, false, List, refl, sym, ◌∙◌, subst, true≢false, IsTrue, ◌↔◌}
use Rattle.std.specs.Str.{IsUtf8}
use Rattle.ttl_tokens.specs.declared.token.Token.{Token}
use Rattle.ttl_tokens.specs.Tokens.{IsTokenAt}
use Rattle.ttl_tokens.proofs.OneTokenLemmas.{one_token}
use Rattle.ttl_read.specs.ReadTerm.{GoesTo}
use Rattle.ttl_read.proofs.GoesToLemmas.{one_end}
use Rattle.script_lines.specs.declared.line_form.PairTokens.{PairTokens}
use Rattle.script_lines.specs.Forms.{Comes, EndsAt, IsPair, is_subject}

module _ (line : List ℕ) (utf8 : IsUtf8 line) (at : ℕ) where
  module _ (s : Token) (shape : Comes line at is_subject s) where
    node_here : (pair : PairTokens) → IsPair line at pair → IsTokenAt line s.end pair.node
    node_here pair p =
        let same : pair.shape ≡ s = one_token line at pair.shape s utf8 p.shape.next shape.next in
        subst (λ (u : Token). IsTokenAt line u.end pair.node) same p.node

    pub no_node : ((token : Token) → IsTokenAt line s.end token → ⊥) → (pair : PairTokens)
        → IsPair line at pair → ⊥
    no_node none pair p = none pair.node (node_here pair p)

    module _ (n : Token) (node : IsTokenAt line s.end n) where
      goes : (pair : PairTokens) (p : IsPair line at pair) → GoesTo line n p.behind
      goes pair p =
          let same : pair.node ≡ n = one_token line s.end pair.node n utf8 (node_here pair p) node in
          subst (λ (u : Token). GoesTo line u p.behind) same p.node_goes

      pub no_node_term : ((end : ℕ) → GoesTo line n end → ⊥) → (pair : PairTokens) → IsPair line at pair → ⊥
      no_node_term none pair p = none p.behind (goes pair p)

      module _ (behind : ℕ) (term : GoesTo line n behind) where
        pub no_pair_end : (ends : Bool) → IsTrue ends ↔ EndsAt line behind → ends ≡ false
            → (pair : PairTokens) → IsPair line at pair → ⊥
        no_pair_end ends known goes_on pair p =
            let same : p.behind ≡ behind = one_end line n utf8 p.behind behind (goes pair p) term in
            true≢false (sym (known.1 (subst (λ k. EndsAt line k) same p.ends)) ∙ goes_on)

  -- ---- one pair

  same_pair : (a b : PairTokens) → a.shape ≡ b.shape → a.node ≡ b.node → a ≡ b
  same_pair a b s n = rw (s, n) refl

  pub one_pair : (a b : PairTokens) → IsPair line at a → IsPair line at b → a ≡ b
  one_pair a b p q =
      same_pair a b (one_token line at a.shape b.shape utf8 p.shape.next q.shape.next)
      (one_token line b.shape.end a.node b.node utf8 (node_here b.shape q.shape a p) q.node)
