-- The string that is a name, up to the end of the line.
use Rattle.std.proofs.Common.{◌≡◌, ℕ, Bool, false, List, sym, ◌∙◌, subst, true≢false, IsTrue, ◌↔◌}
use Rattle.std.specs.Str.{IsUtf8}
use Rattle.ttl_tokens.specs.declared.token.Token.{Token}
use Rattle.ttl_tokens.specs.Tokens.{IsTokenAt}
use Rattle.ttl_tokens.proofs.OneTokenLemmas.{one_token}
use Rattle.ttl_read.specs.Grammar.{is_string}
use Rattle.script_lines.specs.Forms.{Comes, EndsAt, IsName}

module _ (line : List ℕ) (utf8 : IsUtf8 line) (at : ℕ) where
  -- no string comes next
  pub no_string : ((name : Token) → Comes line at is_string name → ⊥) → (name : Token)
      → IsName line at name → ⊥
  no_string none name n = none name n.string

  -- something stands behind the token that comes next
  pub no_name_end : (token : Token) → IsTokenAt line at token → (ends : Bool)
      → IsTrue ends ↔ EndsAt line token.end → ends ≡ false → (name : Token) → IsName line at name → ⊥
  no_name_end token here ends known goes_on name n =
      let same : name ≡ token = one_token line at name token utf8 n.string.next here in
      true≢false (sym (known.1 (subst (λ (t : Token). EndsAt line t.end) same n.ends)) ∙ goes_on)

  pub one_name : (a b : Token) → IsName line at a → IsName line at b → a ≡ b
  one_name a b n m = one_token line at a b utf8 n.string.next m.string.next
