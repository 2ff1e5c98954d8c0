-- What an item of the grammar takes at a place: one token stands there.
use Rattle.std.proofs.Common.{◌≡◌, ℕ, Bool, true, false, List, refl, sym, ap, ◌∙◌, subst, ◌⊎◌}
use Rattle.std.proofs.Common.{inl, inr}
use Rattle.std.specs.Str.{IsUtf8}
use Rattle.ttl_tokens.specs.declared.token.Token.{Token}
use Rattle.ttl_tokens.specs.Form.{Item}
use Rattle.ttl_tokens.specs.Walks.{Never, Only}
use Rattle.ttl_tokens.specs.Tokens.{IsTokenAt, IsNoTokenAt}
use Rattle.ttl_tokens.proofs.BeginLemmas.{never_where, never_where_none}
use Rattle.ttl_tokens.proofs.OneTokenLemmas.{one_token, token_or_none}
use Rattle.ttl_meaning.specs.State.{State}
use Rattle.ttl_read.specs.inner.Follows.{is_done, may_take, takes_no_token, may_begin}
use Rattle.ttl_read.specs.Grammar.{Step, One, Do, Place, Rule, StepsTo}

-- the token at a place, tested, and what it does
pub one_only : (text : List ℕ) (test : Token → Bool) (act : Token → State → State) (x : Place) (t : Token)
    → IsUtf8 text → IsTokenAt text x.at t → test t ≡ true
    → Only (StepsTo text) (Item (One test act)) x (record { at = t.end; state = act t x.state })
one_only text test act x t utf8 here h = record {
  takes = (t, here, h, refl);
  only = λ z s.
      let same : t ≡ s.0 = one_token text x.at t s.0 utf8 here s.1 in
      subst (λ u. record { at = u.end; state = act u x.state } ≡ z) (sym same) s.3;
}

pub do_only : (text : List ℕ) (act : State → State) (x : Place)
    → Only (StepsTo text) (Item (Do act)) x (record { at = x.at; state = act x.state })
do_only text act x = record { takes = refl; only = λ z s. s }

-- ---- with which tokens a form begins

step_item : (text : List ℕ) (t : Token) → IsUtf8 text → (i : Step) (x y : Place) → IsTokenAt text x.at t
    → StepsTo text i x y → (may_take i t ≡ true) ⊎ ((is_done i ≡ true) × IsTokenAt text y.at t)
step_item text t utf8 (One test act) x y here s =
    let same : s.0 ≡ t = one_token text x.at s.0 t utf8 s.1 here in
    inl (sym (ap test same) ∙ s.2)
step_item text t utf8 (Do act) x y here s = inr (refl, subst (λ z. IsTokenAt text z.at t) s here)

-- a form that takes a token, and begins with none such as stands here
pub never_here : (text : List ℕ) (f : Rule) (x : Place) (t : Token) → IsUtf8 text → takes_no_token f ≡ false
    → may_begin f t ≡ false → IsTokenAt text x.at t → Never (StepsTo text) f x
never_here text f x t utf8 some other here =
    never_where (StepsTo text) is_done may_take (λ z. IsTokenAt text z.at t) t (step_item text t utf8) f x
    some other here

none_item : (text : List ℕ) (fault : ℕ) → IsUtf8 text → (i : Step) (x y : Place) → IsNoTokenAt text x.at fault
    → StepsTo text i x y → (is_done i ≡ true) × IsNoTokenAt text y.at fault
none_item text fault utf8 (One test act) x y here s = absurd (token_or_none text x.at fault s.0 utf8 s.1 here)
none_item text fault utf8 (Do act) x y here s = (refl, subst (λ z. IsNoTokenAt text z.at fault) s here)

-- where no token begins, no form takes one
pub never_at_none : (text : List ℕ) (f : Rule) (x : Place) (fault : ℕ) → IsUtf8 text
    → takes_no_token f ≡ false
    → IsNoTokenAt text x.at fault → Never (StepsTo text) f x
never_at_none text f x fault utf8 some here =
    never_where_none (StepsTo text) is_done (λ z. IsNoTokenAt text z.at fault) (none_item text fault utf8)
    f x some
    here
