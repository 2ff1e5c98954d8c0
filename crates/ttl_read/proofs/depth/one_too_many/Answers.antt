use Rattle.std.proofs.Common.{◌≡◌, ℕ, Bool, false, ◌&&◌, sym, ap, ◌∙◌, arith}
use Rattle.std.specs.Prelude.{nat_le}
use Rattle.std.proofs.Common.{subst}
use Rattle.std.proofs.lemmas.Bool.{le-leb}
use Rattle.ttl_tokens.specs.Tokens.{IsTokenAt}
use Rattle.ttl_read.specs.Depth.{IsOneTooMany, NoneTooMany, is_dot_or_end}
use Rattle.ttl_read.proofs.DepthLemmas.{none_at_end, none_at_none, too_many_here, too_many_behind}
use Rattle.ttl_read.proofs.DepthLemmas.{none_behind}
use Rattle.ttl_read.proofs.DepthLemmas.{further, fits_where}
use Rattle.ttl_read.proofs.depth.one_too_many.Goals as goal

pub loop-token-init : goal.loop-token-init
loop-token-init c = record {
  within = c.requires.within;
  boundary = c.requires.boundary;
  known = c.new-ahead.ensures c.args.text.now;
  few = omega arith;
  found = λ place one. one;
  none = λ none. none;
}

pub returns-then-is_dot_or_end : goal.returns-then-is_dot_or_end
returns-then-is_dot_or_end c =
    c.loop-token.invariant.none
    (none_at_end _ _ _ _ c.in-Ok.token c.utf8.text c.in-Ok.ensures.found
    (sym c.is_dot_or_end.ensures ∙ c.if-is_dot_or_end.true))

pub returns-then-count-limit : goal.returns-then-count-limit
returns-then-count-limit c =
    c.loop-token.invariant.found _
    (too_many_here _ _ _ _ c.in-Ok.token c.in-Ok.ensures.found
    (sym c.is_dot_or_end.ensures ∙ c.if-is_dot_or_end.false) (sym c.is_open.ensures ∙ c.if-is_open.true)
    (le-leb _ _ c.if-count-limit.true))

pub loop-token-smaller : goal.loop-token-smaller
loop-token-smaller c =
    let here : IsTokenAt c.args.text.now c.loop-token.place c.in-Ok.token = c.in-Ok.ensures.found in
    let behind = further _ _ c.in-Ok.token here (sym c.is_dot_or_end.ensures ∙ c.if-is_dot_or_end.false) in
    omega (arith, behind, here.within)

pub loop-token-preserved : goal.loop-token-preserved
loop-token-preserved c =
    let here : IsTokenAt c.args.text.now c.loop-token.place c.in-Ok.token = c.in-Ok.ensures.found in
    let on : is_dot_or_end c.in-Ok.token.kind ≡ false = sym c.is_dot_or_end.ensures
    ∙ c.if-is_dot_or_end.false in
    let fits = ap (λ (b : Bool). b && nat_le c.args.limit c.loop-token.count) (sym c.is_open.ensures)
    ∙ fits_where _ c.args.limit c.loop-token.count c.else-is_open.either in
    let counted = c.count_behind-count.ensures.counted in
    record {
      within = here.within;
      boundary = here.end;
      known = c.in-Ok.ensures.known;
      few = c.count_behind-count.ensures.within;
      found = λ place one.
          c.loop-token.invariant.found place
          (too_many_behind _ _ _ _ place c.in-Ok.token here on fits
          (subst (λ (n : ℕ). IsOneTooMany c.args.text.now c.args.limit c.in-Ok.token.end n place) counted
          one));
      none = λ none.
          c.loop-token.invariant.none
          (none_behind _ _ _ _ c.in-Ok.token c.utf8.text here fits
          (subst (λ (n : ℕ). NoneTooMany c.args.text.now c.args.limit c.in-Ok.token.end n) counted none));
    }

pub returns : goal.returns
returns c =
    c.loop-token.invariant.none
    (none_at_none _ _ _ _ c.in_default.field-0.at c.utf8.text c.in_default.ensures.none)
