use Rattle.std.specs.Prelude.{◌≡◌, true, false, List, [], ◌∷◌, length, All, Contains}
use Rattle.std.specs.List.{list_any, IsDistinct}
use Rattle.std.proofs.Common.{refl, sym, ◌∙◌, true≢false, arith}
use Rattle.shx_term.specs.declared.triple.Triple.{Triple}
use Rattle.shx_term.specs.Members.{SameMembers}
use Rattle.shx_term.specs.Triple.{same_triple}
use Rattle.shx_term.specs.inner.TripleLaws.{same_triple_equiv, same_triple_exact}
use Rattle.shx_term.proofs.MemberLemmas.{none_in_empty, each_of_All}
use Rattle.graph_view.specs.Patched.{without}
use Rattle.graph_view.proofs.PatchedLemmas.{gone_test, Contains-left, length-without}
use Rattle.graph_rows.proofs.tests.cuts.are_all.Goals as goal

none_in : {X : Type 0} (xs : List X) → length xs ≡ 0 → (x : X) → Contains xs x → ⊥
none_in [] none x c = none_in_empty x c
none_in (y ∷ ys) none x c = absurd (omega (arith, none))

-- as many of some triples as there are of them are all of them
module _ (triples some : List Triple) (once : IsDistinct same_triple triples)
    (some_once : IsDistinct same_triple some) (held : All (Contains triples) some)
    (count : length triples ≡ length some) where
  none_left : length (without same_triple triples some) ≡ 0
  none_left = omega (arith, length-without triples some once some_once held, count)

  is_some : (t : Triple) → Contains triples t → Contains some t
  is_some t c =
      let decided = gone_test same_triple same_triple_equiv same_triple_exact some t in
      let test = list_any (λ u. same_triple u t) some in
      elim test as (λ b. test ≡ b → Contains some t) [
        | true ↦ λ h. decided.0 h
        | false ↦ λ h.
            let stays = (Contains-left triples some t).1 (c, λ s. true≢false (sym (decided.1 s) ∙ h)) in
            absurd (none_in (without same_triple triples some) none_left t stays)
      ] refl

  same_members : SameMembers triples some
  same_members = record { each = λ t. (is_some t, each_of_All (Contains triples) some held t) }

pub returns-then-len : goal.returns-then-len
returns-then-len g c = λ all_held.
    let held = rw c.triples.ensures at c.are_held.ensures all_held in
    let count = sym c.len.ensures.count ∙ c.if-len.true ∙ c.len-2.ensures.count in
    same_members (g.V.GraphView.graph c.args.view.now).triples c.args.held.now.triples
    c.len.ensures.distinct c.len-2.ensures.distinct held count
