-- Paths of different forms have different routes, and paths are compared part by part.
use Rattle.std.specs.Prelude.{◌≡◌, ◌&&◌, ℕ, true, false, List, [], ◌∷◌, map}
use Rattle.std.specs.Prelude.{◌↔◌, IsTrue}
use Rattle.std.specs.Cmp.Lexicographic.{pointwise}
use Rattle.std.proofs.Common.{Vec, Box, Global, refl, sym, ap, ◌∙◌, subst}
use Rattle.path_eval.specs.declared.path.Path.{Path, Path-F, Pred, out-Path, roll-Path, roll-out-Path}
use Rattle.path_eval.specs.declared.path.Path.TheOpen as level
use Rattle.path_eval.specs.declared.path.Path.TheViews.{Seq, Alt, Inverse, ZeroOrMore, OneOrMore, ZeroOrOne}
use Rattle.path_eval.specs.Route.{Route, along, here, first_then, none, one_or_other, turned, any_times}
use Rattle.path_eval.specs.Route.{some_times, perhaps, sequence, alternative, route_of}
use Rattle.path_eval.specs.inner.SameRoute.{same_path, same_route}
use Rattle.path_eval.specs.inner.SameRouteLaws.{same_route_exact, same_route_itself}
use Rattle.path_eval.proofs.RouteLemmas.{route_Seq, route_Alt}

-- equal paths are of one route
pub same_path_exact : (p q : Path) → IsTrue (same_path p q) ↔ (route_of p ≡ route_of q)
same_path_exact p q = (
  same_route_exact (route_of p) (route_of q),
  λ e. ap (same_route (route_of p)) (sym e) ∙ same_route_itself (route_of p),
)

-- ---- forms

pub data Form : Type 0 where
  one : Form
  in_turn : Form
  any_of : Form
  back : Form
  often : Form
  more_often : Form
  at_most_once : Form

-- the form of the paths that have the route
abbrev pub path_form : Route → Form
path_form (along p) = one
path_form here = in_turn
path_form (first_then a b) = in_turn
path_form none = any_of
path_form (one_or_other a b) = any_of
path_form (turned a) = back
path_form (any_times a) = often
path_form (some_times a) = more_often
path_form (perhaps a) = at_most_once

form_sequence : (rs : List Route) → path_form (sequence rs) ≡ in_turn
form_sequence [] = refl
form_sequence (r ∷ rs) = refl

form_alternative : (rs : List Route) → path_form (alternative rs) ≡ any_of
form_alternative [] = refl
form_alternative (r ∷ rs) = refl

pub form_Seq : (parts : Vec Path Global) → path_form (route_of (Seq parts)) ≡ in_turn
form_Seq parts = ap path_form (route_Seq parts) ∙ form_sequence (map route_of parts.items)

pub form_Alt : (members : Vec Path Global) → path_form (route_of (Alt members)) ≡ any_of
form_Alt members = ap path_form (route_Alt members) ∙ form_alternative (map route_of members.items)

-- what a path of a form is
abbrev pub IsOfForm : Form → Path → Type 0
IsOfForm one p = (q : ℕ) × p ≡ Pred q
IsOfForm in_turn p = (parts : Vec Path Global) × p ≡ Seq parts
IsOfForm any_of p = (members : Vec Path Global) × p ≡ Alt members
IsOfForm back p = (inner : Box Path Global) × p ≡ Inverse inner
IsOfForm often p = (inner : Box Path Global) × p ≡ ZeroOrMore inner
IsOfForm more_often p = (inner : Box Path Global) × p ≡ OneOrMore inner
IsOfForm at_most_once p = (inner : Box Path Global) × p ≡ ZeroOrOne inner

opened : (f : Path-F Path) → IsOfForm (path_form (route_of (roll-Path f))) (roll-Path f)
unfolding roll-Path denote.Hole.Carrier.roll
opened (level.Pred q) = (q, refl)
opened (level.Seq parts) = subst (λ form. IsOfForm form (Seq parts)) (sym (form_Seq parts)) (parts, refl)
opened (level.Alt members) =
    subst (λ form. IsOfForm form (Alt members)) (sym (form_Alt members)) (members, refl)
opened (level.Inverse inner) = (inner, refl)
opened (level.ZeroOrMore inner) = (inner, refl)
opened (level.OneOrMore inner) = (inner, refl)
opened (level.ZeroOrOne inner) = (inner, refl)

pub of_its_form : (p : Path) → IsOfForm (path_form (route_of p)) p
of_its_form p = subst (λ q. IsOfForm (path_form (route_of q)) q) (roll-out-Path p) (opened (out-Path p))

-- one path has the form, and the other has not
pub other_form : (p q : Path) (form : Form) → path_form (route_of p) ≡ form → (IsOfForm form q → ⊥)
    → false ≡ same_route (route_of p) (route_of q)
other_form p q form is other =
    elim (same_route (route_of p) (route_of q)) as
    (λ b. same_route (route_of p) (route_of q) ≡ b → false ≡ b) [
      | true ↦ λ h.
          let same = sym (ap path_form (same_route_exact (route_of p) (route_of q) h)) ∙ is in
          absurd (other (subst (λ one. IsOfForm one q) same (of_its_form q)))
      | false ↦ λ h. refl
    ] refl

-- ---- parts

same_sequence : (rs ss : List Route) → same_route (sequence rs) (sequence ss) ≡ pointwise same_route rs ss
same_sequence [] [] = refl
same_sequence [] (s ∷ ss) = refl
same_sequence (r ∷ rs) [] = refl
same_sequence (r ∷ rs) (s ∷ ss) = ap (λ b. same_route r s && b) (same_sequence rs ss)

same_alternative : (rs ss : List Route)
    → same_route (alternative rs) (alternative ss) ≡ pointwise same_route rs ss
same_alternative [] [] = refl
same_alternative [] (s ∷ ss) = refl
same_alternative (r ∷ rs) [] = refl
same_alternative (r ∷ rs) (s ∷ ss) = ap (λ b. same_route r s && b) (same_alternative rs ss)

module _ (p q : Path) (first second : Vec Path Global) where
  pub same_Seq : p ≡ Seq first → q ≡ Seq second
      → pointwise same_route (map route_of first.items) (map route_of second.items)
      ≡ same_route (route_of p) (route_of q)
  same_Seq is is' =
      sym (same_sequence (map route_of first.items) (map route_of second.items))
      ∙ ap (λ r. same_route r (sequence (map route_of second.items))) (sym (ap route_of is ∙ route_Seq first))
      ∙ ap (same_route (route_of p)) (sym (ap route_of is' ∙ route_Seq second))

  pub same_Alt : p ≡ Alt first → q ≡ Alt second
      → pointwise same_route (map route_of first.items) (map route_of second.items)
      ≡ same_route (route_of p) (route_of q)
  same_Alt is is' =
      sym (same_alternative (map route_of first.items) (map route_of second.items))
      ∙ ap (λ r. same_route r (alternative (map route_of second.items)))
      (sym (ap route_of is ∙ route_Alt first))
      ∙ ap (same_route (route_of p)) (sym (ap route_of is' ∙ route_Alt second))
