use Rattle.std.proofs.Common.{◌≡◌, ◌≤◌, ◌∙◌, sym, List, ℕ, Some, length, drop, arith}
use Rattle.shx_outside.specs.declared.named_text.NamedText.{NamedText}
use Rattle.shx_outside.specs.declared.places.Places.{Places}
use Rattle.shx_outside.specs.inner.Places.{place_of, moved_on, left_at, texts_from}
use Rattle.shx_outside.specs.OpenTexts.{left_for}
use Rattle.shx_outside.proofs.PlaceLemmas.{AreWithin-with_place, IsWithin-place_of, IsWithin-moved}
use Rattle.shx_outside.proofs.LeftLemmas.{left_for-at, left_for-moved, Took-front}
use Rattle.shx_outside.proofs.texts.Texts.read.Goals as goal

abbrev files : goal.After-set → List NamedText
files c = c.self.inside.files.items

abbrev places : goal.After-set → Places
places c = c.self.inside.places

abbrev left : goal.After-set → List ℕ
left c = c.left_from-left.result.now

abbrev count : goal.After-set → ℕ
count c = c.copy_piece-count.result

found : (c : goal.After-set) → place_of (places c) c.args.role ≡ Some c.in-Some.place
found c = sym c.get.ensures ∙ c.in-Some.is

text : (c : goal.After-set) → left_at (files c) (Some c.in-Some.place) ≡ Some (left c)
text c = rw c.deref.ensures.value at c.left_from-left.ensures.left

before : (c : goal.After-set) → left_for c.args.self.now c.args.role ≡ Some (left c)
before c =
    left_for-at (files c) c.self.inside.piece (places c) c.self.inside.opens c.args.role c.in-Some.place
    (left c) c.args.self.now c.self.view_is (found c) (text c)

after : (c : goal.After-set) → left_for
    (texts_from (files c) c.self.inside.piece c.set.new.self c.self.inside.opens) c.args.role
    ≡ Some (drop (count c) (left c))
after c =
    left_for-moved (files c) c.self.inside.piece c.set.new.self c.self.inside.opens (places c) c.args.role
    c.in-Some.place (left c) (count c) c.set.ensures (text c)

pub invariant_of-self : goal.invariant_of-self
invariant_of-self c =
    let most : count c ≤ length (left c) = omega (arith, c.copy_piece-count.ensures.count) in
    let all = c.self.invariant.1 in
    let here = IsWithin-place_of (files c) (places c) c.args.role c.in-Some.place all (found c) in
    let within = IsWithin-moved (files c) c.in-Some.place (left c) (count c) here (text c) most in
    let moved = Some (moved_on c.in-Some.place (count c)) in
    let each = AreWithin-with_place (files c) (places c) c.args.role moved all within in
    rw c.set.ensures (c.self.invariant.0, each)

pub returns-clause-took : goal.returns-clause-took
returns-clause-took c =
    Took-front _ _ (left c) _ (count c) (before c) (after c) c.copy_piece-count.ensures.copied
