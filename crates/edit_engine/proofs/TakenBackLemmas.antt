-- A change that was made can be taken back, which gives the triples of before over the terms of now.
use Rattle.std.specs.Prelude.{◌≡◌, ℕ, ◌==◌, ◌&&◌, Bool, true, false, not, Contains, List, ◌++◌, Some, length}
use Rattle.std.specs.List.{list_any}
use Rattle.std.proofs.Common.{refl, sym, ap, ◌∙◌, subst, inr, arith}
use Rattle.shx_term.specs.declared.triple.Triple.{Triple}
use Rattle.shx_term.specs.declared.triple.TermTriple.{TermTriple}
use Rattle.shx_term.specs.declared.term.Term.{Term}
use Rattle.shx_term.specs.Members.{SameMembers}
use Rattle.shx_term.specs.Triple.{same_triple}
use Rattle.shx_term.specs.TripleTerms.{numbered, numbered_all, terms_of}
use Rattle.shx_term.specs.ValidTriples.{IsValidTermTriple}
use Rattle.shx_term.proofs.HeldLemmas.{with_terms_grow}
use Rattle.shx_term.proofs.MemberLemmas.{All_of_each, each_of_All}
use Rattle.shx_term.proofs.NumberedLemmas.{numbered-held}
use Rattle.shx_term.proofs.PlaceLemmas.{slice_get-position}
use Rattle.shx_term.proofs.SetLemmas.{SameMembers-append, SameMembers-filter, SameMembers-is, SameMembers-sym}
use Rattle.shx_term.proofs.SetLemmas.{SameMembers-then}
use Rattle.edit_history.specs.declared.net.Net.{Net}
use Rattle.graph_view.specs.Graph.{Graph}
use Rattle.graph_view.specs.Patched.{IsPatch, without}
use Rattle.graph_view.specs.SameGraph.{SameGraph}
use Rattle.graph_view.specs.Valid.{IsValidTriple, IsValidView}
use Rattle.graph_view.proofs.EditLemmas.{IsPatch-back, SameMembers-back}
use Rattle.graph_view.proofs.PatchedLemmas.{Contains-patched, is_false}
use Rattle.edit_engine.specs.Course.{IsReady, IsWhole}
use Rattle.edit_engine.specs.Edits.{is_stated}
use Rattle.edit_engine.specs.Nets.{IsNetOn, added_to, graph_after, is_no_change, removed_from, terms_after}
use Rattle.edit_engine.specs.Nets.{turned}
use Rattle.edit_engine.proofs.HeldTripleLemmas.{AreAllHeld, AreAllHeld-entered, AreAllHeld-more}
use Rattle.edit_engine.proofs.HeldTripleLemmas.{numbered_all-more, with_terms-all}
use Rattle.edit_engine.proofs.NetPatchLemmas.{Contains-numbered_all, stated_is, stated_test}
use Rattle.edit_engine.proofs.NumberLemmas.{numbered_after, numbers_from}
use Rattle.edit_engine.proofs.PatchLemmas.{few_removed, length-after}
use Rattle.edit_engine.proofs.SoundLemmas.{Extends, IsSound, IsSound-after, IsSound-same}
use Rattle.edit_engine.proofs.SoundLemmas.{entered, entered_known, entered_patch, removed_terms_held}

-- what a valid graph states is valid
valid_stated : (g : Graph) (t : TermTriple) → IsValidView g → is_stated g t ≡ true → IsValidTermTriple t
valid_stated g t valid stated =
    let found = stated_is g t stated in
    let u = found.0 in
    let of = numbers_from g.terms t u found.1 in
    let held = each_of_All (IsValidTriple g.terms) g.triples valid.triples u found.2 in
    let v = held.stated in
    let s : Some v.s ≡ Some t.s = sym held.s ∙ slice_get-position g.terms t.s u.s of.s in
    let p : Some v.p ≡ Some t.p = sym held.p ∙ slice_get-position g.terms t.p u.p of.p in
    let o : Some v.o ≡ Some t.o = sym held.o ∙ slice_get-position g.terms t.o u.o of.o in
    subst IsValidTermTriple (same_triple_of v t (cc) (cc) (cc)) held.valid
  where
    same_triple_of : (v t : TermTriple) → v.s ≡ t.s → v.p ≡ t.p → v.o ≡ t.o → v ≡ t
    same_triple_of v t s p o = λ i. record { s = s i; p = p i; o = o i }

other_way : (a b : Bool) → (a && b) ≡ false → (b && a) ≡ false
other_way true b e = rw e refl
other_way false true e = refl
other_way false false e = refl

module _ (g h : Graph) (net : Net) (sound : IsSound g) (fits : IsNetOn g net)
    (same : SameGraph (graph_after g net) h) where
  abbrev added : List Triple
  added = added_to g net

  abbrev gone : List Triple
  gone = removed_from g net

  abbrev back : Net
  back = turned true net

  patch : IsPatch (entered g net) added gone
  patch = entered_patch g net sound fits

  abbrev more : List Term
  more = (with_terms_grow g.terms (terms_of net.added)).0

  terms_now : h.terms ≡ g.terms ++ more
  terms_now = sym same.terms ∙ (with_terms_grow g.terms (terms_of net.added)).1

  -- all terms of the change are held
  removed_held : AreAllHeld h.terms net.removed
  removed_held =
      subst (λ terms. AreAllHeld terms net.removed) (sym terms_now)
      (AreAllHeld-more g.terms more net.removed (removed_terms_held g net fits))

  added_held : AreAllHeld h.terms net.added
  added_held =
      subst (λ terms. AreAllHeld terms net.added) same.terms (AreAllHeld-entered g.terms net.added)

  terms_back : terms_after h back ≡ h.terms
  terms_back = with_terms-all h.terms net.removed removed_held

  added_back : added_to h back ≡ gone
  added_back =
      ap (λ terms. numbered_all terms net.removed) (terms_back ∙ terms_now)
      ∙ numbered_all-more g.terms more net.removed (removed_terms_held g net fits)

  removed_back : removed_from h back ≡ added
  removed_back = ap (λ terms. numbered_all terms net.added) (sym same.terms)

  -- the triples of before
  pub triples_back : SameMembers (graph_after h back).triples g.triples
  triples_back =
      let now = (graph_after g net).triples in
      let left = without same_triple h.triples added in
      let other = without same_triple now added in
      let kept : SameMembers left other =
      SameMembers-filter (λ t. not (list_any (λ u. same_triple u t) added)) h.triples now
      (SameMembers-sym same.triples) in
      let here : (graph_after h back).triples ≡ left ++ gone =
      λ i. without same_triple h.triples (removed_back i) ++ added_back i in
      SameMembers-then (SameMembers-is (graph_after h back).triples (left ++ gone) here)
      (SameMembers-then (SameMembers-append left gone other gone kept (SameMembers-is gone gone refl))
      (SameMembers-back (entered g net) added gone patch))

  -- taking it back may be made
  pub fits_back : IsValidView g → IsNetOn h back
  fits_back valid = record {
    added_valid = All_of_each IsValidTermTriple net.removed (λ t c.
        valid_stated g t valid (each_of_All (λ v. is_stated g v ≡ true) net.removed fits.removed_held t c));
    added_absent = All_of_each (λ t. is_stated h t ≡ false) net.removed (λ t c.
        is_false (is_stated h t) (λ stated.
        let found =
        stated_is g t (each_of_All (λ v. is_stated g v ≡ true) net.removed fits.removed_held t c) in
        let u = found.0 in
        let number : numbered h.terms t ≡ Some u =
        subst (λ terms. numbered terms t ≡ Some u) (sym terms_now)
        (numbered_after g.terms more t u found.1) in
        let held = (same.triples.each u).1 ((stated_test h t u number).0 stated) in
        let way = IsPatch-back (entered g net) added gone patch (entered_known g net sound.known) in
        each_of_All (λ v. Contains (graph_after g net).triples v → ⊥) gone way.added_absent u
        (Contains-numbered_all g.terms net.removed t u c found.1) held));
    added_once = fits.removed_once;
    removed_held = All_of_each (λ t. is_stated h t ≡ true) net.added (λ t c.
        let found = numbered-held h.terms t (added_held.each t c) in
        let u = found.triple in
        let number : numbered (terms_after g net) t ≡ Some u =
        subst (λ terms. numbered terms t ≡ Some u) (sym same.terms) found.is in
        let new = Contains-numbered_all (terms_after g net) net.added t u c number in
        let held = (Contains-patched (entered g net) added gone u).1 (inr new) in
        (stated_test h t u found.is).1 ((same.triples.each u).0 held));
    removed_once = fits.added_once;
  }

  pub Extends-back : IsValidView g → Extends g (graph_after h back)
  Extends-back valid = record {
    more = more;
    terms = terms_back ∙ terms_now;
    triples = SameMembers-sym triples_back;
    old = sound;
    new = IsSound-after h back
        (IsSound-same (graph_after g net) h same (IsSound-after g net sound fits)) (fits_back valid);
  }

  pub ready_back : (most : ℕ) → IsWhole most g → is_no_change net ≡ false → IsReady most h back
  ready_back most whole changes = record {
    fits = fits_back whole.valid;
    changes = other_way (length net.added == 0) (length net.removed == 0) changes;
    held = terms_back;
    few = omega (arith, length-after g net sound fits, few_removed g net sound fits, same.count, whole.few);
  }
