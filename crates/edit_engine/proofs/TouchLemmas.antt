-- Changed triples, and the keys that they touch.
use Rattle.std.specs.Prelude.{◌≡◌, true, false, List, Contains, ◌↔◌}
use Rattle.std.specs.List.{list_any}
use Rattle.std.specs.Cmp.{both_ways}
use Rattle.std.proofs.Common.{refl, sym, ◌∙◌, true≢false}
use Rattle.shx_term.specs.Members.{SameMembers}
use Rattle.shx_term.specs.declared.triple.Triple.{Triple}
use Rattle.shx_term.proofs.SetLemmas.{SameMembers-sym}
use Rattle.graph_view.specs.declared.key.Key.{Key}
use Rattle.graph_view.specs.declared.key.Key.TheVariants.{Answer, In, Out, Predicate, Subject}
use Rattle.graph_view.specs.Key.{is_answer, is_touching, Touches}
use Rattle.graph_view.specs.Reads.{IsTouchedBy}
use Rattle.graph_view.proofs.KeyLemmas.{touching}
use Rattle.edit_engine.specs.Touched.{is_any_touched}
use Rattle.edit_engine.proofs.TestLemmas.{any_from, any_to}

-- what a triple touches is a part of the graph
pub touched_part : (t : Triple) (key : Key) → Touches t key → is_answer key ≡ false
touched_part t (Out s p) touches = refl
touched_part t (In p o) touches = refl
touched_part t (Subject s) touches = refl
touched_part t (Predicate p) touches = refl
touched_part t (Answer shape node) touches = absurd touches

-- one of the triples touches one of the keys
pub record HasTouched (changed : List Triple) (keys : List Key) : Type 0 where
  pub triple : Triple
  pub changes : Contains changed triple
  pub touched : IsTouchedBy triple keys

pub touched_test : (changed : List Triple) (keys : List Key)
    → (is_any_touched changed keys ≡ true) ↔ HasTouched changed keys
touched_test changed keys = (
  λ h.
      let at = any_from (λ t. list_any (is_touching t) keys) changed h in
      let key = any_from (is_touching at.0) keys at.2 in
      record {
        triple = at.0;
        changes = at.1;
        touched = (key.0, (key.1, (touching at.0 key.0).0 key.2));
      },
  λ h.
      any_to (λ t. list_any (is_touching t) keys) changed h.triple h.changes
      (any_to (is_touching h.triple) keys h.touched.0 h.touched.1.0
      ((touching h.triple h.touched.0).1 h.touched.1.1)),
)

-- where none of the keys is touched, no triple touches one of them
pub none_touched : (changed : List Triple) (keys : List Key) → is_any_touched changed keys ≡ false
    → HasTouched changed keys → ⊥
none_touched changed keys off has = true≢false (sym ((touched_test changed keys).1 has) ∙ off)

-- keys that are touched where others are
touched_also : (changed : List Triple) (keys others : List Key) → SameMembers keys others
    → is_any_touched changed keys ≡ true → is_any_touched changed others ≡ true
touched_also changed keys others same h =
    let has = (touched_test changed keys).0 h in
    (touched_test changed others).1 (record {
      triple = has.triple;
      changes = has.changes;
      touched = (has.touched.0, ((same.each has.touched.0).0 has.touched.1.0, has.touched.1.1));
    })

pub touched_same : (changed : List Triple) (keys others : List Key) → SameMembers keys others
    → is_any_touched changed keys ≡ is_any_touched changed others
touched_same changed keys others same =
    both_ways (is_any_touched changed keys) (is_any_touched changed others)
    (touched_also changed keys others same) (touched_also changed others keys (SameMembers-sym same))
