-- A search for what is above a class meets that and nothing else, whatever it takes over.
use Rattle.std.specs.Prelude.{◌≡◌, ℕ, nat_eq, ◌+◌, ◌≤◌, ◌<◌, List, [], ◌∷◌, ◌++◌, length, take}
use Rattle.std.specs.Prelude.{Contains, ◌↔◌}
use Rattle.std.specs.Cmp.{nat_eq_equiv}
use Rattle.std.proofs.Common.{refl, sym, ap, ◌∙◌, subst, inl, inr, get_or, arith, append_assoc, append-nil}
use Rattle.std.proofs.lemmas.Bool.{eqb-true}
use Rattle.std.proofs.lemmas.List.{take_all, take_more, take-append-le, length-append, get_or_default}
use Rattle.std.proofs.lemmas.List.Elements.{Contains-append_left, Contains-append_right}
use Rattle.std.proofs.lemmas.List.Elements.{Contains-append_cases}
use Rattle.indexmap.specs.IndexSet.{insert_key}
use Rattle.shx_term.specs.Members.{Adds}
use Rattle.shx_term.specs.declared.vocabulary.TheConstants.{RDFS_SUB_CLASS_OF}
use Rattle.shx_term.proofs.MemberLemmas.{Contains-one, none_in_empty}
use Rattle.graph_view.specs.declared.key.Key.{Key}
use Rattle.graph_view.specs.Graph.{Graph, AllKnown}
use Rattle.graph_view.specs.Key.{key_first}
use Rattle.graph_view.proofs.LookUpLemmas.{Contains-objects_of}
use Rattle.path_eval.specs.declared.direction.Direction.TheVariants.{Forward}
use Rattle.path_eval.specs.declared.wider.Wider.{Wider}
use Rattle.path_eval.specs.Superclasses.{AreAllWider, AreWider, superclass_route}
use Rattle.path_eval.specs.Way.{step_to}
use Rattle.path_eval.specs.inner.Climbed.{Follows, Grows, GrowsTo, IsAbove, IsFollowed, IsNext, Meets}
use Rattle.path_eval.specs.inner.Climbed.{TakesOver, class_key}
use Rattle.path_eval.specs.inner.Reached.{Joins}
use Rattle.path_eval.proofs.ChainLemmas.{Chain-keeps, chain_here, chain_of_longer, chain_then, longer_step}
use Rattle.path_eval.proofs.JoinLemmas.{Joins-entered}
use Rattle.path_eval.proofs.MeetsLemmas.{path_lists}
use Rattle.path_eval.proofs.PathReadsLemmas.{path_reads_are}

-- a key tells its class
class_of : (x y : ℕ) → class_key x ≡ class_key y → x ≡ y
class_of x y e = ap key_first e

module _ (g : Graph) where
  -- ---- to be above

  above_itself : (x : ℕ) → IsAbove g x x
  above_itself x = chain_here (IsNext g) x

  above_then : (x z y : ℕ) → IsAbove g x z → IsAbove g z y → IsAbove g x y
  above_then x z y first second = chain_then (IsNext g) x z y first second

  above_next : (x y : ℕ) → IsNext g x y → IsAbove g x y
  above_next x y next = chain_of_longer (IsNext g) x y (longer_step (IsNext g) x y next)

  -- ---- more that was met

  followed_more : (from : ℕ) (met more : List ℕ) (k : Key) → ((y : ℕ) → Contains met y → Contains more y)
      → IsFollowed g from met k → IsFollowed g from more k
  followed_more from met more k held f = record {
    class = f.class;
    is = f.is;
    above = f.above;
    next = λ y next. held y (f.next y next);
  }

  pub Grows-holds : (from : ℕ) (met met' : List ℕ) (read read' : List Key) → Grows g from met read met' read'
      → (y : ℕ) → Contains met y → Contains met' y
  Grows-holds from met met' read read' grows y c =
      subst (λ ys. Contains ys y) (sym grows.begins) (Contains-append_left met grows.rest y c)

  pub Grows-none : (from : ℕ) (met : List ℕ) (read : List Key) → Grows g from met read met read
  Grows-none from met read = record {
    rest = [];
    begins = sym (append-nil met);
    keeps = λ k c. c;
    only = λ y c. inl c;
    followed = λ k c. inl c;
  }

  pub Grows-then : (from : ℕ) (met mid new : List ℕ) (read some more : List Key)
      → Grows g from met read mid some → Grows g from mid some new more → Grows g from met read new more
  Grows-then from met mid new read some more a b = record {
    rest = a.rest ++ b.rest;
    begins = b.begins ∙ ap (λ ns. ns ++ b.rest) a.begins ∙ append_assoc met a.rest b.rest;
    keeps = λ k c. b.keeps k (a.keeps k c);
    only = λ y c. elim (b.only y c) [ inl d ↦ a.only y d | inr above ↦ inr above ];
    followed = λ k c. elim (b.followed k c) [
      | inl d ↦ elim (a.followed k d) [
        | inl e ↦ inl e
        | inr f ↦ inr (followed_more from mid new k (Grows-holds from mid new some more b) f)
      ]
      | inr f ↦ inr f
    ];
  }

  -- classes above were met, and nothing is read
  pub Grows-met : (from : ℕ) (met new more : List ℕ) (read : List Key) → Joins met more new
      → ((y : ℕ) → Contains more y → IsAbove g from y) → Grows g from met read new read
  Grows-met from met new more read joins above = record {
    rest = joins.rest;
    begins = joins.begins;
    keeps = λ k c. c;
    only = λ y c. elim ((joins.each y).0 c) [ inl d ↦ inl d | inr e ↦ inr (above y e) ];
    followed = λ k c. inl c;
  }

  -- ---- what is known of a class

  module _ (all : AllKnown g) (class : ℕ) (known : Wider) (right : AreWider g class known) where
    known_above : (y : ℕ) → Contains known.classes.keys y ↔ IsAbove g class y
    known_above y =
        let same = right.classes.each y in
        let listed = (path_lists g all Forward superclass_route class).each y in
        (λ c. listed.0 (same.0 c), λ above. same.1 (listed.1 above))

    known_read : (k : Key) → Contains known.reads k ↔ ((z : ℕ) × IsAbove g class z × (k ≡ class_key z))
    known_read k =
        let same = right.keys.each k in
        let read = path_reads_are g all Forward superclass_route class k in
        (λ c. read.0 (same.0 c), λ above. same.1 (read.1 above))

    -- it is taken over
    pub Grows-taken : (from : ℕ) → IsAbove g from class → (met new : List ℕ) (read more : List Key)
        → Joins met known.classes.keys new → Adds read more known.reads → Grows g from met read new more
    Grows-taken from low met new read more joins adds = record {
      rest = joins.rest;
      begins = joins.begins;
      keeps = λ k c. (adds.each k).1 (inl c);
      only = λ y c. elim ((joins.each y).0 c) [
        | inl d ↦ inl d
        | inr e ↦ inr (above_then from class y low ((known_above y).0 e))
      ];
      followed = λ k c. elim ((adds.each k).0 c) [
        | inl d ↦ inl d
        | inr e ↦
            let read = (known_read k).0 e in
            inr (record {
              class = read.0;
              is = read.2;
              above = above_then from class read.0 low read.1;
              next = λ y next. (joins.each y).1
                  (inr ((known_above y).1 (above_then class read.0 y read.1 (above_next read.0 y next))));
            })
      ];
    }

pub TakesOver-all : (known old new : Wider) → Joins old.classes.keys known.classes.keys new.classes.keys
    → Adds old.reads new.reads known.reads → TakesOver known old new
TakesOver-all known old new joins adds = record {
  held = λ y c. (joins.each y).1 (inl c);
  grows = λ g all class from right low.
      Grows-taken g all class known right from low old.classes.keys new.classes.keys old.reads new.reads
      joins adds;
}

pub TakesOver-none : (known old : Wider) → TakesOver known old old
TakesOver-none known old = record {
  held = λ y c. c;
  grows = λ g all class from right low. Grows-none g from old.classes.keys old.reads;
}

-- ---- classes that are met

-- an insertion adds the one class
pub Joins-class : (met : List ℕ) (class : ℕ) → Joins met (class ∷ []) (insert_key nat_eq met class)
Joins-class met class = Joins-entered nat_eq nat_eq_equiv eqb-true met class

module _ (known : List (ℕ × Wider)) where
  pub Meets-none : (old : Wider) → Meets known [] old old
  Meets-none old = record {
    here = λ y c. absurd (none_in_empty y c);
    held = λ y c. c;
    grows = λ g all right from above. Grows-none g from old.classes.keys old.reads;
  }

  pub Meets-then : (xs ys : List ℕ) (old mid new : Wider) → Meets known xs old mid → Meets known ys mid new
      → Meets known (xs ++ ys) old new
  Meets-then xs ys old mid new a b = record {
    here = λ y c. elim (Contains-append_cases xs ys y c) [
      | inl d ↦ b.held y (a.here y d)
      | inr e ↦ b.here y e
    ];
    held = λ y c. b.held y (a.held y c);
    grows = λ g all right from above.
        Grows-then g from old.classes.keys mid.classes.keys new.classes.keys old.reads mid.reads new.reads
        (a.grows g all right from (λ y c. above y (Contains-append_left xs ys y c)))
        (b.grows g all right from (λ y c. above y (Contains-append_right xs ys y c)));
  }

  -- a step of a loop over classes
  pub Meets-take_one : (xs : List ℕ) (i d : ℕ) → i < length xs → (old mid new : Wider)
      → Meets known (take i xs) old mid → Meets known (get_or xs i d ∷ []) mid new
      → Meets known (take (i + 1) xs) old new
  Meets-take_one xs i d inside old mid new before step =
      subst (λ ys. Meets known ys old new) (sym (take_more xs i d inside))
      (Meets-then (take i xs) (get_or xs i d ∷ []) old mid new before step)

  -- a class was entered, and nothing was read
  module _ (class : ℕ) (old mid : Wider) (adds : mid.classes.keys ≡ insert_key nat_eq old.classes.keys class)
      (same : mid.reads ≡ old.reads) where
    joins : Joins old.classes.keys (class ∷ []) mid.classes.keys
    joins = subst (Joins old.classes.keys (class ∷ [])) (sym adds) (Joins-class old.classes.keys class)

    entered : (g : Graph) (from : ℕ) → ((y : ℕ) → Contains (class ∷ []) y → IsAbove g from y)
        → GrowsTo g from old mid
    entered g from above =
        subst (Grows g from old.classes.keys old.reads mid.classes.keys) (sym same)
        (Grows-met g from old.classes.keys mid.classes.keys (class ∷ []) old.reads joins above)

    -- of a class that is not known, or whose key was read, nothing is taken over
    pub Meets-new : Meets known (class ∷ []) old mid
    Meets-new = record {
      here = λ y c. (joins.each y).1 (inr c);
      held = λ y c. (joins.each y).1 (inl c);
      grows = λ g all right from above. entered g from above;
    }

    pub Meets-known : (wider new : Wider) → ((g : Graph) → AreAllWider g known → AreWider g class wider)
        → TakesOver wider mid new → Meets known (class ∷ []) old new
    Meets-known wider new found takes = record {
      here = λ y c. takes.held y ((joins.each y).1 (inr c));
      held = λ y c. takes.held y ((joins.each y).1 (inl c));
      grows = λ g all right from above.
          Grows-then g from old.classes.keys mid.classes.keys new.classes.keys old.reads mid.reads new.reads
          (entered g from above)
          (takes.grows g all class from (found g right) (above class ((Contains-one class class).1 refl)));
    }

-- ---- a class that is followed

pub Follows-read : (g : Graph) (class : ℕ) (old : Wider) → Contains old.reads (class_key class)
    → Follows g class old old
Follows-read g class old c = record { grows = Grows-none g class old.classes.keys old.reads; read = c }

module _ (g : Graph) (all : AllKnown g) (known : List (ℕ × Wider)) (right : AreAllWider g known)
    (class : ℕ) where
  pub Follows-met : (old mid new : Wider) (above : List ℕ) → above ≡ step_to g Forward RDFS_SUB_CLASS_OF class
      → mid.classes.keys ≡ old.classes.keys → Adds old.reads mid.reads (class_key class ∷ [])
      → Meets known above mid new → Follows g class old new
  Follows-met old mid new above are same adds meets =
      let key = class_key class in
      let next = λ (y : ℕ). Contains-objects_of g class RDFS_SUB_CLASS_OF y in
      let grown = meets.grows g all right class
      (λ y c. above_next g class y ((next y).0 (subst (λ ys. Contains ys y) are c))) in
      record {
        grows = record {
          rest = grown.rest;
          begins = grown.begins ∙ ap (λ ns. ns ++ grown.rest) same;
          keeps = λ k c. grown.keeps k ((adds.each k).1 (inl c));
          only = λ y c. elim (grown.only y c) [
            | inl d ↦ inl (subst (λ ys. Contains ys y) same d)
            | inr above ↦ inr above
          ];
          followed = λ k c. elim (grown.followed k c) [
            | inl d ↦ elim ((adds.each k).0 d) [
              | inl e ↦ inl e
              | inr one ↦ inr (record {
                class = class;
                is = (Contains-one key k).0 one;
                above = above_itself g class;
                next = λ y n. meets.here y (subst (λ ys. Contains ys y) (sym are) ((next y).1 n));
              })
            ]
            | inr f ↦ inr f
          ];
        };
        read = grown.keeps key ((adds.each key).1 (inr ((Contains-one key key).1 refl)));
      }

-- ---- the whole search

-- what was met, of which that before a place was followed
pub record Climbed (g : Graph) (class : ℕ) (met : List ℕ) (read : List Key) (at : ℕ) : Type 0 where
  pub inside : at ≤ length met
  pub begins : Contains met class
  pub above : (y : ℕ) → Contains met y → IsAbove g class y
  pub followed : (k : Key) → Contains read k → IsFollowed g class met k
  pub done : (y : ℕ) → Contains (take at met) y → Contains read (class_key y)

module _ (g : Graph) (class : ℕ) where
  pub Climbed-start : (met : List ℕ) (read : List Key) → Joins [] (class ∷ []) met → read ≡ []
      → Climbed g class met read 0
  Climbed-start met read joins none = record {
    inside = omega arith;
    begins = (joins.each class).1 (inr ((Contains-one class class).1 refl));
    above = λ y c. elim ((joins.each y).0 c) [
      | inl d ↦ absurd (none_in_empty y d)
      | inr one ↦ subst (IsAbove g class) (sym ((Contains-one class y).0 one)) (above_itself g class)
    ];
    followed = λ k c. absurd (none_in_empty k (subst (λ ks. Contains ks k) none c));
    done = λ y c. absurd (none_in_empty y c);
  }

  pub Climbed-step : (old new : Wider) (at : ℕ) → Climbed g class old.classes.keys old.reads at
      → at < length old.classes.keys → (x : ℕ) → x ≡ get_or old.classes.keys at x → Follows g x old new
      → Climbed g class new.classes.keys new.reads (at + 1)
  Climbed-step old new at climbed more x here follows =
      let met = old.classes.keys in
      let grows = follows.grows in
      let there : Contains met x = (at, more, sym here) in
      let low = climbed.above x there in
      let held = Grows-holds g x met new.classes.keys old.reads new.reads grows in
      let front : take (at + 1) new.classes.keys ≡ take at met ++ x ∷ [] =
      ap (take (at + 1)) grows.begins ∙ take-append-le (at + 1) met grows.rest (omega (arith, more))
      ∙ take_more met at x more ∙ ap (λ y. take at met ++ y ∷ []) (sym here) in
      record {
        inside = omega (arith, more, ap length grows.begins, length-append met grows.rest);
        begins = held class climbed.begins;
        above = λ y c. elim (grows.only y c) [
          | inl d ↦ climbed.above y d
          | inr above ↦ above_then g class x y low above
        ];
        followed = λ k c. elim (grows.followed k c) [
          | inl d ↦ followed_more g class met new.classes.keys k held (climbed.followed k d)
          | inr f ↦ record {
            class = f.class;
            is = f.is;
            above = above_then g class x f.class low f.above;
            next = f.next;
          }
        ];
        done = λ y c. elim (Contains-append_cases (take at met) (x ∷ []) y
            (subst (λ ys. Contains ys y) front c)) [
              | inl before ↦ grows.keeps (class_key y) (climbed.done y before)
              | inr last ↦ subst (λ z. Contains new.reads (class_key z)) (sym ((Contains-one x y).0 last))
                  follows.read
            ];
      }

  -- the same for a class that was read in a slice, with any default
  pub Climbed-next : (old new : Wider) (at : ℕ) → Climbed g class old.classes.keys old.reads at
      → (slice : List ℕ) (d : ℕ) → slice ≡ old.classes.keys → at < length slice
      → Follows g (get_or slice at d) old new → Climbed g class new.classes.keys new.reads (at + 1)
  Climbed-next old new at climbed slice d same more follows =
      let x = get_or slice at d in
      let is : x ≡ get_or old.classes.keys at x =
      sym (get_or_default slice at x d more) ∙ ap (λ xs. get_or xs at x) same in
      Climbed-step old new at climbed (omega (arith, more, ap length same)) x is follows

  -- once all is followed, it is what stands above the class
  module _ (all : AllKnown g) (wider : Wider) (at : ℕ)
      (climbed : Climbed g class wider.classes.keys wider.reads at)
      (done : length wider.classes.keys ≤ at) where
    abbrev met : List ℕ
    met = wider.classes.keys

    read_of : (y : ℕ) → Contains met y → Contains wider.reads (class_key y)
    read_of y c = climbed.done y (subst (λ ys. Contains ys y) (sym (take_all at met done)) c)

    closed : (x y : ℕ) → Contains met x → IsNext g x y → Contains met y
    closed x y c next =
        let f = climbed.followed (class_key x) (read_of x c) in
        f.next y (subst (λ z. IsNext g z y) (class_of x f.class f.is) next)

    complete : (y : ℕ) → IsAbove g class y → Contains met y
    complete y above = Chain-keeps (IsNext g) (Contains met) closed class y above climbed.begins

    pub Climbed-all : AreWider g class wider
    Climbed-all = record {
      classes = record {
        each = λ y.
            let listed = (path_lists g all Forward superclass_route class).each y in
            (λ c. listed.1 (climbed.above y c), λ c. complete y (listed.0 c));
      };
      keys = record {
        each = λ k.
            let read = path_reads_are g all Forward superclass_route class k in (
              λ c.
                  let f = climbed.followed k c in
                  read.1 (f.class, f.above, f.is),
              λ c.
                  let found = read.0 c in
                  subst (Contains wider.reads) (sym found.2) (read_of found.0 (complete found.0 found.1)),
            );
      };
    }
