-- Readings as they are filed: one more of them, one less, and that no target has a node.
use Rattle.std.specs.Prelude.{◌≡◌, ℕ, true, false, ◌==◌, List, [], ◌∷◌, ◌++◌, map, Contains, ◌↔◌, ◌⊎◌}
use Rattle.std.specs.Prelude.{IfOk, OnOk, OnErr}
use Rattle.std.specs.declared.result.Result.{Result}
use Rattle.std.specs.declared.result.Result.TheVariants.{Ok, Err}
use Rattle.std.specs.declared.vec.Vec.{Vec}
use Rattle.std.proofs.Common.{refl, sym, ap, ◌∙◌, subst, inl, inr, true≢false}
use Rattle.std.proofs.lemmas.Bool.{eqb-true, eq-eqb, and_from}
use Rattle.std.proofs.lemmas.List.Elements.{Contains-append_left, Contains-append_right}
use Rattle.std.proofs.lemmas.List.Elements.{Contains-append_cases}
use Rattle.std.proofs.lemmas.Result.{IfOk-weaker}
use Rattle.shx_term.specs.Members.{Adds}
use Rattle.shx_term.proofs.MemberLemmas.{Contains-from_map, Contains-map, Contains-one}
use Rattle.comp_core.specs.declared.pair.Pair.{Pair}
use Rattle.graph_view.specs.declared.key.Key.{Key}
use Rattle.graph_view.specs.declared.key.Key.TheVariants.{Out, In, Subject, Predicate, Answer}
use Rattle.graph_view.specs.Key.{key_first, key_kind, key_second}
use Rattle.graph_view.specs.inner.KeyLaws.{same_key_exact}
use Rattle.read_records.specs.declared.by_kind.ByKind.{ByKind}
use Rattle.read_records.specs.declared.posting.Posting.{Posting}
use Rattle.read_records.specs.declared.posting.Whom.{Whom}
use Rattle.read_records.specs.declared.reader.Reader.{Reader}
use Rattle.read_records.specs.declared.reader.Reader.TheVariants.{OfTarget, OfPair}
use Rattle.read_records.specs.Reader.{reader_kind, reader_node, reader_shape}
use Rattle.read_records.specs.inner.Postings.{IsWithout, place, posting, whom}
use Rattle.read_records.specs.inner.ReaderLaws.{same_reader_exact}
use Rattle.read_records.specs.inner.Filing.{AddsOne, AreTargets, ChangesOne, Filed, HoldSame, IsLeft}
use Rattle.read_records.specs.inner.Filing.{Reading, Stands, filed_with, posting_of, reading, side, tree}

-- ---- kinds

same_tree : (a b : Key) → key_kind a ≡ key_kind b → (all : ByKind (List Posting)) → tree a all ≡ tree b all
same_tree (Out s p) (Out s' p') e all = refl
same_tree (Out s p) (In p' o') e all = cc
same_tree (Out s p) (Subject s') e all = cc
same_tree (Out s p) (Predicate p') e all = cc
same_tree (Out s p) (Answer s' n') e all = cc
same_tree (In p o) (Out s' p') e all = cc
same_tree (In p o) (In p' o') e all = refl
same_tree (In p o) (Subject s') e all = cc
same_tree (In p o) (Predicate p') e all = cc
same_tree (In p o) (Answer s' n') e all = cc
same_tree (Subject s) (Out s' p') e all = cc
same_tree (Subject s) (In p' o') e all = cc
same_tree (Subject s) (Subject s') e all = refl
same_tree (Subject s) (Predicate p') e all = cc
same_tree (Subject s) (Answer s' n') e all = cc
same_tree (Predicate p) (Out s' p') e all = cc
same_tree (Predicate p) (In p' o') e all = cc
same_tree (Predicate p) (Subject s') e all = cc
same_tree (Predicate p) (Predicate p') e all = refl
same_tree (Predicate p) (Answer s' n') e all = cc
same_tree (Answer s n) (Out s' p') e all = cc
same_tree (Answer s n) (In p' o') e all = cc
same_tree (Answer s n) (Subject s') e all = cc
same_tree (Answer s n) (Predicate p') e all = cc
same_tree (Answer s n) (Answer s' n') e all = refl

same_side : (a b : Reader) → reader_kind a ≡ reader_kind b → (all : Filed) → side a all ≡ side b all
same_side (OfTarget s) (OfTarget s') e all = refl
same_side (OfTarget s) (OfPair p') e all = cc
same_side (OfPair p) (OfTarget s') e all = cc
same_side (OfPair p) (OfPair p') e all = refl

-- two readings whose keys are of one kind, and their readers too
abbrev AreAlike : Reading → Reading → Type 0
AreAlike x y = (key_kind x.key ≡ key_kind y.key) × (reader_kind x.reader ≡ reader_kind y.reader)

same_number : (a b : ℕ) → (a ≡ b) ⊎ (a ≡ b → ⊥)
same_number a b = elim (a == b) as (λ t. (a == b) ≡ t → (a ≡ b) ⊎ (a ≡ b → ⊥)) [
  | true ↦ λ tied. inl (eqb-true a b tied)
  | false ↦ λ apart. inr (λ e. true≢false (sym (eq-eqb a b e) ∙ apart))
] refl

alike : (x y : Reading) → AreAlike x y ⊎ (AreAlike x y → ⊥)
alike x y = elim (same_number (key_kind x.key) (key_kind y.key)) [
  | inl keys ↦ elim (same_number (reader_kind x.reader) (reader_kind y.reader)) [
    | inl readers ↦ inl (keys, readers)
    | inr apart ↦ inr (λ both. apart both.1)
  ]
  | inr apart ↦ inr (λ both. apart both.0)
]

alike_itself : (x y : Reading) → x ≡ y → AreAlike x y
alike_itself x y e = (ap (λ z. key_kind z.key) e, ap (λ z. reader_kind z.reader) e)

filed_alike : (x y : Reading) → AreAlike x y → (all : Filed) → filed_with x all ≡ filed_with y all
filed_alike x y kinds all =
    same_tree x.key y.key kinds.0 (side x.reader all)
    ∙ ap (tree y.key) (same_side x.reader y.reader kinds.1 all)

-- of these kinds, the numbers tell them apart
exact_posting : (x y : Reading) → AreAlike x y → posting_of x ≡ posting_of y → x ≡ y
exact_posting x y kinds e =
    let key = same_key_exact x.key y.key
    (and_from _ _ (eq-eqb _ _ kinds.0)
    (and_from _ _ (eq-eqb (key_first x.key) (key_first y.key) (ap (λ p. p.place.first) e))
    (eq-eqb (key_second x.key) (key_second y.key) (ap (λ p. p.place.second) e)))) in
    let reader = same_reader_exact x.reader y.reader
    (and_from _ _ (eq-eqb _ _ kinds.1)
    (and_from _ _ (eq-eqb (reader_shape x.reader) (reader_shape y.reader) (ap (λ p. p.whom.shape) e))
    (eq-eqb (reader_node x.reader) (reader_node y.reader) (ap (λ p. p.whom.node) e)))) in
    λ i. record { key = key i; reader = reader i }

-- ---- what changes of what is filed

-- what is filed with a reading changed in this way, and nothing else
record ChangesWith (Changes : List Posting → List Posting → Type 0) (old new : Filed) (x : Reading)
    : Type 0 where
  pub there : Changes (filed_with x old) (filed_with x new)
  pub others : (y : Reading) → (AreAlike y x → ⊥) → filed_with y new ≡ filed_with y old

module _ {Changes : List Posting → List Posting → Type 0} (old : Filed) (new : ByKind (List Posting))
    (key : Key)
  where
    ChangesWith-target : (shape : ℕ) → ChangesOne Changes old.targets new key
        → ChangesWith Changes old (record { targets = new; pairs = old.pairs }) (reading key (OfTarget shape))
    ChangesWith-target shape one = record { there = one.there; others = λ y apart. by y.key y.reader apart }
      where
        by : (k : Key) (r : Reader) → ((key_kind k ≡ key_kind key) × (reader_kind r ≡ 0) → ⊥)
            → tree k (side r (record { targets = new; pairs = old.pairs })) ≡ tree k (side r old)
        by k (OfTarget s) apart = one.others k (λ e. apart (e, refl))
        by k (OfPair p) apart = refl

    ChangesWith-pair : (pair : Pair) → ChangesOne Changes old.pairs new key
        → ChangesWith Changes old (record { targets = old.targets; pairs = new }) (reading key (OfPair pair))
    ChangesWith-pair pair one = record { there = one.there; others = λ y apart. by y.key y.reader apart }
      where
        by : (k : Key) (r : Reader) → ((key_kind k ≡ key_kind key) × (reader_kind r ≡ 1) → ⊥)
            → tree k (side r (record { targets = old.targets; pairs = new })) ≡ tree k (side r old)
        by k (OfTarget s) apart = refl
        by k (OfPair p) apart = one.others k (λ e. apart (e, refl))

AddsOne-with : {old new : Filed} {x : Reading}
    → ChangesWith (λ xs ys. Adds xs ys (posting_of x ∷ [])) old new x → AddsOne old new x
AddsOne-with {old} {new} {x} change = record { each = λ y. by y (alike y x) }
  where
    by : (y : Reading) → AreAlike y x ⊎ (AreAlike y x → ⊥) → Stands new y ↔ (Stands old y ⊎ (y ≡ x))
    by y (inl same) =
        let is = change.there.each (posting_of y) in
        let at = filed_alike y x same in (
          λ c. elim (is.0 (subst (λ xs. Contains xs (posting_of y)) (at new) c)) [
            | inl held ↦ inl (subst (λ xs. Contains xs (posting_of y)) (sym (at old)) held)
            | inr one ↦ inr (exact_posting y x same ((Contains-one (posting_of x) (posting_of y)).0 one))
          ],
          λ h. subst (λ xs. Contains xs (posting_of y)) (sym (at new)) (is.1 (elim h [
            | inl held ↦ inl (subst (λ xs. Contains xs (posting_of y)) (at old) held)
            | inr e ↦ inr ((Contains-one (posting_of x) (posting_of y)).1 (ap posting_of e))
          ])),
        )
    by y (inr apart) =
        let at = change.others y apart in (
          λ c. inl (subst (λ xs. Contains xs (posting_of y)) at c),
          λ h. elim h [
            | inl held ↦ subst (λ xs. Contains xs (posting_of y)) (sym at) held
            | inr e ↦ absurd (apart (alike_itself y x e))
          ],
        )

IsLeft-with : {old new : Filed} {x : Reading}
    → ChangesWith (λ xs ys. IsWithout xs ys (posting_of x)) old new x → IsLeft old new x
IsLeft-with {old} {new} {x} change = record { each = λ y. by y (alike y x) }
  where
    by : (y : Reading) → AreAlike y x ⊎ (AreAlike y x → ⊥) → Stands new y ↔ (Stands old y × (y ≡ x → ⊥))
    by y (inl same) =
        let is = change.there.each (posting_of y) in
        let at = filed_alike y x same in (
          λ c.
              let left = is.0 (subst (λ xs. Contains xs (posting_of y)) (at new) c) in (
                subst (λ xs. Contains xs (posting_of y)) (sym (at old)) left.0,
                λ e. left.1 (ap posting_of e),
              ),
          λ h. subst (λ xs. Contains xs (posting_of y)) (sym (at new)) (is.1 (
            subst (λ xs. Contains xs (posting_of y)) (at old) h.0,
            λ e. h.1 (exact_posting y x same e),
          )),
        )
    by y (inr apart) =
        let at = change.others y apart in (
          λ c. (subst (λ xs. Contains xs (posting_of y)) at c, λ e. apart (alike_itself y x e)),
          λ h. subst (λ xs. Contains xs (posting_of y)) (sym at) h.0,
        )

-- ---- targets

-- what changed holds only what was there, and targets
AreTargets-one : {Changes : List Posting → List Posting → Type 0} {old new : ByKind (List Posting)}
    {key : Key} → ChangesOne Changes old new key
    → ((x : Posting) → Contains (tree key new) x → Contains (tree key old) x ⊎ (x.whom.node ≡ 0))
    → AreTargets old → AreTargets new
AreTargets-one {old = old} {new} {key} one held are = record {
  each = λ k x c. by k x (same_number (key_kind k) (key_kind key)) c;
}
  where
    by : (k : Key) (x : Posting) → (key_kind k ≡ key_kind key) ⊎ (key_kind k ≡ key_kind key → ⊥)
        → Contains (tree k new) x → x.whom.node ≡ 0
    by k x (inl same) c = elim (held x (subst (λ xs. Contains xs x) (same_tree k key same new) c)) [
      | inl was ↦ are.each key x was
      | inr none ↦ none
    ]
    by k x (inr apart) c = are.each k x (subst (λ xs. Contains xs x) (one.others k apart) c)

AreTargets-added : {old new : ByKind (List Posting)} {key : Key} (shape : ℕ)
    → ChangesOne (λ xs ys. Adds xs ys (posting (place key) (whom (OfTarget shape)) ∷ [])) old new key
    → AreTargets old → AreTargets new
AreTargets-added {key = key} shape one =
    let more = posting (place key) (whom (OfTarget shape)) in
    AreTargets-one one (λ x c. elim ((one.there.each x).0 c) [
      | inl was ↦ inl was
      | inr here ↦ inr (ap (λ p. p.whom.node) ((Contains-one more x).0 here))
    ])

pub AreTargets-left : {old new : ByKind (List Posting)} {key : Key} {gone : Posting}
    → ChangesOne (λ xs ys. IsWithout xs ys gone) old new key → AreTargets old → AreTargets new
AreTargets-left one = AreTargets-one one (λ x c. inl ((one.there.each x).0 c).0)

pub AreTargets-same : {old new : ByKind (List Posting)} → HoldSame old new → AreTargets old → AreTargets new
AreTargets-same same are = record { each = λ key x c. are.each key x ((same.each key x).0 c) }

-- ---- the readers of a key

abbrev pub as_target : Whom → Reader
as_target w = OfTarget w.shape

abbrev pub as_pair : Whom → Reader
as_pair w = OfPair (record { shape = w.shape; node = w.node })

readers_found : (all : Filed) (key : Key) (targets pairs : List Whom) → AreTargets all.targets
    → ((w : Whom) → Contains targets w ↔ Contains (tree key all.targets) (posting (place key) w))
    → ((w : Whom) → Contains pairs w ↔ Contains (tree key all.pairs) (posting (place key) w))
    → (r : Reader) → Contains (map as_target targets ++ map as_pair pairs) r ↔ Stands all (reading key r)
readers_found all key targets pairs are ts ps r = (
  λ c. elim (Contains-append_cases (map as_target targets) (map as_pair pairs) r c) [
    | inl t ↦
        let w = Contains-from_map as_target targets r t in
        let there = (ts w.0).0 w.1 in
        let at : ℕ → Posting = λ n. posting (place key) (record { shape = w.0.shape; node = n }) in
        subst (λ r. Stands all (reading key r)) (sym w.2)
        (subst (λ n. Contains (tree key all.targets) (at n)) (are.each key (posting (place key) w.0) there)
        there)
    | inr p ↦
        let w = Contains-from_map as_pair pairs r p in
        subst (λ r. Stands all (reading key r)) (sym w.2) ((ps w.0).0 w.1)
  ],
  by r,
)
  where
    by : (r : Reader) → Stands all (reading key r) → Contains (map as_target targets ++ map as_pair pairs) r
    by (OfTarget s) c =
        Contains-append_left (map as_target targets) (map as_pair pairs) (OfTarget s)
        (Contains-map as_target targets (whom (OfTarget s)) ((ts (whom (OfTarget s))).1 c))
    by (OfPair p) c =
        Contains-append_right (map as_target targets) (map as_pair pairs) (OfPair p)
        (Contains-map as_pair pairs (whom (OfPair p)) ((ps (whom (OfPair p))).1 c))

-- the same of what was collected
pub IfOk-readers : {Z E : Type 0} (result : Result (Vec Reader Z) E) (all : Filed) (key : Key)
    (targets pairs : List Whom) → AreTargets all.targets
    → ((w : Whom) → Contains targets w ↔ Contains (tree key all.targets) (posting (place key) w))
    → ((w : Whom) → Contains pairs w ↔ Contains (tree key all.pairs) (posting (place key) w))
    → IfOk result (λ found. found.items ≡ map as_target targets ++ map as_pair pairs)
    → IfOk result (λ found. (r : Reader) → Contains found.items r ↔ Stands all (reading key r))
IfOk-readers result all key targets pairs are ts ps found =
    IfOk-weaker result _ _
    (λ list is r. subst (λ rs. Contains rs r ↔ Stands all (reading key r)) (sym is)
    (readers_found all key targets pairs are ts ps r)) found

-- ---- a target or a pair was entered, or went

pub AddsOne-target : (targets pairs : ByKind (List Posting)) (key : Key) (shape : ℕ) {who : Whom}
    → who ≡ whom (OfTarget shape) → {new : ByKind (List Posting)}
    → ChangesOne (λ xs ys. Adds xs ys (posting (place key) who ∷ [])) targets new key
    → AddsOne (record { targets = targets; pairs = pairs }) (record { targets = new; pairs = pairs })
    (reading key (OfTarget shape))
AddsOne-target targets pairs key shape is {new} one =
    AddsOne-with (ChangesWith-target (record { targets = targets; pairs = pairs }) new key shape
    (subst (λ w. ChangesOne (λ xs ys. Adds xs ys (posting (place key) w ∷ [])) targets new key) is one))

pub AddsOne-pair : (targets pairs : ByKind (List Posting)) (key : Key) (pair : Pair) {who : Whom}
    → who ≡ whom (OfPair pair) → {new : ByKind (List Posting)}
    → ChangesOne (λ xs ys. Adds xs ys (posting (place key) who ∷ [])) pairs new key
    → AddsOne (record { targets = targets; pairs = pairs }) (record { targets = targets; pairs = new })
    (reading key (OfPair pair))
AddsOne-pair targets pairs key pair is {new} one =
    AddsOne-with (ChangesWith-pair (record { targets = targets; pairs = pairs }) new key pair
    (subst (λ w. ChangesOne (λ xs ys. Adds xs ys (posting (place key) w ∷ [])) pairs new key) is one))

pub IsLeft-target : (targets pairs : ByKind (List Posting)) (key : Key) (shape : ℕ) {who : Whom}
    → who ≡ whom (OfTarget shape) → {new : ByKind (List Posting)}
    → ChangesOne (λ xs ys. IsWithout xs ys (posting (place key) who)) targets new key
    → IsLeft (record { targets = targets; pairs = pairs }) (record { targets = new; pairs = pairs })
    (reading key (OfTarget shape))
IsLeft-target targets pairs key shape is {new} one =
    IsLeft-with (ChangesWith-target (record { targets = targets; pairs = pairs }) new key shape
    (subst (λ w. ChangesOne (λ xs ys. IsWithout xs ys (posting (place key) w)) targets new key) is one))

pub IsLeft-pair : (targets pairs : ByKind (List Posting)) (key : Key) (pair : Pair) {who : Whom}
    → who ≡ whom (OfPair pair) → {new : ByKind (List Posting)}
    → ChangesOne (λ xs ys. IsWithout xs ys (posting (place key) who)) pairs new key
    → IsLeft (record { targets = targets; pairs = pairs }) (record { targets = targets; pairs = new })
    (reading key (OfPair pair))
IsLeft-pair targets pairs key pair is {new} one =
    IsLeft-with (ChangesWith-pair (record { targets = targets; pairs = pairs }) new key pair
    (subst (λ w. ChangesOne (λ xs ys. IsWithout xs ys (posting (place key) w)) pairs new key) is one))

-- a target was entered, or memory was refused
pub AreTargets-tried : {Z E : Type 0} (result : Result Z E) (key : Key) (shape : ℕ) {who : Whom}
    → who ≡ whom (OfTarget shape) → {old new : ByKind (List Posting)}
    → OnOk result (ChangesOne (λ xs ys. Adds xs ys (posting (place key) who ∷ [])) old new key)
    → OnErr result (new ≡ old) → AreTargets old → AreTargets new
AreTargets-tried (Ok value) key shape is {old} {new} added refused are =
    AreTargets-added shape
    (subst (λ w. ChangesOne (λ xs ys. Adds xs ys (posting (place key) w ∷ [])) old new key) is added) are
AreTargets-tried (Err refusal) key shape is added refused are = subst AreTargets (sym refused) are

-- ---- trees that are put in order

pub HoldSame-each : (old : ByKind (List Posting)) {out into subject predicate answer : List Posting}
    → ((x : Posting) → Contains out x ↔ Contains old.out x)
    → ((x : Posting) → Contains into x ↔ Contains old.into x)
    → ((x : Posting) → Contains subject x ↔ Contains old.subject x)
    → ((x : Posting) → Contains predicate x ↔ Contains old.predicate x)
    → ((x : Posting) → Contains answer x ↔ Contains old.answer x)
    → HoldSame old (record {
      out = out;
      into = into;
      subject = subject;
      predicate = predicate;
      answer = answer;
    })
HoldSame-each old {out} {into} {subject} {predicate} {answer} a b c d f = record { each = by }
  where
    by : (key : Key) (x : Posting)
        → Contains (tree key (record {
          out = out;
          into = into;
          subject = subject;
          predicate = predicate;
          answer = answer;
        })) x
        ↔ Contains (tree key old) x
    by (Out s p) x = a x
    by (In p o) x = b x
    by (Subject s) x = c x
    by (Predicate p) x = d x
    by (Answer s n) x = f x

pub Stands-same : (targets pairs : ByKind (List Posting)) {new_targets new_pairs : ByKind (List Posting)}
    → HoldSame targets new_targets → HoldSame pairs new_pairs → (x : Reading)
    → Stands (record { targets = new_targets; pairs = new_pairs }) x
    ↔ Stands (record { targets = targets; pairs = pairs }) x
Stands-same targets pairs {new_targets} {new_pairs} ts ps x = by x.key x.reader
  where
    by : (key : Key) (r : Reader)
        → Contains (tree key (side r (record { targets = new_targets; pairs = new_pairs })))
        (posting (place key) (whom r))
        ↔ Contains (tree key (side r (record { targets = targets; pairs = pairs })))
        (posting (place key) (whom r))
    by key (OfTarget s) = ts.each key (posting (place key) (whom (OfTarget s)))
    by key (OfPair p) = ps.each key (posting (place key) (whom (OfPair p)))
