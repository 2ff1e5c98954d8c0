-- One segment of a path, which a slash follows or which is the last: what the steps that remove dot segments
-- do with it.
use Rattle.std.proofs.Common.{◌≡◌, ℕ, Bool, true, false, ◌||◌, cond, List, [], ◌∷◌, ◌++◌, length, drop, refl}
use Rattle.std.proofs.Common.{sym, ap, ◌∙◌}
use Rattle.std.specs.Prelude.{codes, nat_eq}
use Rattle.std.specs.List.{starts_with, list_any, before_first}
use Rattle.std.specs.Cmp.{nat_eq_equiv}
use Rattle.std.specs.Cmp.Lexicographic.{pointwise}
use Rattle.std.proofs.lemmas.Bool.{or_parts, and_parts, and_left, and_right, eqb-true, false≢true}
use Rattle.std.proofs.lemmas.List.{append-nil}
use Rattle.std.proofs.Math.Seq.{drop-append_seam, drop-length}
use Rattle.iri_resolve.specs.Characters.{is_slash}
use Rattle.iri_resolve.specs.DotSegments.{dot_step, without_last_segment}
use Rattle.iri_resolve.specs.inner.Walk.{after_slash, dots_removed, is_dot, is_dot_dot, slash_after}
use Rattle.iri_resolve.specs.inner.Walk.{with_segment}
use Rattle.iri_resolve.specs.inner.Walk.{with_last_segment}
use Rattle.iri_resolve.proofs.CutLemmas.{before_first-none, before_first-at}
use Rattle.iri_resolve.proofs.DotStepLemmas.{dots_removed-step, dots_removed-nil}

slash-ne : (b : ℕ) → is_slash b ≡ false → nat_eq 47 b ≡ false
slash-ne b h = nat_eq_equiv.symm 47 b ∙ h

-- a text that ends in a slash stands before a segment and its slash just where it is that segment and a slash
pub starts_with-segment : (word segment rest : List ℕ) → list_any is_slash word ≡ false
    → list_any is_slash segment ≡ false
    → starts_with nat_eq (segment ++ (47 ∷ rest)) (word ++ (47 ∷ [])) ≡ pointwise nat_eq segment word
starts_with-segment [] [] rest h k = refl
starts_with-segment [] (b ∷ bs) rest h k =
    and_left _ _ (slash-ne b (or_parts (is_slash b) (list_any is_slash bs) k).0)
starts_with-segment (x ∷ word) [] rest h k = and_left _ _ (or_parts (is_slash x) (list_any is_slash word) h).0
starts_with-segment (x ∷ word) (b ∷ bs) rest h k =
    let hs = or_parts (is_slash x) (list_any is_slash word) h in
    let ks = or_parts (is_slash b) (list_any is_slash bs) k in
    let same : nat_eq x b ≡ nat_eq b x = nat_eq_equiv.symm x b in
    let more = starts_with-segment word bs rest hs.1 ks.1 in
    rw (same, more) refl

pub pointwise-segment : (word segment rest : List ℕ) → list_any is_slash word ≡ false
    → pointwise nat_eq (segment ++ (47 ∷ rest)) word ≡ false
pointwise-segment [] [] rest h = refl
pointwise-segment [] (b ∷ bs) rest h = refl
pointwise-segment (x ∷ word) [] rest h =
    and_left _ _ (slash-ne x (or_parts (is_slash x) (list_any is_slash word) h).0)
pointwise-segment (x ∷ word) (b ∷ bs) rest h =
    and_right _ _ (pointwise-segment word bs rest (or_parts (is_slash x) (list_any is_slash word) h).1)

-- no text that ends in a slash stands before a last segment
pub starts_with-last : (word segment : List ℕ) → list_any is_slash segment ≡ false
    → starts_with nat_eq segment (word ++ (47 ∷ [])) ≡ false
starts_with-last [] [] k = refl
starts_with-last [] (b ∷ bs) k = and_left _ _ (slash-ne b (or_parts (is_slash b) (list_any is_slash bs) k).0)
starts_with-last (x ∷ word) [] k = refl
starts_with-last (x ∷ word) (b ∷ bs) k =
    and_right _ _ (starts_with-last word bs (or_parts (is_slash b) (list_any is_slash bs) k).1)

-- a step where a slash is in front, by the tests of what follows it
step-slash : (xs output segment : List ℕ) (t₁ t₂ t₃ t₄ : Bool)
    → starts_with nat_eq xs (codes "./") ≡ t₁ → pointwise nat_eq xs (codes ".") ≡ t₂
    → starts_with nat_eq xs (codes "../") ≡ t₃ → pointwise nat_eq xs (codes "..") ≡ t₄
    → before_first is_slash xs ≡ segment
    → dot_step (record { input = 47 ∷ xs; output = output })
    ≡ cond t₁ (record { input = drop 1 xs; output = output })
    (cond t₂ (record { input = codes "/"; output = output })
    (cond t₃ (record { input = drop 2 xs; output = without_last_segment output })
    (cond t₄ (record { input = codes "/"; output = without_last_segment output })
    (record { input = drop (length segment) xs; output = output ++ (47 ∷ segment) }))))
step-slash xs output segment t₁ t₂ t₃ t₄ h₁ h₂ h₃ h₄ e = rw (← h₁, ← h₂, ← h₃, ← h₄, ← e) refl

-- a step where there is none in front
step-bare : (b : ℕ) (bs output segment : List ℕ) (t₁ t₂ t₃ t₄ : Bool) → is_slash b ≡ false
    → starts_with nat_eq (b ∷ bs) (codes "../") ≡ t₁ → starts_with nat_eq (b ∷ bs) (codes "./") ≡ t₂
    → pointwise nat_eq (b ∷ bs) (codes ".") ≡ t₃ → pointwise nat_eq (b ∷ bs) (codes "..") ≡ t₄
    → before_first is_slash bs ≡ segment
    → dot_step (record { input = b ∷ bs; output = output })
    ≡ cond t₁ (record { input = drop 2 bs; output = output })
    (cond t₂ (record { input = drop 1 bs; output = output })
    (cond (t₃ || t₄) (record { input = []; output = output })
    (record { input = drop (length segment) bs; output = output ++ (b ∷ segment) })))
step-bare b bs output segment t₁ t₂ t₃ t₄ n h₁ h₂ h₃ h₄ e =
    let far = slash-ne b n in
    rw (← h₁, ← h₂, ← h₃, ← h₄, ← e) (rw (n, far) refl)

pointwise-same : (xs ys : List ℕ) → pointwise nat_eq xs ys ≡ true → xs ≡ ys
pointwise-same [] [] h = refl
pointwise-same [] (y ∷ ys) h = absurd (false≢true h)
pointwise-same (x ∷ xs) [] h = absurd (false≢true h)
pointwise-same (x ∷ xs) (y ∷ ys) h =
    let parts = and_parts (nat_eq x y) (pointwise nat_eq xs ys) h in
    let first = eqb-true x y parts.0 in
    let others = pointwise-same xs ys parts.1 in
    cc

-- a segment and its slash, with a slash in front
segment-after_slash : (segment rest output : List ℕ) (t₁ t₂ : Bool) → is_dot segment ≡ t₁
    → is_dot_dot segment ≡ t₂ → list_any is_slash segment ≡ false
    → dots_removed (47 ∷ (segment ++ (47 ∷ rest))) output ≡ dots_removed
    (after_slash (slash_after true segment) rest) (with_segment true segment output)
segment-after_slash segment rest output true t₂ h₁ h₂ n =
    rw (pointwise-same segment (codes ".") h₁) (dots_removed-step 47 (46 ∷ 47 ∷ rest) output)
segment-after_slash segment rest output false true h₁ h₂ n =
    rw (pointwise-same segment (codes "..") h₂) (dots_removed-step 47 (46 ∷ 46 ∷ 47 ∷ rest) output)
segment-after_slash segment rest output false false h₁ h₂ n =
    let xs = segment ++ (47 ∷ rest) in
    let e = step-slash xs output segment false false false false
    (starts_with-segment (codes ".") segment rest refl n ∙ h₁)
    (pointwise-segment (codes ".") segment rest refl)
    (starts_with-segment (codes "..") segment rest refl n ∙ h₂)
    (pointwise-segment (codes "..") segment rest refl)
    (before_first-at is_slash segment 47 rest n refl) in
    let seam = drop-append_seam segment (47 ∷ rest) in
    dots_removed-step 47 xs output ∙ rw (e, h₁, h₂, seam) refl

-- a dot and its slash, and two, with none in front
dot-bare : (segment rest output : List ℕ) → segment ≡ codes "."
    → dots_removed (segment ++ (47 ∷ rest)) output ≡ dots_removed
    (after_slash (slash_after false segment) rest) (with_segment false segment output)
dot-bare segment rest output e = rw e (dots_removed-step 46 (47 ∷ rest) output)

dots-bare : (segment rest output : List ℕ) → segment ≡ codes ".."
    → dots_removed (segment ++ (47 ∷ rest)) output ≡ dots_removed
    (after_slash (slash_after false segment) rest) (with_segment false segment output)
dots-bare segment rest output e = rw e (dots_removed-step 46 (46 ∷ 47 ∷ rest) output)

-- a segment and its slash, with none in front
segment-bare : (b : ℕ) (bs rest output : List ℕ) (t₁ t₂ : Bool) → is_dot (b ∷ bs) ≡ t₁
    → is_dot_dot (b ∷ bs) ≡ t₂ → list_any is_slash (b ∷ bs) ≡ false
    → dots_removed (b ∷ (bs ++ (47 ∷ rest))) output ≡ dots_removed
    (after_slash (slash_after false (b ∷ bs)) rest) (with_segment false (b ∷ bs) output)
segment-bare b bs rest output true t₂ h₁ h₂ n =
    dot-bare (b ∷ bs) rest output (pointwise-same (b ∷ bs) (codes ".") h₁)
segment-bare b bs rest output false true h₁ h₂ n =
    dots-bare (b ∷ bs) rest output (pointwise-same (b ∷ bs) (codes "..") h₂)
segment-bare b bs rest output false false h₁ h₂ n =
    let parts = or_parts (is_slash b) (list_any is_slash bs) n in
    let e = step-bare b (bs ++ (47 ∷ rest)) output bs false false false false parts.0
    (starts_with-segment (codes "..") (b ∷ bs) rest refl n ∙ h₂)
    (starts_with-segment (codes ".") (b ∷ bs) rest refl n ∙ h₁)
    (pointwise-segment (codes ".") (b ∷ bs) rest refl) (pointwise-segment (codes "..") (b ∷ bs) rest refl)
    (before_first-at is_slash bs 47 rest parts.1 refl) in
    let seam = drop-append_seam bs (47 ∷ rest) in
    dots_removed-step b (bs ++ (47 ∷ rest)) output ∙ rw (e, h₁, h₂, seam) refl

-- a segment that a slash follows
pub dots_removed-segment : (slash : Bool) (segment rest output : List ℕ) → list_any is_slash segment ≡ false
    → dots_removed (after_slash slash (segment ++ (47 ∷ rest))) output ≡ dots_removed
    (after_slash (slash_after slash segment) rest) (with_segment slash segment output)
dots_removed-segment true segment rest output n = segment-after_slash segment rest output _ _ refl refl n
dots_removed-segment false [] rest output n = ap (dots_removed (47 ∷ rest)) (sym (append-nil output))
dots_removed-segment false (b ∷ bs) rest output n = segment-bare b bs rest output _ _ refl refl n

-- the last segment, with a slash in front
last-after_slash : (segment output : List ℕ) (t₁ t₂ : Bool) → is_dot segment ≡ t₁ → is_dot_dot segment ≡ t₂
    → list_any is_slash segment ≡ false
    → dots_removed (47 ∷ segment) output ≡ with_last_segment true segment output
last-after_slash segment output true t₂ h₁ h₂ n =
    rw (pointwise-same segment (codes ".") h₁)
    (dots_removed-step 47 (46 ∷ []) output ∙ dots_removed-step 47 [] output
    ∙ dots_removed-nil (output ++ (47 ∷ [])))
last-after_slash segment output false true h₁ h₂ n =
    rw (pointwise-same segment (codes "..") h₂)
    (dots_removed-step 47 (46 ∷ 46 ∷ []) output ∙ dots_removed-step 47 [] (without_last_segment output)
    ∙ dots_removed-nil (without_last_segment output ++ (47 ∷ [])))
last-after_slash segment output false false h₁ h₂ n =
    let e = step-slash segment output segment false false false false
    (starts_with-last (codes ".") segment n) h₁ (starts_with-last (codes "..") segment n) h₂
    (before_first-none is_slash segment n) in
    let seam = drop-length segment in
    dots_removed-step 47 segment output ∙ rw (e, h₁, h₂, seam) (dots_removed-nil (output ++ (47 ∷ segment)))

-- a dot at the end, and two, with none in front
last-dot-bare : (segment output : List ℕ) → segment ≡ codes "."
    → dots_removed segment output ≡ with_last_segment false segment output
last-dot-bare segment output e =
    rw e (dots_removed-step 46 [] output ∙ dots_removed-nil output ∙ sym (append-nil output))

last-dots-bare : (segment output : List ℕ) → segment ≡ codes ".."
    → dots_removed segment output ≡ with_last_segment false segment output
last-dots-bare segment output e =
    rw e (dots_removed-step 46 (46 ∷ []) output ∙ dots_removed-nil output ∙ sym (append-nil output))

-- the last segment, with none in front
last-bare : (b : ℕ) (bs output : List ℕ) (t₁ t₂ : Bool) → is_dot (b ∷ bs) ≡ t₁ → is_dot_dot (b ∷ bs) ≡ t₂
    → list_any is_slash (b ∷ bs) ≡ false
    → dots_removed (b ∷ bs) output ≡ with_last_segment false (b ∷ bs) output
last-bare b bs output true t₂ h₁ h₂ n = last-dot-bare (b ∷ bs) output (pointwise-same (b ∷ bs) (codes ".") h₁)
last-bare b bs output false true h₁ h₂ n =
    last-dots-bare (b ∷ bs) output (pointwise-same (b ∷ bs) (codes "..") h₂)
last-bare b bs output false false h₁ h₂ n =
    let parts = or_parts (is_slash b) (list_any is_slash bs) n in
    let e = step-bare b bs output bs false false false false parts.0
    (starts_with-last (codes "..") (b ∷ bs) n) (starts_with-last (codes ".") (b ∷ bs) n) h₁ h₂
    (before_first-none is_slash bs parts.1) in
    let seam = drop-length bs in
    dots_removed-step b bs output ∙ rw (e, h₁, h₂, seam) (dots_removed-nil (output ++ (b ∷ bs)))

-- the last segment, which no slash follows
pub dots_removed-last : (slash : Bool) (segment output : List ℕ) → list_any is_slash segment ≡ false
    → dots_removed (after_slash slash segment) output ≡ with_last_segment slash segment output
dots_removed-last true segment output n = last-after_slash segment output _ _ refl refl n
dots_removed-last false [] output n = dots_removed-nil output ∙ sym (append-nil output)
dots_removed-last false (b ∷ bs) output n = last-bare b bs output _ _ refl refl n
