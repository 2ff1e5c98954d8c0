-- A path and its last slash.
use Rattle.std.proofs.Common.{◌≡◌, ℕ, ◌+◌, ◌<◌, ◌≤◌, ◌≢◌, get_or, subst, suc, Bool, true, false, List, []}
use Rattle.std.proofs.Common.{◌∷◌, ◌++◌, length, take, drop, reverse, refl, sym, ap, ◌∙◌, arith}
use Rattle.std.specs.List.{list_any, before_first, after_first}
use Rattle.std.proofs.lemmas.List.{append_assoc, length-append, reverse-append, reverse-reverse, length-drop}
use Rattle.std.proofs.lemmas.List.{take-append-drop, drop_more}
use Rattle.std.proofs.lemmas.List.Elements.{All-from_get_or}
use Rattle.std.proofs.lemmas.List.Folds.{list_any_none}
use Rattle.std.proofs.lemmas.Bool.{ne_eqb}
use Rattle.std.proofs.lemmas.List.Sorted.{IsPermutation-reverse, list_any-IsPermutation}
use Rattle.std.proofs.Math.Seq.{drop-append_seam, drop-append-add, get_or-drop}
use Rattle.iri_resolve.specs.Characters.{is_slash}
use Rattle.iri_resolve.specs.Parts.{from_first}
use Rattle.iri_resolve.specs.DotSegments.{without_last_segment}
use Rattle.iri_resolve.specs.Resolution.{up_to_last_slash}
use Rattle.iri_resolve.specs.inner.Walk.{last_segment}
use Rattle.iri_resolve.proofs.CutLemmas.{from_first-append, from_first-drop, from_first-none, after_first-at}
use Rattle.iri_resolve.proofs.CutLemmas.{after_first-none, list_any-before_first}

pub list_any-reverse : (p : ℕ → Bool) (xs : List ℕ) → list_any p (reverse xs) ≡ list_any p xs
list_any-reverse p xs = sym (list_any-IsPermutation p xs (reverse xs) (IsPermutation-reverse xs))

pub up_to_last_slash-none : (path : List ℕ) → list_any is_slash path ≡ false → up_to_last_slash path ≡ []
up_to_last_slash-none path h =
    ap reverse (from_first-none is_slash (reverse path) (list_any-reverse is_slash path ∙ h))

-- a list from behind, round an element
reverse-around : (xs : List ℕ) (y : ℕ) (ys : List ℕ)
    → reverse (xs ++ (y ∷ ys)) ≡ reverse ys ++ (y ∷ reverse xs)
reverse-around xs y ys =
    reverse-append xs (y ∷ ys) ∙ ap (λ (zs : List ℕ). zs ++ reverse xs) (reverse-append (y ∷ []) ys)
    ∙ append_assoc (reverse ys) (y ∷ []) (reverse xs)

-- the path up to its last slash goes on behind a segment
slash-behind : (segment behind : List ℕ) (t : Bool) → list_any is_slash behind ≡ t
    → up_to_last_slash (segment ++ (47 ∷ behind)) ≡ segment ++ (47 ∷ up_to_last_slash behind)
slash-behind segment behind true h =
    let any = list_any-reverse is_slash behind ∙ h in
    let cut = from_first-append is_slash (reverse behind) (47 ∷ reverse segment) in
    let back : reverse (reverse segment) ≡ segment = reverse-reverse segment in
    ap (λ (zs : List ℕ). reverse (from_first is_slash zs)) (reverse-around segment 47 behind)
    ∙ rw (cut, any)
    (reverse-around (from_first is_slash (reverse behind)) 47 (reverse segment) ∙ rw back refl)
slash-behind segment behind false h =
    let any = list_any-reverse is_slash behind ∙ h in
    let cut = from_first-append is_slash (reverse behind) (47 ∷ reverse segment) in
    let back : reverse (reverse segment) ≡ segment = reverse-reverse segment in
    ap (λ (zs : List ℕ). reverse (from_first is_slash zs)) (reverse-around segment 47 behind)
    ∙ rw (cut, any) (reverse-around [] 47 (reverse segment) ∙ rw (back, up_to_last_slash-none behind h) refl)

pub up_to_last_slash-segment : (segment behind : List ℕ)
    → up_to_last_slash (segment ++ (47 ∷ behind)) ≡ segment ++ (47 ∷ up_to_last_slash behind)
up_to_last_slash-segment segment behind = slash-behind segment behind _ refl

pub last_segment-none : (path : List ℕ) → list_any is_slash path ≡ false → last_segment path ≡ path
last_segment-none path h = rw (up_to_last_slash-none path h) refl

pub last_segment-segment : (segment behind : List ℕ)
    → last_segment (segment ++ (47 ∷ behind)) ≡ last_segment behind
last_segment-segment segment behind =
    let up = up_to_last_slash behind in
    rw (up_to_last_slash-segment segment behind, length-append segment (47 ∷ up))
    (drop-append-add segment (47 ∷ behind) (suc (length up)))

-- a path is what stands up to its last slash, and its last segment, which has no slash
path-parts : (path : List ℕ) → up_to_last_slash path ++ reverse (before_first is_slash (reverse path)) ≡ path
path-parts path =
    let front = before_first is_slash (reverse path) in
    sym (reverse-append front (from_first is_slash (reverse path)))
    ∙ ap (λ (zs : List ℕ). reverse (front ++ zs)) (from_first-drop is_slash (reverse path))
    ∙ ap reverse (take-append-drop _ (reverse path)) ∙ reverse-reverse path

last_segment-is : (path : List ℕ) → last_segment path ≡ reverse (before_first is_slash (reverse path))
last_segment-is path =
    let up = up_to_last_slash path in
    ap (drop (length up)) (sym (path-parts path))
    ∙ drop-append_seam up (reverse (before_first is_slash (reverse path)))

pub up_to_last_slash-append-last_segment : (path : List ℕ) → up_to_last_slash path ++ last_segment path ≡ path
up_to_last_slash-append-last_segment path =
    ap (λ (zs : List ℕ). up_to_last_slash path ++ zs) (last_segment-is path) ∙ path-parts path

pub list_any-last_segment : (path : List ℕ) → list_any is_slash (last_segment path) ≡ false
list_any-last_segment path =
    ap (list_any is_slash) (last_segment-is path)
    ∙ list_any-reverse is_slash (before_first is_slash (reverse path))
    ∙ list_any-before_first is_slash (reverse path)

-- the last segment goes with the slash before it, and else all
pub without_last_segment-at : (front back : List ℕ) → list_any is_slash back ≡ false
    → without_last_segment (front ++ (47 ∷ back)) ≡ front
without_last_segment-at front back h =
    ap (λ (zs : List ℕ). reverse (after_first is_slash zs)) (reverse-around front 47 back)
    ∙ ap reverse
    (after_first-at is_slash (reverse back) 47 (reverse front) (list_any-reverse is_slash back ∙ h) refl)
    ∙ reverse-reverse front

pub without_last_segment-none : (path : List ℕ) → list_any is_slash path ≡ false
    → without_last_segment path ≡ []
without_last_segment-none path h =
    ap reverse (after_first-none is_slash (reverse path) (list_any-reverse is_slash path ∙ h))

-- none passes in what stands behind a place, where none does by index
list_any-drop : (p : ℕ → Bool) (xs : List ℕ) (i : ℕ)
    → ((k : ℕ) → i ≤ k → k < length xs → p (get_or xs k 0) ≡ false) → list_any p (drop i xs) ≡ false
list_any-drop p xs i fails =
    list_any_none p (drop i xs) (All-from_get_or (λ x. p x ≡ false) (drop i xs) 0
    (λ k inside. subst (λ x. p x ≡ false) (sym (get_or-drop i xs k 0))
    (fails (i + k) (omega arith) (omega (arith, length-drop i xs)))))

-- the place of the last slash is the length of what is left without the last segment
pub take-last_slash : (path : List ℕ) (i : ℕ) → i < length path → get_or path i 0 ≡ 47
    → ((k : ℕ) → i + 1 ≤ k → k < length path → get_or path k 0 ≢ 47) → take i path ≡ without_last_segment path
take-last_slash path i inside here after =
    let back =
    list_any-drop is_slash path (i + 1)
    (λ k past within. ne_eqb (get_or path k 0) 47 (after k past within)) in
    let split = drop_more path i 0 inside ∙ ap (λ b. b ∷ drop (i + 1) path) here in
    let whole = sym (take-append-drop i path) ∙ ap (λ (l : List ℕ). take i path ++ l) split in
    sym (ap without_last_segment whole ∙ without_last_segment-at (take i path) (drop (i + 1) path) back)

pub take-no_slash : (path : List ℕ) → ((k : ℕ) → k < length path → get_or path k 0 ≢ 47)
    → take 0 path ≡ without_last_segment path
take-no_slash path none =
    sym (without_last_segment-none path
    (list_any-drop is_slash path 0 (λ k past within. ne_eqb (get_or path k 0) 47 (none k within))))
