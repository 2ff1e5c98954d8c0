-- Texts that are made piece by piece.
use Rattle.std.proofs.Common.{◌≡◌, ℕ, ◌+◌, zero, suc, List, [], ◌∷◌, ◌++◌, flat_map, sym, ap, ◌∙◌}
use Rattle.std.proofs.Common.{append-nil, append_assoc, arith}
use Rattle.std.specs.Prelude.{Result, Ok, Err, is_ok, OnOk, if◌then◌else◌}
use Rattle.std.specs.List.{range_with_len}
use Rattle.std.proofs.lemmas.Grind.{flat_map-append}
use Rattle.shacl_drill.specs.Texts.{nodes}

range-more : (a n : ℕ) → range_with_len a (n + 1) ≡ range_with_len a n ++ (a + n) ∷ []
range-more a zero = ap (λ last. last ∷ []) (omega arith)
range-more a (suc n) =
    let e : suc n + 1 ≡ suc (n + 1) = omega arith in
    rw e (ap (λ rest. a ∷ rest) (range-more (a + 1) n
    ∙ ap (λ last. range_with_len (a + 1) n ++ last ∷ []) (omega arith)))

-- the lines of one node more
pub lines-more : (line : ℕ → List ℕ) (i : ℕ)
    → flat_map line (nodes (i + 1)) ≡ flat_map line (nodes i) ++ line i
lines-more line i =
    ap (flat_map line) (range-more 0 i ∙ ap (λ last. nodes i ++ last ∷ []) (omega arith))
    ∙ flat_map-append line (nodes i) (i ∷ [])
    ∙ ap (λ last. flat_map line (nodes i) ++ last) (append-nil (line i))

-- the same behind a front
pub lines-pushed : (front now next : List ℕ) (line : ℕ → List ℕ) (i : ℕ)
    → now ≡ front ++ flat_map line (nodes i) → next ≡ now ++ line i
    → next ≡ front ++ flat_map line (nodes (i + 1))
lines-pushed front now next line i is pushed =
    pushed ∙ ap (λ text. text ++ line i) is ∙ append_assoc front (flat_map line (nodes i)) (line i)
    ∙ ap (λ lines. front ++ lines) (sym (lines-more line i))

-- three texts that are pushed, the last of which may fail
pub three_pushed : {T E : Type 0} (result : Result T E) (t0 t1 t2 t3 x y z : List ℕ) → t1 ≡ t0 ++ x
    → t2 ≡ t1 ++ y → t3 ≡ (if is_ok result then t2 ++ z else t2) → OnOk result (t3 ≡ t0 ++ (x ++ y ++ z))
three_pushed (Ok done) t0 t1 t2 t3 x y z first second third =
    third ∙ ap (λ text. text ++ z) (second ∙ ap (λ text. text ++ y) first) ∙ simp append_assoc
three_pushed (Err e) t0 t1 t2 t3 x y z first second third = tt
