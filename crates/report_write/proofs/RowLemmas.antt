-- The items that an iterator gives, and their texts.
use Rattle.std.proofs.Common.{◌≡◌, ℕ, ◌+◌, ◌<◌, List, [], ◌∷◌, ◌++◌, flat_map, map, length, take, get_or}
use Rattle.std.proofs.Common.{Bor, sym, ap, ◌∙◌, append_assoc}
use Rattle.std.specs.declared.slice.Iter.{Iter}
use Rattle.std.specs.Iterator.{Drains}
use Rattle.std.specs.Slice.Iter.{iter_rest, iter_steps}
use Rattle.std.proofs.iter.Yields.{gives_Drains, slice_gives}
use Rattle.std.proofs.lemmas.List.{flat_map_more, length-map, map_push, take_more}

-- one item more, of an iterator and of a list
pub rows_more : {A B : Type 0} (text : B → List ℕ) (view : A → B) (items : List A) (next : A)
    → flat_map text (map view (items ++ next ∷ [])) ≡ flat_map text (map view items) ++ text (view next)
rows_more text view items next =
    ap (flat_map text) (map_push view items next)
    ∙ sym (flat_map_more text [] (map view items) (view next))

pub texts_more : {A : Type 0} (text : A → List ℕ) (items : List A) (i : ℕ) (next : A) → i < length items
    → flat_map text (take (i + 1) items) ≡ flat_map text (take i items) ++ text (get_or items i next)
texts_more text items i next inside =
    ap (flat_map text) (take_more items i next inside)
    ∙ sym (flat_map_more text [] (take i items) (get_or items i next))

-- an iterator over a slice gives what stands in it
pub items_of_slice : {A : Type 0} (s : Iter A) (xs : List A) (items : List (Bor A)) → iter_rest s ≡ xs
    → Drains iter_steps s items → map (λ item. item.now) items ≡ xs
items_of_slice s xs items is drained =
    gives_Drains iter_steps (λ item. item.now) items (iter_rest s) s (slice_gives s) drained ∙ is

pub count_of_slice : {A : Type 0} (s : Iter A) (xs : List A) (items : List (Bor A)) → iter_rest s ≡ xs
    → Drains iter_steps s items → length items ≡ length xs
count_of_slice s xs items is drained =
    sym (length-map items (λ item. item.now)) ∙ ap length (items_of_slice s xs items is drained)

-- a first text, and behind it one item more of a list
pub headed_more : {A B : Type 0} (text : B → List ℕ) (view : A → B) (first : B) (items : List A) (i : ℕ)
    (next : A) → i < length items
    → flat_map text (first ∷ map view (take (i + 1) items))
    ≡ flat_map text (first ∷ map view (take i items)) ++ text (view (get_or items i next))
headed_more text view first items i next inside =
    ap (λ some. text first ++ flat_map text (map view some)) (take_more items i next inside)
    ∙ ap (λ behind. text first ++ behind) (rows_more text view (take i items) (get_or items i next))
    ∙ sym (append_assoc (text first) (flat_map text (map view (take i items)))
    (text (view (get_or items i next))))
