-- Loops over what is left of a list.
use Rattle.std.specs.Prelude.{◌≡◌, ℕ, ◌==◌, ◌<◌, ◌+◌, Bool, true, false, List, ◌∷◌, drop, length, map, take}
use Rattle.std.specs.Prelude.{if◌then◌else◌}
use Rattle.std.proofs.Common.{sym, ap, ◌∙◌, get_or}
use Rattle.std.proofs.lemmas.List.{drop-map, drop_more, take-map}
use Rattle.shape_decl.specs.declared.declaration.Declared.{Declared}
use Rattle.shape_decl.specs.declared.declaration.ListValue.{ListValue}
use Rattle.shape_decl.specs.Declarations.{ListReading, lists_among, lists_in, takes_lists, told_list}
use Rattle.shape_decl.specs.Declarations.{told_values}

-- what f says of the list it says of the part from i on
pub record IsLeft {X Y : Type 0} (f : List X → Y) (xs : List X) (i : ℕ) : Type 0 where
  pub same : f xs ≡ f (drop i xs)

-- the lists under a predicate, of the rows and lists that are left
abbrev pub lists_left : ℕ → List Declared → List ListValue → List ListReading
lists_left p rows lists = lists_among (map told_values rows) (map told_list lists) p

module _ (p : ℕ) (rows : List Declared) (i : ℕ) (row : Declared) (lists : List ListValue)
    (inside : i < length rows) (is : row ≡ get_or rows i row) where
  abbrev more : List Declared
  more = drop (i + 1) rows

  at_row : lists_left p (drop i rows) lists ≡ lists_left p (row ∷ more) lists
  at_row =
      ap (λ rs. lists_left p rs lists) (drop_more rows i row inside)
      ∙ ap (λ r. lists_left p (r ∷ more) lists) (sym is)

  -- at a row of the predicate or of another
  by_row : (b : Bool) → (row.predicate == p) ≡ b
      → lists_left p (drop i rows) lists
      ≡ (if b then take (length row.values.items) (map told_list lists)
      else lists_among (map told_values more) (drop (lists_in (told_values row)) (map told_list lists)) p)
  by_row b e =
      at_row
      ∙ ap (λ b. if b then take (length row.values.items) (map told_list lists)
      else lists_among (map told_values more) (drop (lists_in (told_values row)) (map told_list lists)) p) e

  pub lists_here : (row.predicate == p) ≡ true
      → lists_left p (drop i rows) lists ≡ map told_list (take (length row.values.items) lists)
  lists_here e = by_row true e ∙ take-map told_list (length row.values.items) lists

  pub lists_behind : (row.predicate == p) ≡ false → takes_lists row.predicate ≡ true
      → lists_left p (drop i rows) lists ≡ lists_left p more (drop (length row.values.items) lists)
  lists_behind e takes =
      by_row false e
      ∙ ap (λ (b : Bool). lists_among (map told_values more)
      (drop (if b then length row.values.items else 0) (map told_list lists)) p) takes
      ∙ ap (λ ls. lists_among (map told_values more) ls p)
      (drop-map told_list (length row.values.items) lists)

  pub lists_stay : (row.predicate == p) ≡ false → takes_lists row.predicate ≡ false
      → lists_left p (drop i rows) lists ≡ lists_left p more lists
  lists_stay e takes =
      by_row false e
      ∙ ap (λ (b : Bool). lists_among (map told_values more)
      (drop (if b then length row.values.items else 0) (map told_list lists)) p) takes
