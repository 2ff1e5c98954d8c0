-- Lists in code and as they are told.
use Rattle.std.specs.Prelude.{◌≡◌, ℕ, ◌+◌, ◌<◌, Bool, List, [], ◌∷◌, ◌++◌, Some, None, drop, filter, find}
use Rattle.std.specs.Prelude.{flat_map, get_or, length, map, take}
use Rattle.std.specs.Option.{is_none, option_map, option_or}
use Rattle.std.proofs.Common.{refl, sym, ap, ◌∙◌, arith}
use Rattle.std.proofs.lemmas.List.{append-nil, take-append-drop, take_more}
use Rattle.std.proofs.lemmas.List.Concat.{flat_map-append}
use Rattle.std.proofs.lemmas.List.Folds.{find-append, flat_map-map}
use Rattle.shape_decl.specs.declared.declaration.ListValue.{ListValue}
use Rattle.shape_decl.specs.Declarations.{ListReading, told_list}
use Rattle.shape_decl.specs.Shapes.{members_or_none}
use Rattle.shape_check.specs.Faults.{first}
use Rattle.shape_check.proofs.FirstLemmas.{first-filter}

pub first_broken-told : (lists : List ListValue) (found : List ListReading) → map told_list lists ≡ found
    → option_map (λ list. list.head) (find (λ list. is_none list.members) lists)
    ≡ first (map (λ list. list.head) (filter (λ list. is_none list.members) found))
first_broken-told lists found e =
    told lists
    ∙ ap (λ ls. first (map (λ (list : ListReading). list.head) (filter (λ list. is_none list.members) ls))) e
  where
    told : (lists : List ListValue)
        → option_map (λ list. list.head) (find (λ list. is_none list.members) lists)
        ≡ first (map (λ list. list.head) (filter (λ list. is_none list.members) (map told_list lists)))
    told [] = refl
    told (list ∷ lists) = grind (arith, told lists)

pub first_member-told : (test : ℕ → Bool) (lists : List ListValue) (found : List ListReading)
    → map told_list lists ≡ found
    → find test (flat_map (λ list. members_or_none (told_list list).members) lists)
    ≡ first (filter test (flat_map (λ list. members_or_none list.members) found))
first_member-told test lists found e =
    ap (find test) (sym (flat_map-map (λ (l : ListReading). members_or_none l.members) told_list lists)
    ∙ ap (flat_map (λ (l : ListReading). members_or_none l.members)) e)
    ∙ sym (first-filter test _)

-- the first number that passes a test, in a walk over lists of which those before this one have none
module _ (test : ℕ → Bool) (members : ListValue → List ℕ) (lists : List ListValue) (i : ℕ) (list : ListValue)
    (inside : i < length lists) (is : list ≡ get_or lists i list)
    (none : find test (flat_map members (take i lists)) ≡ None) where
  pub found_here : find test (flat_map members (take (i + 1) lists)) ≡ find test (members list)
  found_here =
      let here = get_or lists i list in
      ap (λ ls. find test (flat_map members ls)) (take_more lists i list inside)
      ∙ ap (find test) (flat_map-append members (take i lists) (here ∷ []))
      ∙ find-append test (flat_map members (take i lists)) (members here ++ [])
      ∙ ap (λ before. option_or before (find test (members here ++ []))) none
      ∙ ap (find test) (append-nil (members here)) ∙ ap (λ l. find test (members l)) (sym is)

  pub found_first : (id : ℕ) → find test (members list) ≡ Some id
      → find test (flat_map members lists) ≡ Some id
  found_first id e =
      let behind = flat_map members (drop (i + 1) lists) in
      ap (λ ls. find test (flat_map members ls)) (sym (take-append-drop (i + 1) lists))
      ∙ ap (find test) (flat_map-append members (take (i + 1) lists) (drop (i + 1) lists))
      ∙ find-append test (flat_map members (take (i + 1) lists)) behind
      ∙ ap (λ before. option_or before (find test behind)) (found_here ∙ e)
