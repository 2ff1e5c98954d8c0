-- What holds of all that a shape refers to holds of each part of it.
use Rattle.std.specs.Prelude.{◌≡◌, ℕ, ◌<◌, List, ◌++◌, All, flat_map, get_or, length, map}
use Rattle.std.proofs.Common.{sym, ◌∙◌, ap}
use Rattle.std.proofs.lemmas.List.Elements.{All-get_or, All-same, Contains-append_left}
use Rattle.std.proofs.lemmas.List.Elements.{Contains-append_right}
use Rattle.std.proofs.lemmas.List.Folds.{flat_map-map}
use Rattle.shx_term.specs.declared.term.Term.{Term}
use Rattle.shx_term.proofs.MemberLemmas.{All_of_each, All_part, each_of_All}
use Rattle.shape_decl.specs.declared.declaration.ListValue.{ListValue}
use Rattle.shape_decl.specs.Declarations.{Declaration, ListReading, told_list, values_under}
use Rattle.shape_decl.specs.Shapes.{members_or_none}
use Rattle.shape_decl.specs.Tables.{shape_list_predicates, shape_predicates}
use Rattle.shape_refs.specs.References.{members_under, named_by, references_of, siblings_of}

module _ (P : ℕ → Type 0) where
  All_front : (xs ys : List ℕ) → All P (xs ++ ys) → All P xs
  All_front xs ys all =
      All_of_each P xs (λ x c. each_of_All P (xs ++ ys) all x (Contains-append_left xs ys x c))

  All_behind : (xs ys : List ℕ) → All P (xs ++ ys) → All P ys
  All_behind xs ys all =
      All_of_each P ys (λ y c. each_of_All P (xs ++ ys) all y (Contains-append_right xs ys y c))

  -- ---- of a declaration

  module _ (d : Declaration) where
    -- the values of the first of the parameters that expect a shape, and so on
    pub All_values : All P (named_by d) → (i : ℕ) → i < length shape_predicates
        → All P (values_under d (get_or shape_predicates i 0))
    All_values all i inside =
        All_part P (values_under d) shape_predicates i 0 inside
        (All_front (flat_map (values_under d) shape_predicates)
        (flat_map (members_under d) shape_list_predicates) all)

    -- the same of those that expect lists of shapes
    pub All_members : All P (named_by d) → (i : ℕ) → i < length shape_list_predicates
        → All P (members_under d (get_or shape_list_predicates i 0))
    All_members all i inside =
        All_part P (members_under d) shape_list_predicates i 0 inside
        (All_behind (flat_map (values_under d) shape_predicates)
        (flat_map (members_under d) shape_list_predicates) all)

    module _ (terms : List Term) (ds : List Declaration) where
      pub All_named : All P (references_of terms ds d) → All P (named_by d)
      All_named = All_front (named_by d) (siblings_of terms ds d)

      pub All_siblings : All P (references_of terms ds d) → All P (siblings_of terms ds d)
      All_siblings = All_behind (named_by d) (siblings_of terms ds d)

  -- ---- of what a loop goes over

  pub All_value : (values read : List ℕ) → read ≡ values → All P values → (i : ℕ) → i < length read
      → P (get_or read i 0)
  All_value values read same all i inside =
      All-get_or P read i 0 inside (All-same P read values same all)

  pub All_in_list : (lists : List ListValue) (found : List ListReading) → map told_list lists ≡ found
      → All P (flat_map (λ list. members_or_none list.members) found) → (i : ℕ) (list : ListValue)
      → i < length lists → list ≡ get_or lists i list → All P (members_or_none (told_list list).members)
  All_in_list lists found same all i list inside here =
      let in_list = λ (list : ListReading). members_or_none list.members in
      let told = λ (list : ListValue). members_or_none (told_list list).members in
      let parts = sym (flat_map-map in_list told_list lists) ∙ ap (flat_map in_list) same in
      let all_told = All-same P (flat_map told lists) (flat_map in_list found) parts all in
      All-same P (told list) (told (get_or lists i list)) (ap told here)
      (All_part P told lists i list inside all_told)
