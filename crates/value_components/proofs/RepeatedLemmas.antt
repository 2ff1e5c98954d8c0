-- The tags that are noted again are those that stand twice or more, each once.
use Rattle.std.specs.Prelude.{◌≡◌, ℕ, suc, ◌+◌, nat_eq, nat_le, Bool, true, false, ◌||◌, ◌&&◌, List, [], ◌∷◌}
use Rattle.std.specs.Prelude.{◌++◌}
use Rattle.std.specs.Prelude.{Option, Some, None, length, filter, fold, if◌then◌else◌}
use Rattle.std.specs.Cmp.Lexicographic.{pointwise, nat_list_eq_equiv}
use Rattle.std.specs.List.{IsDistinct}
use Rattle.std.proofs.Common.{refl, sym, ap, ◌∙◌, arith}
use Rattle.std.proofs.lemmas.Bool.Decides.{nat_tests}
use Rattle.std.proofs.lemmas.List.Folds.{list_any-append}
use Rattle.std.proofs.lemmas.Map.Keys.{IsDistinct-push}
use Rattle.std.proofs.lemmas.Map.Steps.{list_any_congr}
use Rattle.std.proofs.lemmas.Slice.Eq.{bytes_eq-Decides}
use Rattle.std.proofs.lemmas.Map.Made.{is_member-filter, length-from_same_keys}
use Rattle.graph_view.proofs.SameGraphLemmas.{IsDistinct-filter}
use Rattle.value_components.specs.UniqueLang.{each_once, has_tag, is_tag_among, repeated_tags, tag_count}
use Rattle.value_components.specs.UniqueLang.{with_tag}
use Rattle.value_components.specs.inner.Noted.{Noted, note_tag, nothing_noted, tags_noted}

or_true : (b : Bool) → (b || true) ≡ true
or_true true = refl
or_true false = refl

or_false : (b : Bool) → (b || false) ≡ b
or_false true = refl
or_false false = refl

abbrev count_of : Bool → ℕ
count_of true = 1
count_of false = 0

module _ (t u : List ℕ) where
  pushed : (us : List (List ℕ))
      → is_tag_among t (us ++ u ∷ []) ≡ (is_tag_among t us || (pointwise nat_eq t u || false))
  pushed us = list_any-append (pointwise nat_eq t) us (u ∷ [])

  -- the tag is among these and one more
  with_among : (us : List (List ℕ)) (same : Bool) → pointwise nat_eq t u ≡ same
      → is_tag_among t (with_tag u us) ≡ (same || is_tag_among t us)
  with_among us same e = by_held same e (is_tag_among u us) refl
    where
      by_held : (same : Bool) → pointwise nat_eq t u ≡ same → (held : Bool) → is_tag_among u us ≡ held
          → is_tag_among t (if held then us else us ++ u ∷ []) ≡ (same || is_tag_among t us)
      by_held true e true h = list_any_congr nat_list_eq_equiv t u us e ∙ h
      by_held true e false h =
          pushed us ∙ ap (λ b. is_tag_among t us || (b || false)) e ∙ or_true (is_tag_among t us)
      by_held false e true h = refl
      by_held false e false h =
          pushed us ∙ ap (λ b. is_tag_among t us || (b || false)) e ∙ or_false (is_tag_among t us)

  module _ (n : Noted) (count : ℕ) where
    -- noting the tag itself, which was seen or not
    noted_same : pointwise nat_eq t u ≡ true → (seen : Bool) → is_tag_among t n.seen ≡ seen
        → (is_tag_among t (if seen then with_tag u n.again else n.again) || nat_le 2 (1 + count))
        ≡ (is_tag_among t n.again || nat_le 2 (count_of seen + suc count))
    noted_same e true h =
        let enough : nat_le 2 (1 + suc count) ≡ true = grind (arith, nat_tests) in
        ap (λ b. b || nat_le 2 (1 + count)) (with_among n.again true e)
        ∙ sym (ap (λ b. is_tag_among t n.again || b) enough ∙ or_true (is_tag_among t n.again))
    noted_same e false h =
        let one : 1 + count ≡ 0 + suc count = omega arith in
        ap (λ k. is_tag_among t n.again || nat_le 2 k) one

    -- noting another
    noted_other : pointwise nat_eq t u ≡ false → (seen : Bool)
        → is_tag_among t (if seen then with_tag u n.again else n.again) ≡ is_tag_among t n.again
    noted_other e true = with_among n.again false e
    noted_other e false = refl

    noted_one : (same : Bool) → pointwise nat_eq t u ≡ same
        → (is_tag_among t (note_tag n (Some u)).again
        || nat_le 2 (count_of (is_tag_among t (with_tag u n.seen)) + count))
        ≡ (is_tag_among t n.again
        || nat_le 2 (count_of (is_tag_among t n.seen) + (if same then suc count else count)))
    noted_one true e =
        rw (with_among n.seen true e, sym (list_any_congr nat_list_eq_equiv t u n.seen e))
        (noted_same e (is_tag_among t n.seen) refl)
    noted_one false e = rw (with_among n.seen false e, noted_other e (is_tag_among u n.seen)) refl

length_if : {X : Type 0} (b : Bool) (x : X) (xs : List X)
    → length (if b then x ∷ xs else xs) ≡ (if b then suc (length xs) else length xs)
length_if true x xs = refl
length_if false x xs = refl

noted_later : (t : List ℕ) (tags : List (Option (List ℕ))) (n : Noted)
    → is_tag_among t (fold note_tag n tags).again
    ≡ (is_tag_among t n.again || nat_le 2 (count_of (is_tag_among t n.seen) + tag_count t tags))
noted_later t [] n = at_end (is_tag_among t n.seen)
  where
    at_end : (seen : Bool) → is_tag_among t n.again ≡ (is_tag_among t n.again || nat_le 2 (count_of seen + 0))
    at_end true = sym (or_false (is_tag_among t n.again))
    at_end false = sym (or_false (is_tag_among t n.again))
noted_later t (None ∷ tags) n = noted_later t tags n
noted_later t (Some u ∷ tags) n =
    noted_later t tags (note_tag n (Some u))
    ∙ noted_one t u n (tag_count t tags) (pointwise nat_eq t u) refl
    ∙ ap (λ k. is_tag_among t n.again || nat_le 2 (count_of (is_tag_among t n.seen) + k))
    (sym (length_if (pointwise nat_eq t u) (Some u) (filter (has_tag t) tags)))

-- each once
distinct_with : (us : List (List ℕ)) (u : List ℕ) → IsDistinct (pointwise nat_eq) us
    → IsDistinct (pointwise nat_eq) (with_tag u us)
distinct_with us u d = by_held (is_tag_among u us) refl
  where
    by_held : (held : Bool) → is_tag_among u us ≡ held
        → IsDistinct (pointwise nat_eq) (if held then us else us ++ u ∷ [])
    by_held true h = d
    by_held false h = IsDistinct-push nat_list_eq_equiv us u d h

distinct_later : (tags : List (Option (List ℕ))) (n : Noted) → IsDistinct (pointwise nat_eq) n.again
    → IsDistinct (pointwise nat_eq) (fold note_tag n tags).again
distinct_later [] n d = d
distinct_later (None ∷ tags) n d = distinct_later tags n d
distinct_later (Some u ∷ tags) n d =
    distinct_later tags (note_tag n (Some u)) (by_seen (is_tag_among u n.seen))
  where
    by_seen : (seen : Bool) → IsDistinct (pointwise nat_eq) (if seen then with_tag u n.again else n.again)
    by_seen true = distinct_with n.again u d
    by_seen false = d

again_is_twice : (tags : List (Option (List ℕ))) (t : List ℕ)
    → is_tag_among t (tags_noted tags).again ≡ nat_le 2 (tag_count t tags)
again_is_twice tags t =
    let count = tag_count t tags in
    let none : 0 + count ≡ count = omega arith in
    noted_later t tags nothing_noted ∙ ap (nat_le 2) none

again_is_distinct : (tags : List (Option (List ℕ)))
    → IsDistinct (pointwise nat_eq) (tags_noted tags).again
unfolding IsDistinct
again_is_distinct tags = distinct_later tags nothing_noted tt

-- the same of the tags that the definition filters
once_among : (t : List ℕ) (tags : List (Option (List ℕ)))
    → is_tag_among t (each_once tags) ≡ nat_le 1 (tag_count t tags)
once_among t [] = refl
once_among t (None ∷ tags) = once_among t tags
once_among t (Some u ∷ tags) =
    with_among t u (each_once tags) (pointwise nat_eq t u) refl
    ∙ ap (λ b. pointwise nat_eq t u || b) (once_among t tags)
    ∙ one_more (pointwise nat_eq t u) (tag_count t tags)
    ∙ ap (nat_le 1) (sym (length_if (pointwise nat_eq t u) (Some u) (filter (has_tag t) tags)))
  where
    one_more : (same : Bool) (count : ℕ)
        → (same || nat_le 1 count) ≡ nat_le 1 (if same then suc count else count)
    one_more true count = grind (arith, nat_tests)
    one_more false count = refl

once_distinct : (tags : List (Option (List ℕ))) → IsDistinct (pointwise nat_eq) (each_once tags)
unfolding IsDistinct
once_distinct [] = tt
once_distinct (None ∷ tags) = once_distinct tags
once_distinct (Some u ∷ tags) = distinct_with (each_once tags) u (once_distinct tags)

module _ (tags : List (Option (List ℕ))) where
  abbrev is_repeated : List ℕ → Bool
  is_repeated t = nat_le 2 (tag_count t tags)

  repeated_among : (t : List ℕ) → is_tag_among t (repeated_tags tags) ≡ nat_le 2 (tag_count t tags)
  repeated_among t =
      is_member-filter nat_list_eq_equiv is_repeated t
      (λ u same. ap is_repeated ((bytes_eq-Decides t u).0 same)) (each_once tags)
      ∙ ap (λ b. b && is_repeated t) (once_among t tags)
      ∙ twice_is_once (tag_count t tags)
    where
      twice_is_once : (count : ℕ) → (nat_le 1 count && nat_le 2 count) ≡ nat_le 2 count
      twice_is_once count = grind (arith, nat_tests)

  -- as many tags are noted again as are repeated
  pub again_count : length (tags_noted tags).again ≡ length (repeated_tags tags)
  again_count =
      length-from_same_keys nat_list_eq_equiv (tags_noted tags).again (repeated_tags tags)
      (again_is_distinct tags)
      (IsDistinct-filter is_repeated (pointwise nat_eq) (each_once tags) (once_distinct tags))
      (λ t. again_is_twice tags t ∙ sym (repeated_among t))
