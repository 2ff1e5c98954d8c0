-- Language tags: those that are noted by reference, and the laws of components that look at them.
use Rattle.std.specs.Prelude.{◌≡◌, ℕ, nat_eq, Bool, true, false, not, ◌||◌, List, [], ◌∷◌, ◌++◌, Option}
use Rattle.std.specs.Prelude.{Some, None, map, length, replicate, if◌then◌else◌, Contains}
use Rattle.std.specs.List.{list_any}
use Rattle.std.specs.Cmp.Lexicographic.{pointwise}
use Rattle.std.proofs.Common.{refl, sym, ap, ◌∙◌, Bor}
use Rattle.std.proofs.lemmas.List.{map-append}
use Rattle.shx_term.specs.declared.term.Term.{Term}
use Rattle.shx_term.proofs.MemberLemmas.{map_agree}
use Rattle.shx_term.proofs.SetLemmas.{SameMembers-itself}
use Rattle.graph_view.specs.Graph.{Graph}
use Rattle.comp_core.specs.declared.kinds.TheConstants.{LANGUAGE_IN, UNIQUE_LANG}
use Rattle.comp_core.specs.Laws.{Agreement}
use Rattle.comp_core.specs.Rows.{plain_row}
use Rattle.comp_core.proofs.LawLemmas.{number_kept, value_kept}
use Rattle.value_components.specs.declared.language_in.LanguageIn.{LanguageIn}
use Rattle.value_components.specs.declared.unique_lang.UniqueLang.{UniqueLang}
use Rattle.value_components.specs.LanguageIn.{is_range_of, is_matched, is_spoken, language_in_hits}
use Rattle.value_components.specs.Tags.{tag_in, tag_at}
use Rattle.comp_core.specs.TermTests.{is_so, is_so_at}
use Rattle.value_components.specs.UniqueLang.{is_tag_among, repeated_tags, with_tag, unique_lang_hits}
use Rattle.value_components.specs.inner.Noted.{note_tag}
use Rattle.value_components.specs.inner.Told.{kept}
use Rattle.comp_core.proofs.ResultLemmas.{each_unless-agree, list_any-agree}

abbrev pub same_now : Bor (List ℕ) → Bor (List ℕ) → Bool
same_now a b = pointwise nat_eq a.now b.now

module _ (t : Bor (List ℕ)) where
  now_among : (ts : List (Bor (List ℕ))) → list_any (same_now t) ts ≡ is_tag_among t.now (map (λ u. u.now) ts)
  now_among [] = refl
  now_among (u ∷ us) = ap (λ b. pointwise nat_eq t.now u.now || b) (now_among us)

  with_now : (ts : List (Bor (List ℕ)))
      → map (λ u. u.now) (if list_any (same_now t) ts then ts else ts ++ t ∷ [])
      ≡ with_tag t.now (map (λ u. u.now) ts)
  with_now ts = rw (← now_among ts) (by_test (list_any (same_now t) ts))
    where
      by_test : (b : Bool) → map (λ u. u.now) (if b then ts else ts ++ t ∷ [])
          ≡ (if b then map (λ u. u.now) ts else map (λ u. u.now) ts ++ t.now ∷ [])
      by_test true = refl
      by_test false = map-append (λ u. u.now) ts (t ∷ [])

  module _ (seen again seen' : List (Bor (List ℕ))) (new : Bool)
      (added : new ≡ not (list_any (same_now t) seen))
      (a : seen' ≡ (if list_any (same_now t) seen then seen else seen ++ t ∷ [])) where
    pub noted_again : (again' : List (Bor (List ℕ))) → new ≡ false
        → again' ≡ (if list_any (same_now t) again then again else again ++ t ∷ [])
        → kept seen' again' ≡ note_tag (kept seen again) (Some t.now)
    noted_again again' old b =
        rw (
          a,
          b,
          with_now seen,
          with_now again,
          ← now_among seen,
          is_among (list_any (same_now t) seen) (sym added ∙ old),
        ) refl
      where
        is_among : (b : Bool) → not b ≡ false → b ≡ true
        is_among true h = refl
        is_among false h = absurd (cc)

    pub noted_first : new ≡ true → kept seen' again ≡ note_tag (kept seen again) (Some t.now)
    noted_first old =
        rw (a, with_now seen, ← now_among seen, is_new (list_any (same_now t) seen) (sym added ∙ old)) refl
      where
        is_new : (b : Bool) → not b ≡ true → b ≡ false
        is_new true h = absurd (cc)
        is_new false h = refl

pub unique_lang_agrees : Agreement {C = UniqueLang} (λ c. []) (λ c vs. [])
    (λ c g m at vs. unique_lang_hits g at vs) (λ c g r at vs. [])
unique_lang_agrees c g h m n r q at vs alike same = record {
  rows = ap (λ tags. replicate (length (repeated_tags tags))
      (plain_row at.focus None None at.shape UNIQUE_LANG))
      (map_agree (tag_at g) (tag_at h) vs (λ v i. ap tag_in (value_kept g h [] vs [] alike v i)));
  reads = SameMembers-itself [];
}

is_matched-agree : (g h : Graph) (ranges : List ℕ)
    → ((id : ℕ) → Contains ranges id → (test : Term → Bool) → is_so_at test g id ≡ is_so_at test h id)
    → (tag : Option (List ℕ)) → is_matched g ranges tag ≡ is_matched h ranges tag
is_matched-agree g h ranges same None = refl
is_matched-agree g h ranges same (Some tag) =
    list_any-agree (is_so_at (is_range_of tag) g) (is_so_at (is_range_of tag) h) ranges
    (λ id i. same id i (is_range_of tag))

pub language_in_agrees : Agreement {C = LanguageIn} (λ c. c.members) (λ c vs. [])
    (λ c g m at vs. language_in_hits c g at vs) (λ c g r at vs. [])
language_in_agrees c g h m n r q at vs alike same =
    let ids = c.members in
    let kept_at = λ (id : ℕ) (i : Contains ids id) (test : Term → Bool).
    ap (is_so test) (number_kept g h ids vs [] alike id i) in
    record {
      rows = each_unless-agree (is_spoken g ids) (is_spoken h ids) LANGUAGE_IN at vs
          (λ v i. is_matched-agree g h ids kept_at (tag_at g v)
          ∙ ap (λ t. is_matched h ids (tag_in t)) (value_kept g h ids vs [] alike v i));
      reads = SameMembers-itself [];
    }
