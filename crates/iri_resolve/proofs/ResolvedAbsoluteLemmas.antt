-- What is resolved over an absolute base is absolute: its characters are allowed, and it begins with the
-- base's scheme.
use Rattle.std.proofs.Common.{◌≡◌, ℕ, ◌+◌, zero, suc, Bool, true, false, cond, List, [], ◌∷◌, ◌++◌, length}
use Rattle.std.proofs.Common.{take, drop, reverse, Option, Some, None, refl, sym, ap, subst, ◌∙◌}
use Rattle.std.specs.Prelude.{is_some, codes, IfSome, ◌==◌}
use Rattle.std.specs.List.{list_any, list_all, before_first, after_first, position_or_len}
use Rattle.std.proofs.lemmas.Bool.{and_parts, and_from, or_left, or_right, or_parts, or_from, eqb-true}
use Rattle.std.proofs.lemmas.Bool.{false≢true, false_from_ne_true}
use Rattle.std.proofs.lemmas.List.{append_assoc, take-append-drop, reverse-append}
use Rattle.std.proofs.lemmas.List.Folds.{list_all-append, list_any-append}
use Rattle.shx_term.specs.Characters.{is_colon, is_letter, is_scheme, is_scheme_byte}
use Rattle.iri_resolve.specs.Characters.{is_allowed, is_slash, is_question_mark, is_hash}
use Rattle.iri_resolve.specs.Parts.{Parts, parts_of, written, with_front, with_back, has_scheme}
use Rattle.iri_resolve.specs.Parts.{scheme_of, without_scheme, from_first, has_authority}
use Rattle.iri_resolve.specs.DotSegments.{Dots, dot_step, dot_steps, first_segment, without_last_segment}
use Rattle.iri_resolve.specs.DotSegments.{without_dot_segments}
use Rattle.iri_resolve.specs.Resolution.{IsAbsolute, resolved, resolved_with, target_of, target_with}
use Rattle.iri_resolve.specs.Resolution.{target_path, target_query, merged_path, merged_with}
use Rattle.iri_resolve.specs.Resolution.{up_to_last_slash}
use Rattle.iri_resolve.proofs.DotStepLemmas.{dot_step-cases}
use Rattle.iri_resolve.proofs.CutLemmas.{before_first-at, position_or_len-no}

-- ---- characters stay allowed

take-allowed : (n : ℕ) (xs : List ℕ) → is_allowed xs ≡ true → is_allowed (take n xs) ≡ true
take-allowed n xs h =
    (and_parts _ _
    (sym (list_all-append _ (take n xs) (drop n xs)) ∙ ap is_allowed (take-append-drop n xs) ∙ h)).0

drop-allowed : (n : ℕ) (xs : List ℕ) → is_allowed xs ≡ true → is_allowed (drop n xs) ≡ true
drop-allowed n xs h =
    (and_parts _ _
    (sym (list_all-append _ (take n xs) (drop n xs)) ∙ ap is_allowed (take-append-drop n xs) ∙ h)).1

append-allowed : (xs ys : List ℕ) → is_allowed xs ≡ true → is_allowed ys ≡ true → is_allowed (xs ++ ys) ≡ true
append-allowed xs ys h k = list_all-append _ xs ys ∙ and_from _ _ h k

reverse-allowed : (xs : List ℕ) → is_allowed xs ≡ true → is_allowed (reverse xs) ≡ true
reverse-allowed [] h = refl
reverse-allowed (x ∷ xs) h =
    let parts = and_parts _ _ h in
    ap is_allowed (reverse-append (x ∷ []) xs)
    ∙ append-allowed (reverse xs) (x ∷ []) (reverse-allowed xs parts.1) (and_from _ _ parts.0 refl)

-- ---- parts

pub record AreAllowed (parts : Parts) : Type 0 where
  pub scheme : IfSome parts.scheme (λ part. is_allowed part ≡ true)
  pub authority : IfSome parts.authority (λ part. is_allowed part ≡ true)
  pub path : is_allowed parts.path ≡ true
  pub query : IfSome parts.query (λ part. is_allowed part ≡ true)
  pub fragment : IfSome parts.fragment (λ part. is_allowed part ≡ true)

-- a part that is there on a test
some-allowed : (t : Bool) (part : List ℕ) → is_allowed part ≡ true
    → IfSome (cond t (Some part) None) (λ part. is_allowed part ≡ true)
some-allowed true part h = h
some-allowed false part h = tt

choice-allowed : (t : Bool) (xs ys : List ℕ) → is_allowed xs ≡ true → is_allowed ys ≡ true
    → is_allowed (cond t xs ys) ≡ true
choice-allowed true xs ys h k = h
choice-allowed false xs ys h k = k

pub parts_of-allowed : (text : List ℕ) → is_allowed text ≡ true → AreAllowed (parts_of text)
parts_of-allowed text h =
    let identifier = before_first is_hash text in
    let hierarchy = before_first is_question_mark identifier in
    let hi : is_allowed identifier ≡ true = take-allowed _ text h in
    let hh : is_allowed hierarchy ≡ true = take-allowed _ identifier hi in
    let rest = without_scheme hierarchy in
    let hr : is_allowed rest ≡ true =
    choice-allowed (has_scheme hierarchy) (after_first is_colon hierarchy) hierarchy
    (drop-allowed _ hierarchy hh) hh in
    record {
      scheme = some-allowed _ (before_first is_colon hierarchy) (take-allowed _ hierarchy hh);
      authority =
          some-allowed _ (before_first is_slash (drop 2 rest))
          (take-allowed _ (drop 2 rest) (drop-allowed 2 rest hr));
      path = choice-allowed (has_authority rest) (from_first is_slash (drop 2 rest)) rest
          (drop-allowed _ (drop 2 rest) (drop-allowed 2 rest hr)) hr;
      query = some-allowed _ (after_first is_question_mark identifier) (drop-allowed _ identifier hi);
      fragment = some-allowed _ (after_first is_hash text) (drop-allowed _ text h);
    }

-- ---- paths

record DotsAllowed (d : Dots) : Type 0 where
  input : is_allowed d.input ≡ true
  output : is_allowed d.output ≡ true

without_last_segment-allowed : (path : List ℕ) → is_allowed path ≡ true
    → is_allowed (without_last_segment path) ≡ true
without_last_segment-allowed path h =
    let back = reverse path in
    reverse-allowed (after_first is_slash back)
    (drop-allowed (position_or_len is_slash back + 1) back (reverse-allowed path h))

first_segment-allowed : (path : List ℕ) → is_allowed path ≡ true → is_allowed (first_segment path) ≡ true
first_segment-allowed path h =
    append-allowed (take 1 path) _ (take-allowed 1 path h)
    (take-allowed _ (drop 1 path) (drop-allowed 1 path h))

dot_step-allowed : (d : Dots) → DotsAllowed d → DotsAllowed (dot_step d)
dot_step-allowed d h =
    let last = without_last_segment-allowed d.output h.output in
    let segment = first_segment d.input in
    dot_step-cases DotsAllowed d.input d.output
    (record { input = drop-allowed 3 d.input h.input; output = h.output })
    (record { input = drop-allowed 2 d.input h.input; output = h.output })
    (λ _. record { input = refl; output = h.output })
    (record { input = drop-allowed 3 d.input h.input; output = last })
    (λ _. record { input = refl; output = last })
    (record { input = refl; output = h.output })
    (record {
      input = drop-allowed (length segment) d.input h.input;
      output =
          append-allowed d.output segment h.output (first_segment-allowed d.input h.input);
    })

dot_steps-allowed : (n : ℕ) (d : Dots) → DotsAllowed d → is_allowed (dot_steps n d).output ≡ true
dot_steps-allowed zero d h = h.output
dot_steps-allowed (suc n) d h = dot_steps-allowed n (dot_step d) (dot_step-allowed d h)

without_dot_segments-allowed : (path : List ℕ) → is_allowed path ≡ true
    → is_allowed (without_dot_segments path) ≡ true
without_dot_segments-allowed path h =
    dot_steps-allowed (length path) (record { input = path; output = [] })
    (record { input = h; output = refl })

up_to_last_slash-allowed : (path : List ℕ) → is_allowed path ≡ true
    → is_allowed (up_to_last_slash path) ≡ true
up_to_last_slash-allowed path h =
    let back = reverse path in
    reverse-allowed (from_first is_slash back)
    (drop-allowed (length (before_first is_slash back)) back (reverse-allowed path h))

merged_with-allowed : (authority : Option (List ℕ)) (front path : List ℕ) → is_allowed front ≡ true
    → is_allowed path ≡ true → is_allowed (merged_with authority front path) ≡ true
merged_with-allowed (Some authority) [] path h k = k
merged_with-allowed (Some authority) (b ∷ bs) path h k =
    append-allowed (up_to_last_slash (b ∷ bs)) path (up_to_last_slash-allowed (b ∷ bs) h) k
merged_with-allowed None front path h k =
    append-allowed (up_to_last_slash front) path (up_to_last_slash-allowed front h) k

target_path-allowed : (base : Parts) (path : List ℕ) → is_allowed base.path ≡ true → is_allowed path ≡ true
    → is_allowed (target_path base path) ≡ true
target_path-allowed base [] h k = h
target_path-allowed base (b ∷ bs) h k =
    choice-allowed (is_slash b) (without_dot_segments (b ∷ bs))
    (without_dot_segments (merged_path base (b ∷ bs))) (without_dot_segments-allowed (b ∷ bs) k)
    (without_dot_segments-allowed (merged_path base (b ∷ bs))
    (merged_with-allowed base.authority base.path (b ∷ bs) h k))

target_query-allowed : (base : Option (List ℕ)) (path : List ℕ) (query : Option (List ℕ))
    → IfSome base (λ part. is_allowed part ≡ true) → IfSome query (λ part. is_allowed part ≡ true)
    → IfSome (target_query base path query) (λ part. is_allowed part ≡ true)
target_query-allowed base [] None h k = h
target_query-allowed base [] (Some query) h k = k
target_query-allowed base (b ∷ bs) query h k = k

-- ---- the target

target_with-allowed : (authority : Option (List ℕ)) (base reference : Parts)
    → IfSome authority (λ part. is_allowed part ≡ true) → AreAllowed base → AreAllowed reference
    → AreAllowed (target_with authority base reference)
target_with-allowed (Some authority) base reference a b r = record {
  scheme = b.scheme;
  authority = a;
  path = without_dot_segments-allowed reference.path r.path;
  query = r.query;
  fragment = r.fragment;
}
target_with-allowed None base reference a b r = record {
  scheme = b.scheme;
  authority = b.authority;
  path = target_path-allowed base reference.path b.path r.path;
  query = target_query-allowed base.query reference.path reference.query b.query r.query;
  fragment = r.fragment;
}

with_front-allowed : (front : List ℕ) (part : Option (List ℕ)) → is_allowed front ≡ true
    → IfSome part (λ part. is_allowed part ≡ true) → is_allowed (with_front front part) ≡ true
with_front-allowed front None h k = refl
with_front-allowed front (Some part) h k = append-allowed front part h k

with_back-allowed : (part : Option (List ℕ)) (back : List ℕ) → is_allowed back ≡ true
    → IfSome part (λ part. is_allowed part ≡ true) → is_allowed (with_back part back) ≡ true
with_back-allowed None back h k = refl
with_back-allowed (Some part) back h k = append-allowed part back k h

written-allowed : (parts : Parts) → AreAllowed parts → is_allowed (written parts) ≡ true
written-allowed parts h =
    let fragment = with_front (codes "#") parts.fragment in
    let query = with_front (codes "?") parts.query in
    let authority = with_front (codes "//") parts.authority in
    append-allowed (with_back parts.scheme (codes ":")) (authority ++ (parts.path ++ (query ++ fragment)))
    (with_back-allowed parts.scheme (codes ":") refl h.scheme)
    (append-allowed authority (parts.path ++ (query ++ fragment))
    (with_front-allowed (codes "//") parts.authority refl h.authority)
    (append-allowed parts.path (query ++ fragment) h.path
    (append-allowed query fragment (with_front-allowed (codes "?") parts.query refl h.query)
    (with_front-allowed (codes "#") parts.fragment refl h.fragment))))

-- ---- its scheme

-- a byte of a scheme is not this mark
mark-free : (mark : ℕ) → is_scheme_byte mark ≡ false → (xs : List ℕ) → list_all is_scheme_byte xs ≡ true
    → list_any (λ b. b == mark) xs ≡ false
mark-free mark none [] h = refl
mark-free mark none (x ∷ xs) h =
    let parts = and_parts _ _ h in
    or_from (x == mark) _
    (false_from_ne_true _
    (λ same. false≢true (sym none ∙ ap is_scheme_byte (sym (eqb-true x mark same)) ∙ parts.0)))
    (mark-free mark none xs parts.1)

is_scheme-bytes : (scheme : List ℕ) → is_scheme scheme ≡ true → list_all is_scheme_byte scheme ≡ true
is_scheme-bytes [] h = absurd (false≢true h)
is_scheme-bytes (b ∷ bs) h = let parts = and_parts _ _ h in
    and_from _ _ (or_left (is_letter b) _ parts.0) parts.1

-- where none passes in front, the cut is behind
before_first-behind : (p : ℕ → Bool) (xs ys : List ℕ) → list_any p xs ≡ false
    → before_first p (xs ++ ys) ≡ xs ++ before_first p ys
before_first-behind p [] ys h = refl
before_first-behind p (x ∷ xs) ys h =
    let parts = or_parts (p x) (list_any p xs) h in
    rw (position_or_len-no p x (xs ++ ys) parts.0)
    (ap (λ (l : List ℕ). x ∷ l) (before_first-behind p xs ys parts.1))

has_scheme-written : (scheme rest : List ℕ) → is_scheme scheme ≡ true
    → has_scheme (scheme ++ (58 ∷ rest)) ≡ true
has_scheme-written scheme rest h =
    let any = list_any-append is_colon scheme (58 ∷ rest) ∙ or_right (list_any is_colon scheme) _ refl in
    let cut =
    before_first-at is_colon scheme 58 rest (mark-free 58 refl scheme (is_scheme-bytes scheme h)) refl in
    and_from _ _ any (ap is_scheme cut ∙ h)

-- a scheme that was written is read again
scheme-written : (scheme rest : List ℕ) → is_scheme scheme ≡ true
    → is_some (parts_of ((scheme ++ (58 ∷ [])) ++ rest)).scheme ≡ true
scheme-written scheme rest h =
    let front = scheme ++ (58 ∷ []) in
    let bytes = is_scheme-bytes scheme h in
    let no_hash = list_any-append is_hash scheme (58 ∷ [])
    ∙ or_from _ _ (mark-free 35 refl scheme bytes) refl in
    let no_question_mark = list_any-append is_question_mark scheme (58 ∷ [])
    ∙ or_from _ _ (mark-free 63 refl scheme bytes) refl in
    let identifier = before_first is_hash rest in
    let hierarchy = before_first is_question_mark identifier in
    let cut = ap (before_first is_question_mark) (before_first-behind is_hash front rest no_hash)
    ∙ before_first-behind is_question_mark front identifier no_question_mark
    ∙ append_assoc scheme (58 ∷ []) hierarchy in
    ap (λ (l : List ℕ). is_some (scheme_of l)) cut
    ∙ ap (λ (t : Bool). is_some
    (cond t (Some (before_first is_colon (scheme ++ (58 ∷ hierarchy)))) None))
    (has_scheme-written scheme hierarchy h)

scheme_of-written : (hierarchy rest : List ℕ) (t : Bool) → has_scheme hierarchy ≡ t
    → is_some (cond t (Some (before_first is_colon hierarchy)) None) ≡ true
    → is_some
    (parts_of
    (with_back (cond t (Some (before_first is_colon hierarchy)) None) (codes ":") ++ rest)).scheme ≡ true
scheme_of-written hierarchy rest true e h =
    scheme-written (before_first is_colon hierarchy) rest (and_parts _ _ e).1
scheme_of-written hierarchy rest false e h = absurd (false≢true h)

target_with-scheme : (authority : Option (List ℕ)) (base reference : Parts)
    → (target_with authority base reference).scheme ≡ base.scheme
target_with-scheme (Some authority) base reference = refl
target_with-scheme None base reference = refl

target-IsAbsolute : (base reference : List ℕ) → IsAbsolute base → is_allowed reference ≡ true
    → IsAbsolute (written (target_of (parts_of base) (parts_of reference)))
target-IsAbsolute base reference b h =
    let target = target_of (parts_of base) (parts_of reference) in
    let r = parts_of-allowed reference h in
    let rest = with_front (codes "//") target.authority
    ++ (target.path ++ (with_front (codes "?") target.query ++ with_front (codes "#") target.fragment)) in
    let hierarchy = before_first is_question_mark (before_first is_hash base) in
    record {
      scheme = subst
          (λ (o : Option (List ℕ)). is_some (parts_of (with_back o (codes ":") ++ rest)).scheme ≡ true)
          (sym (target_with-scheme (parts_of reference).authority (parts_of base) (parts_of reference)))
          (scheme_of-written hierarchy rest _ refl b.scheme);
      allowed =
          written-allowed target
          (target_with-allowed (parts_of reference).authority (parts_of base)
          (parts_of reference) r.authority (parts_of-allowed base b.allowed) r);
    }

resolved_with-IsAbsolute : (scheme : Option (List ℕ)) (base reference : List ℕ)
    → (parts_of reference).scheme ≡ scheme → IsAbsolute base → is_allowed reference ≡ true
    → IsAbsolute (resolved_with scheme base reference)
resolved_with-IsAbsolute (Some scheme) base reference e b h = record { scheme = ap is_some e; allowed = h }
resolved_with-IsAbsolute None base reference e b h = target-IsAbsolute base reference b h

pub resolved-IsAbsolute : (base reference : List ℕ) → IsAbsolute base → is_allowed reference ≡ true
    → IsAbsolute (resolved base reference)
resolved-IsAbsolute base reference b h = resolved_with-IsAbsolute _ base reference refl b h
