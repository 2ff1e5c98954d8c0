-- The texts of a sequence and of an alternative, in any format, by the lists of their parts.
use Rattle.std.proofs.Common.{◌≡◌, ℕ, ◌+◌, ◌<◌, List, [], ◌∷◌, ◌++◌, flat_map, map, length, take}
use Rattle.std.proofs.Common.{get_or, refl, sym, ap, ◌∙◌, append-nil, append_assoc}
use Rattle.std.proofs.lemmas.Grind.{flat_map-append}
use Rattle.std.proofs.lemmas.List.{map-append, take_more}
use Rattle.shx_term.specs.declared.term.Term.{Term}
use Rattle.path_eval.specs.declared.path.Path.{Path}
use Rattle.path_eval.specs.Route.{sequence, alternative, route_of}
use Rattle.text_output.specs.declared.format.Format.{Format}
use Rattle.report_write.specs.declared.path_form.PathForm.{PathForm}
use Rattle.report_write.specs.declared.path_form.PathForm.TheVariants.{Sequence, Alternative}
use Rattle.report_write.specs.PathForms.{between, closing, opening}
use Rattle.report_write.specs.PathTexts.{enclosed, path_text, further_parts, further_members}
use Rattle.report_write.specs.inner.Parts.{path_texts, before_next, joined}

-- ---- one text more

pub joined-more : (mark : List ℕ) (texts : List (List ℕ)) (next : List ℕ)
    → joined mark (texts ++ next ∷ []) ≡ joined mark texts ++ before_next mark texts ++ next
joined-more mark [] next = append-nil next
joined-more mark (text ∷ texts) next =
    let behind = λ (one : List ℕ). mark ++ one in
    ap (λ others. text ++ others) (flat_map-append behind texts (next ∷ [])
    ∙ ap (λ last. flat_map behind texts ++ last) (append-nil (mark ++ next)))
    ∙ sym (append_assoc text (flat_map behind texts) (mark ++ next))
    ∙ sym (append_assoc (text ++ flat_map behind texts) mark next)

-- the same behind what stands left of all
pub opened-more : (left mark : List ℕ) (texts : List (List ℕ)) (next : List ℕ)
    → left ++ joined mark texts ++ before_next mark texts ++ next ≡ left ++ joined mark (texts ++ next ∷ [])
opened-more left mark texts next =
    ap (λ front. front ++ next) (append_assoc left (joined mark texts) (before_next mark texts))
    ∙ append_assoc left (joined mark texts ++ before_next mark texts) next
    ∙ ap (λ whole. left ++ whole) (sym (joined-more mark texts next))

-- the mark stands before all but the first
pub before_next-more : (mark : List ℕ) (texts : List (List ℕ)) (next : List ℕ)
    → before_next mark (texts ++ next ∷ []) ≡ mark
before_next-more mark [] next = refl
before_next-more mark (text ∷ texts) next = refl

-- the texts of one path more
pub path_texts-more : (format : Format) (terms : List Term) (paths : List Path) (i : ℕ) (path : Path)
    → i < length paths → path ≡ get_or paths i path
    → path_texts format terms (take (i + 1) paths)
    ≡ path_texts format terms (take i paths) ++ path_text format terms (route_of path) ∷ []
path_texts-more format terms paths i path inside is =
    let text = λ (one : Path). path_text format terms (route_of one) in
    ap (map text) (take_more paths i path inside)
    ∙ map-append text (take i paths) (get_or paths i path ∷ [])
    ∙ ap (λ one. map text (take i paths) ++ text one ∷ []) (sym is)

-- ---- what follows the first text

abbrev rest : List ℕ → List ℕ → List (List ℕ) → List ℕ
rest mark right [] = right
rest mark right (text ∷ texts) = mark ++ text ++ rest mark right texts

rest-joined : (mark right : List ℕ) (texts : List (List ℕ))
    → rest mark right texts ≡ flat_map (λ next. mark ++ next) texts ++ right
rest-joined mark right [] = refl
rest-joined mark right (text ∷ texts) =
    ap (λ behind. mark ++ text ++ behind) (rest-joined mark right texts)
    ∙ sym (append_assoc (mark ++ text) (flat_map (λ next. mark ++ next) texts) right)

-- a first text and what follows it
first-rest : (left mark right text : List ℕ) (texts : List (List ℕ))
    → left ++ text ++ rest mark right texts ≡ left ++ joined mark (text ∷ texts) ++ right
first-rest left mark right text texts =
    let others = flat_map (λ (next : List ℕ). mark ++ next) texts in
    ap (λ behind. left ++ text ++ behind) (rest-joined mark right texts)
    ∙ sym (append_assoc (left ++ text) others right)
    ∙ ap (λ front. front ++ right) (append_assoc left text others)

further_parts-rest : (format : Format) (terms : List Term) (parts : List Path)
    → further_parts format terms (sequence (map route_of parts))
    ≡ rest (between format Sequence) (closing format Sequence) (path_texts format terms parts)
further_parts-rest format terms [] = refl
further_parts-rest format terms (part ∷ parts) =
    ap (λ behind. between format Sequence ++ path_text format terms (route_of part) ++ behind)
    (further_parts-rest format terms parts)

further_members-rest : (format : Format) (terms : List Term) (members : List Path)
    → further_members format terms (alternative (map route_of members))
    ≡ rest (between format Alternative) (closing format Alternative) (path_texts format terms members)
further_members-rest format terms [] = refl
further_members-rest format terms (member ∷ members) =
    ap (λ behind. between format Alternative ++ path_text format terms (route_of member) ++ behind)
    (further_members-rest format terms members)

-- ---- both forms

-- all parts, with a mark between each two, between the marks of a form
abbrev pub whole_text : Format → PathForm → List Term → List Path → List ℕ
whole_text format form terms parts =
    enclosed format form (joined (between format form) (path_texts format terms parts))

-- of no part
empty_text : (format : Format) (form : PathForm)
    → opening format form ++ closing format form ≡ enclosed format form []
empty_text format form = ap (λ front. front ++ closing format form) (sym (append-nil (opening format form)))

pub path_text-sequence : (format : Format) (terms : List Term) (parts : List Path)
    → path_text format terms (sequence (map route_of parts)) ≡ whole_text format Sequence terms parts
path_text-sequence format terms [] = empty_text format Sequence
path_text-sequence format terms (part ∷ parts) =
    let first = path_text format terms (route_of part) in
    ap (λ behind. opening format Sequence ++ first ++ behind) (further_parts-rest format terms parts)
    ∙ first-rest (opening format Sequence) (between format Sequence) (closing format Sequence) first
    (path_texts format terms parts)

pub path_text-alternative : (format : Format) (terms : List Term) (members : List Path)
    → path_text format terms (alternative (map route_of members))
    ≡ whole_text format Alternative terms members
path_text-alternative format terms [] = empty_text format Alternative
path_text-alternative format terms (member ∷ members) =
    let first = path_text format terms (route_of member) in
    ap (λ behind. opening format Alternative ++ first ++ behind) (further_members-rest format terms members)
    ∙ first-rest (opening format Alternative) (between format Alternative) (closing format Alternative) first
    (path_texts format terms members)
