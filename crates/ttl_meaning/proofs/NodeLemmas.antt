-- Blank nodes by the way in which they are spelled.
use Rattle.std.proofs.Common.{◌≡◌, ℕ, ◌<◌, ◌^◌, List, ◌++◌, codes, get_or, Result, Ok}
use Rattle.std.proofs.Common.{refl, sym, ap, subst, ◌∙◌, arith, false, nat_eq}
use Rattle.std.specs.Prelude.{decimal, Contains}
use Rattle.std.specs.Str.Parse.{ParsesUnsigned}
use Rattle.std.proofs.lemmas.Bool.Decides.{nat_tests}
use Rattle.std.proofs.lemmas.Fmt.{decimal_injective, parse-decimal}
use Rattle.std.proofs.lemmas.List.{append_cancel_left}
use Rattle.shx_term.specs.declared.term.BlankName.{BlankName}
use Rattle.shx_term.specs.declared.term.LocalName.{LocalName}
use Rattle.shx_term.specs.declared.term.LocalName.TheVariants.{Labelled, Anonymous}
use Rattle.shx_term.specs.declared.term.Scope.{Scope}
use Rattle.shx_term.specs.declared.term.Scope.TheVariants.{Data, Shapes}
use Rattle.shx_term.specs.declared.term.Term.TheVariants.{Blank}
use Rattle.shx_term.specs.Spelling.{spelling_of, blank_spelling}
use Rattle.ttl_meaning.specs.declared.document.Document.{Document}
use Rattle.ttl_meaning.specs.InForce.{HasName, HasNode}
use Rattle.ttl_meaning.specs.ShapesNodes.{IsLabel, MayBeName, MayBeOfShapes}

-- ---- numbers

-- a number is read from its spelling
pub parsed : {E : Type 0} (spelled : List ℕ) (r : Result ℕ E) → ParsesUnsigned 32 10 spelled r
    → (n : ℕ) → n < 2 ^ 32 → decimal n ≡ spelled → r ≡ Ok n
parsed spelled r parses n few is =
    parse-decimal 32 n spelled r (omega (arith, few)) (omega (arith, few)) (sym is) parses

pub parsed_same : {E : Type 0} (spelled : List ℕ) (r : Result ℕ E) → ParsesUnsigned 32 10 spelled r
    → (n m : ℕ) → n < 2 ^ 32 → decimal n ≡ spelled → r ≡ Ok m → n ≡ m
parsed_same spelled r parses n m few is read =
    cc (parsed spelled r parses n few is, read)

-- ---- names

-- a number, if it is one, is within 32 bits
abbrev IsShort : LocalName → Type 0
IsShort (Labelled label) = Unit {0}
IsShort (Anonymous number) = number < 2 ^ 32

-- texts whose third bytes differ, as those of names of two scopes or two kinds do
apart : {xs ys : List ℕ} → nat_eq (get_or xs 2 0) (get_or ys 2 0) ≡ false → xs ≡ ys → ⊥
apart differ same =
    let third = ap (λ (l : List ℕ). get_or l 2 0) same in grind (arith, nat_tests)

other_scope : (a b : LocalName) → blank_spelling Data a ≡ blank_spelling Shapes b → ⊥
other_scope (Labelled l) (Labelled k) e = apart refl e
other_scope (Labelled l) (Anonymous n) e = apart refl e
other_scope (Anonymous m) (Labelled k) e = apart refl e
other_scope (Anonymous m) (Anonymous n) e = apart refl e

same_number : (front : List ℕ) (m n : ℕ) → m < 2 ^ 32 → n < 2 ^ 32 → front ++ decimal m ≡ front ++ decimal n
    → m ≡ n
same_number front m n few less same =
    decimal_injective m n (omega (arith, few)) (omega (arith, less))
    (append_cancel_left front (decimal m) (decimal n) same)

same_name : (s t : Scope) (a b : LocalName) → IsShort a → IsShort b
    → blank_spelling s a ≡ blank_spelling t b → (s ≡ t) × (a ≡ b)
same_name Data Data (Labelled l) (Labelled k) p q e =
    (refl, ap Labelled (append_cancel_left (codes "_:d-") l k e))
same_name Data Data (Anonymous m) (Anonymous n) p q e =
    (refl, ap Anonymous (same_number (codes "_:a-") m n p q e))
same_name Shapes Shapes (Labelled l) (Labelled k) p q e =
    (refl, ap Labelled (append_cancel_left (codes "_:s-") l k e))
same_name Shapes Shapes (Anonymous m) (Anonymous n) p q e =
    (refl, ap Anonymous (same_number (codes "_:t-") m n p q e))
same_name Data Data (Labelled l) (Anonymous n) p q e = absurd (apart refl e)
same_name Data Data (Anonymous m) (Labelled k) p q e = absurd (apart refl e)
same_name Shapes Shapes (Labelled l) (Anonymous n) p q e = absurd (apart refl e)
same_name Shapes Shapes (Anonymous m) (Labelled k) p q e = absurd (apart refl e)
same_name Data Shapes a b p q e = absurd (other_scope a b e)
same_name Shapes Data a b p q e = absurd (other_scope b a (sym e))

-- nodes that are spelled alike are one
same_node : (node other : BlankName) → IsShort node.name → IsShort other.name
    → spelling_of (Blank node) ≡ spelling_of (Blank other) → node ≡ other
same_node node other p q is =
    let same = same_name node.scope other.scope node.name other.name p q is in
    ap (λ scope. record { scope = scope; name = node.name }) same.0
    ∙ ap (λ name. record { scope = other.scope; name = name }) same.1

-- a name is spelled in one way
name_told : (s t : Scope) (a b : LocalName) → IsShort a → IsShort b → (text : List ℕ)
    → blank_spelling s a ≡ text → blank_spelling t b ≡ text → a ≡ b
name_told s t a b p q text is also = (same_name s t a b p q (is ∙ sym also)).1

-- ---- the nodes of a document

module _ (document : Document) where
  short : (name : LocalName) → HasName document name → IsShort name
  short (Labelled label) has = tt
  short (Anonymous number) has = omega (arith, has.1, document.few)

  pub one_node : (node other : BlankName) → HasNode document node → HasNode document other
      → spelling_of (Blank node) ≡ spelling_of (Blank other) → node ≡ other
  one_node node other has also is =
      same_node node other (short node.name has.1) (short other.name also.1) is

  -- the label of a node that is spelled with one
  pub its_label : (node : BlankName) (label : List ℕ) → HasNode document node
      → spelling_of (Blank node) ≡ codes "_:d-" ++ label → Contains document.labels.items label
  its_label node label has is =
      subst (HasName document)
      (name_told node.scope Data node.name (Labelled label) (short node.name has.1) tt _ is refl) has.1

-- ---- the nodes that a shapes text may have

short_shape : (name : LocalName) → MayBeName name → IsShort name
short_shape (Labelled label) may = tt
short_shape (Anonymous number) may = may.1

pub one_shape : (node other : BlankName) → MayBeOfShapes node → MayBeOfShapes other
    → spelling_of (Blank node) ≡ spelling_of (Blank other) → node ≡ other
one_shape node other may also is =
    same_node node other (short_shape node.name may.1) (short_shape other.name also.1) is

-- the label of a node that is spelled with one
pub shape_label : (node : BlankName) (label : List ℕ) → MayBeOfShapes node
    → spelling_of (Blank node) ≡ codes "_:s-" ++ label → IsLabel label
shape_label node label may is =
    subst MayBeName
    (name_told node.scope Shapes node.name (Labelled label) (short_shape node.name may.1) tt _ is refl) may.1
